-- Bytes can become a token of a lead exactly when the test `could` says so.
use Prim.Native.Nat.{ℕ}
use Prim.Native.String.{String}
use mathlib.Core.Path.{◌≡◌, refl, ◌∙◌, ap}
use mathlib.Core.Bool.{true, false, false≢true}
use mathlib.Core.List.{List, [], ◌∷◌, ◌++◌, append-nil}
use Rattle.grammar.specs.Spelling.{Token, is_letter, is_digit, goes_on, whole}
use Rattle.grammar.specs.Leads.{bytes, same, begins, word_bytes, is_word, decimal, could_decimal, is_real, Lead, the, name, up_to, real, fits, accepts, could}
use Rattle.grammar.proofs.Bools.{both, both_true}
use Rattle.grammar.proofs.Tokens.{goes-on-from, whole-front, whole_append}
use Rattle.grammar.proofs.Same.{same-eq, same_self, begins-self, begins-front, begins-rest}
use Rattle.grammar.proofs.Names.{none_low, Sound, name-sound, words_append}
use Rattle.grammar.proofs.Numbers.{number-front}
use Rattle.grammar.proofs.Decimals.{decimal-sound, decimal-front, decimal-could, number-goes-on}

-- a token of the lead is a token
pub accepted-whole : (reserved : List String) (l : Lead) (t : Token) → accepts reserved l t ≡ true → whole t ≡ true
unfolding accepts
accepted-whole reserved l t e = (both (whole t) (fits reserved l t) e).0

-- A lead's test is sound and complete
pub could-sound : (reserved : List String) → none_low reserved ≡ true → (l : Lead) (q : Token) → whole q ≡ true → could l q ≡ true → Sound reserved l q
unfolding could accepts fits goes_on
could-sound reserved n (the s) q w e =
    let h = both (whole (bytes s)) (begins q (bytes s)) e in
    let r = begins-rest q (bytes s) (h.1) in
    let k : whole (q ++ r.0) ≡ true = ap whole (r.1) ∙ h.0 in
    (r.0, goes-on-from q (r.0) w k, both_true _ _ k (ap (λ t. same (bytes s) t) (r.1) ∙ same_self (bytes s)))
could-sound reserved n name q w e = name-sound reserved n q w e
could-sound reserved _ (up_to n) q w e = ([], refl, rw (append-nil q) (both_true _ _ w e))
could-sound reserved n real [] w e = absurd (false≢true e)
could-sound reserved n real (c ∷ q) w e =
    let h = both (is_digit c) (could_decimal 14 q) e in
    let f = decimal-sound 14 q (h.1) in
    let g = number-goes-on c q (f.0) (h.0) (f.1) in
    (f.0, g, both_true _ _ (whole_append (c ∷ q) (f.0) w g) (unfold is_real in (both_true _ _ (h.0) (f.2))))

-- what begins bytes that could become a token of the lead could become one
pub could-front : (l : Lead) (b : ℕ) (q v : List ℕ) → could l (b ∷ (q ++ v)) ≡ true → could l (b ∷ q) ≡ true
unfolding could is_word
could-front (the w) b q v e =
    let h = both (whole (bytes w)) (begins (b ∷ (q ++ v)) (bytes w)) e in
    both_true _ _ (h.0) (begins-front (b ∷ q) v (bytes w) (h.1))
could-front name b q v e = let h = both (is_letter b) (word_bytes (q ++ v)) e in both_true _ _ (h.0) (words_append q v (h.1))
could-front (up_to n) b q v e = number-front b q v n e
could-front real b q v e = let h = both (is_digit b) (could_decimal 14 (q ++ v)) e in both_true _ _ (h.0) (decimal-front 14 q v (h.1))

-- a token of the lead could become one
accepted-could : (reserved : List String) (l : Lead) (t : Token) → accepts reserved l t ≡ true → could l t ≡ true
unfolding could accepts fits is_real
accepted-could reserved (the w) t e =
    let h = both (whole t) (same (bytes w) t) e in
    rw (same-eq (bytes w) t (h.1)) (both_true _ _ (h.0) (begins-self t))
accepted-could reserved name t e = (both (is_word t) _ (both (whole t) _ e).1).0
accepted-could reserved (up_to n) t e = (both (whole t) _ e).1
accepted-could reserved real [] e = absurd (false≢true (both (whole []) false e).1)
accepted-could reserved real (b ∷ t) e =
    let h = both (is_digit b) (decimal 14 t) (both (whole (b ∷ t)) _ e).1 in
    both_true _ _ (h.0) (decimal-could 14 t (h.1))

pub could-complete : (reserved : List String) (l : Lead) (q v : Token) → goes_on q v ≡ true → accepts reserved l (q ++ v) ≡ true → could l q ≡ true
unfolding whole
could-complete reserved l [] v g e = absurd (false≢true (whole-front [] v g (accepted-whole reserved l v e)))
could-complete reserved l (b ∷ q) v g e = could-front l b q v (accepted-could reserved l (b ∷ (q ++ v)) e)
