-- A token's bytes: those of a token that is made longer, and of its first part.
use Prim.Native.Nat.{ℕ}
use mathlib.Core.Path.{◌≡◌, sym, ◌∙◌, ap}
use mathlib.Core.Bool.{true, not, ◌&&◌, false≢true}
use mathlib.Core.List.{List, [], ◌∷◌, ◌++◌, append_assoc, append-nil}
use lib.Dec.{eqb}
use Rattle.grammar.specs.Spelling.{Token, is_blank, joins, goes_on, whole}
use Rattle.grammar.proofs.Bools.{both, both_true, and_assoc}

pub goes-on-append : (q r v : List ℕ) → goes_on q (r ++ v) ≡ goes_on q r && goes_on (q ++ r) v
unfolding goes_on
goes-on-append q [] v = rw (append-nil q)
goes-on-append q (b ∷ r) v =
    ap (λ x. joins q b && x) (goes-on-append (q ++ (b ∷ [])) r v ∙ ap (λ x. goes_on (q ++ (b ∷ [])) r && goes_on x v) (append_assoc q (b ∷ []) r))
    ∙ and_assoc (joins q b) (goes_on (q ++ (b ∷ [])) r) (goes_on (q ++ (b ∷ r)) v)

-- a token made longer
pub whole_append : (q v : List ℕ) → whole q ≡ true → goes_on q v ≡ true → whole (q ++ v) ≡ true
unfolding whole
whole_append [] v h e = absurd (false≢true h)
whole_append (c ∷ r) v h e =
    let k = both (not (is_blank c) && not (eqb c 47)) (goes_on (c ∷ []) r) h in
    both_true _ _ (k.0) (goes-on-append (c ∷ []) r v ∙ both_true _ _ (k.1) e)

-- a token that q begins goes on from q
pub goes-on-from : (q v : Token) → whole q ≡ true → whole (q ++ v) ≡ true → goes_on q v ≡ true
unfolding whole
goes-on-from [] v h e = absurd (false≢true h)
goes-on-from (c ∷ r) v h e = (both (goes_on (c ∷ []) r) _ (sym (goes-on-append (c ∷ []) r v) ∙ (both (not (is_blank c) && not (eqb c 47)) _ e).1)).1

-- what a token goes on from is a token
pub whole-front : (q v : Token) → goes_on q v ≡ true → whole (q ++ v) ≡ true → whole q ≡ true
unfolding whole goes_on joins
whole-front [] [] g e = absurd (false≢true e)
whole-front [] (b ∷ v) g e = absurd (false≢true g)
whole-front (c ∷ q) v g e =
    let h = both (not (is_blank c) && not (eqb c 47)) (goes_on (c ∷ []) (q ++ v)) e in
    both_true _ _ (h.0) (both (goes_on (c ∷ []) q) _ (sym (goes-on-append (c ∷ []) q v) ∙ h.1)).0
