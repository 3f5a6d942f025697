-- Leads that do not clash have no token in common.
use Prim.Native.Nat.{ℕ, zero, suc}
use Prim.Native.String.{String}
use lib.Dec.{eqb}
use mathlib.Core.Path.{◌≡◌, refl, sym, ◌∙◌, ap}
use mathlib.Core.Bool.{Bool, true, false, true≢false, false≢true}
use mathlib.Core.List.{List, [], ◌∷◌}
use Rattle.grammar.specs.Spelling.{Token, is_letter, is_digit, whole}
use Rattle.grammar.specs.Leads.{bytes, same, word_bytes, is_word, digits, is_number, decimal, is_real, Lead, the, name, up_to, real, fits, accepts}
use Rattle.grammar.proofs.Bools.{both, byte-is}
use Rattle.grammar.proofs.Same.{same-eq, same_self}
use Rattle.grammar.proofs.Decimals.{digit-no-letter}

-- the leads may begin with one token
unfoldable pub clash : List String → Lead → Lead → Bool
clash reserved (the w) (the v) = same (bytes w) (bytes v)
clash reserved (the w) name = accepts reserved name (bytes w)
clash reserved (the w) (up_to n) = accepts reserved (up_to n) (bytes w)
clash reserved (the w) real = accepts reserved real (bytes w)
clash reserved name (the v) = accepts reserved name (bytes v)
clash reserved name name = true
clash reserved name (up_to n) = false
clash reserved name real = false
clash reserved (up_to n) (the v) = accepts reserved (up_to n) (bytes v)
clash reserved (up_to n) name = false
clash reserved (up_to n) (up_to k) = true
clash reserved (up_to n) real = false
clash reserved real (the v) = accepts reserved real (bytes v)
clash reserved real name = false
clash reserved real (up_to n) = false
clash reserved real real = true

word-no-digit : (t : Token) → is_word t ≡ true → is_number t ≡ true → ⊥
unfolding is_word is_number
word-no-digit [] e f = false≢true e
word-no-digit (c ∷ t) e f = true≢false (sym (both (is_letter c) (word_bytes t) e).0 ∙ digit-no-letter c (both (is_digit c) (digits t) f).0)

word-no-real : (t : Token) → is_word t ≡ true → is_real t ≡ true → ⊥
unfolding is_word is_real
word-no-real [] e f = false≢true e
word-no-real (c ∷ t) e f = true≢false (sym (both (is_letter c) (word_bytes t) e).0 ∙ digit-no-letter c (both (is_digit c) (decimal 14 t) f).0)

decimal-no-digits : (k : ℕ) (t : List ℕ) → decimal k t ≡ true → digits t ≡ true → ⊥
unfolding decimal digits is_digit
decimal-no-digits k [] e f = false≢true e
decimal-no-digits zero (b ∷ t) e f = false≢true e
decimal-no-digits (suc k) (b ∷ t) e f = go (eqb b 46) refl (decimal-no-digits k t)
  where
    go : (j : Bool) → eqb b 46 ≡ j → (decimal k t ≡ true → digits t ≡ true → ⊥) → ⊥
    go true ej r = true≢false (sym (both (is_digit b) (digits t) f).0 ∙ ap is_digit (byte-is b 46 ej))
    go false ej r = r (both (is_digit b) (decimal k t) (rw ej at e)).1 (both (is_digit b) (digits t) f).1

number-no-real : (t : Token) → is_number t ≡ true → is_real t ≡ true → ⊥
unfolding is_number is_real
number-no-real [] e f = false≢true e
number-no-real (c ∷ t) e f = decimal-no-digits 14 t (both (is_digit c) (decimal 14 t) f).1 (both (is_digit c) (digits t) e).1

module _ (reserved : List String) where
  fitting : (l : Lead) (t : Token) → accepts reserved l t ≡ true → fits reserved l t ≡ true
  unfolding accepts
  fitting l t e = (both (whole t) (fits reserved l t) e).1

  at-word : (w : String) (l : Lead) (t : Token) → accepts reserved (the w) t ≡ true → accepts reserved l t ≡ true
      → accepts reserved l (bytes w) ≡ true
  unfolding fits
  at-word w l t e f = ap (accepts reserved l) (same-eq (bytes w) t (fitting (the w) t e)) ∙ f

  pub clashes : (l k : Lead) (t : Token) → accepts reserved l t ≡ true → accepts reserved k t ≡ true → clash reserved l k ≡ true
  unfolding clash fits
  clashes (the w) (the v) t e f =
      ap (same (bytes w)) (same-eq (bytes v) t (fitting (the v) t f) ∙ sym (same-eq (bytes w) t (fitting (the w) t e)))
      ∙ same_self (bytes w)
  clashes (the w) name t e f = at-word w name t e f
  clashes (the w) (up_to n) t e f = at-word w (up_to n) t e f
  clashes (the w) real t e f = at-word w real t e f
  clashes name (the v) t e f = at-word v name t f e
  clashes name name t e f = refl
  clashes name (up_to n) t e f = absurd (word-no-digit t (both (is_word t) _ (fitting name t e)).0 (both (is_number t) _ (fitting (up_to n) t f)).0)
  clashes name real t e f = absurd (word-no-real t (both (is_word t) _ (fitting name t e)).0 (fitting real t f))
  clashes (up_to n) (the v) t e f = at-word v (up_to n) t f e
  clashes (up_to n) name t e f = absurd (word-no-digit t (both (is_word t) _ (fitting name t f)).0 (both (is_number t) _ (fitting (up_to n) t e)).0)
  clashes (up_to n) (up_to k) t e f = refl
  clashes (up_to n) real t e f = absurd (number-no-real t (both (is_number t) _ (fitting (up_to n) t e)).0 (fitting real t f))
  clashes real (the v) t e f = at-word v real t f e
  clashes real name t e f = absurd (word-no-real t (both (is_word t) _ (fitting name t f)).0 (fitting real t e))
  clashes real (up_to n) t e f = absurd (number-no-real t (both (is_number t) _ (fitting (up_to n) t f)).0 (fitting real t e))
  clashes real real t e f = refl
