-- Decimals: bytes can become a decimal exactly when `could_decimal` says so.
use Prim.Native.Nat.{ℕ, zero, suc}
use mathlib.Core.Path.{◌≡◌, refl}
use mathlib.Core.Bool.{Bool, true, false, ◌&&◌, ◌||◌, cond, false≢true}
use mathlib.Core.List.{List, [], ◌∷◌, ◌++◌, append-nil}
use native.Mathlib.Omega.{arith}
use lib.Dec.{eqb, leb}
use borrow.Author.Tests.{leb-true, lt-leb}
use Rattle.grammar.specs.Spelling.{is_letter, is_digit, is_word_byte, joins, goes_on}
use Rattle.grammar.specs.Leads.{fewer, fraction, decimal, could_fraction, could_decimal}
use Rattle.grammar.proofs.Bools.{both, both_true}

-- what begins bytes that could become a decimal could become one
pub fewer-front : (k : ℕ) (q v : List ℕ) → fewer k (q ++ v) ≡ true → fewer k q ≡ true
unfolding fewer
fewer-front k [] v e = refl
fewer-front zero (b ∷ q) v e = absurd (false≢true e)
fewer-front (suc k) (b ∷ q) v e = let h = both (is_digit b) _ e in both_true _ _ (h.0) (fewer-front k q v (h.1))

fraction-front : (k : ℕ) (q v : List ℕ) → could_fraction k (q ++ v) ≡ true → could_fraction k q ≡ true
unfolding could_fraction
fraction-front zero q v e = absurd (false≢true e)
fraction-front (suc k) [] v e = refl
fraction-front (suc k) (b ∷ q) v e = let h = both (is_digit b) _ e in both_true _ _ (h.0) (fewer-front k q v (h.1))

pub decimal-front : (k : ℕ) (q v : List ℕ) → could_decimal k (q ++ v) ≡ true → could_decimal k q ≡ true
unfolding could_decimal
decimal-front zero q v e = absurd (false≢true e)
decimal-front (suc k) [] v e = refl
decimal-front (suc k) (b ∷ q) v e = go (eqb b 46) refl (decimal-front k q v)
  where
    go : (j : Bool) → eqb b 46 ≡ j → (could_decimal k (q ++ v) ≡ true → could_decimal k q ≡ true) → could_decimal (suc k) (b ∷ q) ≡ true
    go true ej r = rw ej (fraction-front (suc k) q v (rw ej at e))
    go false ej r = let h = both (is_digit b) (could_decimal k (q ++ v)) (rw ej at e) in rw ej (both_true _ _ (h.0) (r (h.1)))

-- a decimal could become one
fraction-could : (k : ℕ) (t : List ℕ) → fraction k t ≡ true → could_fraction k t ≡ true
unfolding fraction could_fraction
fraction-could k [] e = absurd (false≢true e)
fraction-could zero (b ∷ t) e = absurd (false≢true e)
fraction-could (suc k) (b ∷ t) e = e

pub decimal-could : (k : ℕ) (t : List ℕ) → decimal k t ≡ true → could_decimal k t ≡ true
unfolding decimal could_decimal
decimal-could k [] e = absurd (false≢true e)
decimal-could zero (b ∷ t) e = absurd (false≢true e)
decimal-could (suc k) (b ∷ t) e = go (eqb b 46) refl (decimal-could k t)
  where
    go : (j : Bool) → eqb b 46 ≡ j → (decimal k t ≡ true → could_decimal k t ≡ true) → could_decimal (suc k) (b ∷ t) ≡ true
    go true ej r = rw ej (fraction-could (suc k) t (rw ej at e))
    go false ej r = let h = both (is_digit b) (decimal k t) (rw ej at e) in rw ej (both_true _ _ (h.0) (r (h.1)))

-- bytes that a number takes
unfoldable pub in_number : List ℕ → Bool
in_number [] = true
in_number (b ∷ v) = (is_word_byte b || eqb b 46) && in_number v

pub digit-no-letter : (c : ℕ) → is_digit c ≡ true → is_letter c ≡ false
unfolding is_digit is_letter
digit-no-letter c e =
    let h = both (leb 48 c) (leb c 57) e in
    let l = leb-true c 57 (h.1) in
    rw (lt-leb 65 c (omega arith), lt-leb 97 c (omega arith))

pub number-goes-on : (c : ℕ) (q v : List ℕ) → is_digit c ≡ true → in_number v ≡ true → goes_on (c ∷ q) v ≡ true
unfolding in_number goes_on joins
number-goes-on c q [] d e = refl
number-goes-on c q (b ∷ v) d e =
    let h = both (is_word_byte b || eqb b 46) (in_number v) e in
    rw (digit-no-letter c d, d) (both_true _ _ (h.0) (number-goes-on c (q ++ (b ∷ [])) v d (h.1)))

fraction_sound : (k : ℕ) (q : List ℕ) → could_fraction k q ≡ true → (v : List ℕ) × (in_number v ≡ true) × (fraction k (q ++ v) ≡ true)
unfolding fraction could_fraction in_number is_word_byte is_letter is_digit fewer
fraction_sound zero q e = absurd (false≢true e)
fraction_sound (suc k) [] e = (48 ∷ [], refl, refl)
fraction_sound (suc k) (b ∷ q) e = ([], refl, rw (append-nil q) e)

pub decimal-sound : (k : ℕ) (q : List ℕ) → could_decimal k q ≡ true → (v : List ℕ) × (in_number v ≡ true) × (decimal k (q ++ v) ≡ true)
unfolding decimal could_decimal
decimal-sound zero q e = absurd (false≢true e)
decimal-sound (suc k) [] e = (46 ∷ (48 ∷ []), unfold in_number is_word_byte is_letter is_digit in refl, unfold fraction is_digit fewer in refl)
decimal-sound (suc k) (b ∷ q) e = go (eqb b 46) refl (decimal-sound k q)
  where
    go : (j : Bool) → eqb b 46 ≡ j → (could_decimal k q ≡ true → (v : List ℕ) × (in_number v ≡ true) × (decimal k (q ++ v) ≡ true))
        → (v : List ℕ) × (in_number v ≡ true) × (cond (eqb b 46) (fraction (suc k) (q ++ v)) (is_digit b && decimal k (q ++ v)) ≡ true)
    go true ej r = let f = fraction_sound (suc k) q (rw ej at e) in (f.0, f.1, rw ej (f.2))
    go false ej r = let h = both (is_digit b) (could_decimal k q) (rw ej at e) in let f = r (h.1) in (f.0, f.1, rw ej (both_true _ _ (h.0) (f.2)))
