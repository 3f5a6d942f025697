-- A numeral of twenty digits is a token, a whole number, and writes its number.
use Prim.Native.Nat.{ℕ, zero, suc, ◌+◌, ◌*◌, ◌/◌, ◌%◌, ◌^◌, ◌≤◌, ◌<◌}
use mathlib.Core.Path.{◌≡◌, refl, ◌∙◌, ap}
use mathlib.Core.Bool.{Bool, true, false, not, ◌&&◌, ◌||◌, false≢true}
use mathlib.Core.List.{List, [], ◌∷◌}
use native.Mathlib.Omega.{arith}
use native.Mathlib.Nat.{mod-lt, div-add-mod', div-lt_iff_lt-mul, pow-suc, mul_assoc, add-sub_cancel_left}
use borrow.Author.Tests.{le-leb, leb-true, ne_eqb}
use lib.Dec.{eqb, leb}
use Rattle.grammar.specs.Spelling.{Token, is_blank, is_letter, is_digit, is_word_byte, goes_on, whole}
use Rattle.grammar.specs.Leads.{digits, value_from, is_number, up_to, fits, accepts}
use Rattle.grammar.proofs.Bools.{both, both_true}
use Rattle.grammar.proofs.Decimals.{in_number, number-goes-on}
use Rattle.notation.specs.Rows.{reserved}
use Rattle.notation.specs.Writing.{digits_of, numeral}

digit : (n : ℕ) → is_digit (48 + n % 10) ≡ true
unfolding is_digit
digit n = let h : n % 10 < 10 = mod-lt n (omega arith) in both_true _ _ (le-leb 48 (48 + n % 10) (omega arith)) (le-leb (48 + n % 10) 57 (omega arith))

number_digits : (t : Token) → is_number t ≡ true → digits t ≡ true
unfolding is_number digits
number_digits [] e = refl
number_digits (b ∷ t) e = e

digits_number : (k n : ℕ) (t : Token) → is_number t ≡ true → is_number (digits_of k n t) ≡ true
unfolding digits_of is_number
digits_number zero n t e = e
digits_number (suc k) n t e = digits_number k (n / 10) ((48 + n % 10) ∷ t) (both_true _ _ (digit n) (number_digits t e))

numeral-number : (n : ℕ) → is_number (numeral n) ≡ true
unfolding numeral digits_of is_number digits
numeral-number n = digits_number 19 (n / 10) ((48 + n % 10) ∷ []) (both_true _ _ (digit n) refl)

digits_in : (t : List ℕ) → digits t ≡ true → in_number t ≡ true
unfolding digits in_number is_word_byte
digits_in [] e = refl
digits_in (b ∷ t) e = let h = both (is_digit b) (digits t) e in both_true (is_word_byte b || eqb b 46) (in_number t) (word (is_letter b) (is_digit b) h.0) (digits_in t h.1)
  where
    word : (a d : Bool) → d ≡ true → (a || d || eqb b 95) || eqb b 46 ≡ true
    word true d e = refl
    word false true e = refl
    word false false e = absurd (false≢true e)

number-whole : (t : Token) → is_number t ≡ true → whole t ≡ true
unfolding is_number whole is_blank is_digit
number-whole [] e = absurd (false≢true e)
number-whole (b ∷ t) e =
    let h = both (is_digit b) (digits t) e in
    let d = both (leb 48 b) (leb b 57) h.0 in
    let l = leb-true 48 b d.0 in
    both_true (not (is_blank b) && not (eqb b 47)) (goes_on (b ∷ []) t) (rw (ne_eqb b 32 (λ z. omega arith), ne_eqb b 9 (λ z. omega arith), ne_eqb b 10 (λ z. omega arith), ne_eqb b 13 (λ z. omega arith), ne_eqb b 47 (λ z. omega arith)) refl)
    (number-goes-on b [] t h.0 (digits_in t h.1))

digits_value : (k n v : ℕ) (t : Token) → n < 10 ^ k → value_from v (digits_of k n t) ≡ value_from (v * 10 ^ k + n) t
unfolding digits_of value_from
digits_value zero n v t l = ap (λ (m : ℕ). value_from m t) (omega arith)
digits_value (suc k) n v t l =
    digits_value k (n / 10) v ((48 + n % 10) ∷ t) ((div-lt_iff_lt-mul {k = 10} {x = n} {y = 10 ^ k} (omega arith)).1 (rw (pow-suc 10 k) at l))
    ∙ ap (λ (m : ℕ). value_from m t) (omega (arith, add-sub_cancel_left 48 (n % 10), div-add-mod' n 10, ap (λ (m : ℕ). v * m) (pow-suc 10 k), mul_assoc v (10 ^ k) 10))

pub numeral-value : (n : ℕ) → n < 100000000000000000000 → value_from 0 (numeral n) ≡ n
unfolding numeral value_from
numeral-value n l = digits_value 20 n 0 [] l ∙ omega arith

pub numeral-accepted : (m n : ℕ) → n ≤ m → m < 100000000000000000000 → accepts reserved (up_to m) (numeral n) ≡ true
unfolding accepts fits
numeral-accepted m n l h =
    both_true _ _ (number-whole (numeral n) (numeral-number n)) (both_true _ _ (numeral-number n) (le-leb (value_from 0 (numeral n)) m (rw (numeral-value n (omega arith)) l)))
