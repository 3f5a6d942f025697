-- Numbers that are capped past 2^63, and the digits that write them.
use Rattle.std.proofs.Common.{◌≡◌, ℕ, ◌+◌, ◌-◌, ◌*◌, ◌<◌, ◌≤◌, Bool, true, false, cond, eqb, leb, List, [], ◌∷◌, length, get_or, drop, sym, refl, ap, ◌∙◌, arith, drop_of_length-le, eq-eqb, ne_eqb, le-leb, leb-false, leb-true}
use Prim.Native.Nat.{min}
use mathlib.Core.Bool.{false≢true}
use mathlib.Core.Logic.{inl, inr}
use Rattle.std.proofs.lemmas.Bool.{cases_lt}
use borrow.Author.Tests.{lt-leb}
use Rattle.grammar.specs.Spelling.{is_digit}
use Rattle.grammar.specs.Leads.{digits, is_number, value_from}
use Rattle.grammar.proofs.Bools.{both}
use Rattle.notation.specs.Numbers.{all_digits}
use Rattle.words.specs.Capped.{capped}
use Rattle.words.proofs.Rest.{next-byte}

pub capped_is : {m n : ℕ} → m ≡ n → m ≤ 9223372036854775808 → m ≡ capped n
unfolding capped
capped_is {m} {n} e h = rw (le-leb n 9223372036854775808 (omega arith)) e

pub capped-past : {n : ℕ} → 9223372036854775808 < n → 9223372036854775809 ≡ capped n
unfolding capped
capped-past {n} h = rw (lt-leb n 9223372036854775808 h) refl

-- one digit more, where the sum stops at the largest count
pub capped-min : {m n r : ℕ} → r ≡ min m 9223372036854775809 → (n < 9223372036854775809 → m ≡ n) → (9223372036854775809 ≤ n → 9223372036854775809 ≤ m) → r ≡ capped n
capped-min {m} {n} {r} e f g = elim (cases_lt 9223372036854775808 n) [
  | inl h ↦ (let l = g (omega arith) in (let z : r ≡ 9223372036854775809 = omega arith in z ∙ capped-past h))
  | inr h ↦ (let l = f (omega arith) in capped_is (omega arith) (omega arith))
]

capped-twice : (n : ℕ) → capped (capped n) ≡ capped n
capped-twice n = go (leb n 9223372036854775808) refl
  where
    go : (k : Bool) → leb n 9223372036854775808 ≡ k → capped (capped n) ≡ capped n
    go true e = ap capped (sym (capped_is refl (leb-true n 9223372036854775808 e)))
    go false e = ap capped (sym (capped-past (leb-false n 9223372036854775808 e))) ∙ sym (capped-past (omega arith)) ∙ capped-past (leb-false n 9223372036854775808 e)

digits-grow : (t : List ℕ) (n : ℕ) → n ≤ all_digits n t
unfolding all_digits
digits-grow [] n = omega arith
digits-grow (b ∷ t) n = go (eqb b 46) (digits-grow t n) (digits-grow t (n * 10 + (b - 48)))
  where
    go : (k : Bool) → n ≤ all_digits n t → n * 10 + (b - 48) ≤ all_digits (n * 10 + (b - 48)) t → n ≤ cond k (all_digits n t) (all_digits (n * 10 + (b - 48)) t)
    go true h k = h
    go false h k = omega arith

-- the digits that come after a capped number
capped-before : (t : List ℕ) (n : ℕ) → capped (all_digits n t) ≡ capped (all_digits (capped n) t)
capped-before t n = go (leb n 9223372036854775808) refl
  where
    go : (k : Bool) → leb n 9223372036854775808 ≡ k → capped (all_digits n t) ≡ capped (all_digits (capped n) t)
    go true e = ap (λ m. capped (all_digits m t)) (capped_is refl (leb-true n 9223372036854775808 e))
    go false e =
        let h = leb-false n 9223372036854775808 e in
        sym (capped-past (omega (arith, digits-grow t n)))
        ∙ capped-past (omega (arith, digits-grow t (capped n), capped-past h))

-- the digits below i are read, as n
pub record Numbered (t : List ℕ) (i n : ℕ) : Type 0 where
  pub within : i ≤ length t
  pub cap : capped n ≡ n
  pub rest : capped (all_digits 0 t) ≡ capped (all_digits n (drop i t))

pub numbered-start : (t : List ℕ) → Numbered t 0 0
unfolding capped
numbered-start t = record { within = omega arith; cap = refl; rest = refl }

pub numbered-digit : (t : List ℕ) (i n : ℕ) {r : ℕ} → Numbered t i n → i < length t → (get_or t i 0 ≡ 46 → ⊥) → r ≡ capped (n * 10 + (get_or t i 0 - 48)) → Numbered t (i + 1) r
unfolding all_digits
numbered-digit t i n {r} s h e p =
    record {
      within = omega arith;
      cap = rw p (capped-twice (n * 10 + (get_or t i 0 - 48)));
      rest =
          s.rest
          ∙ ap (λ l. capped (all_digits n l)) (next-byte t i h)
          ∙ rw (ne_eqb (get_or t i 0) 46 e) (capped-before (drop (i + 1) t) (n * 10 + (get_or t i 0 - 48)) ∙ ap (λ m. capped (all_digits m (drop (i + 1) t))) (sym p));
    }

pub numbered-point : (t : List ℕ) (i n : ℕ) → Numbered t i n → i < length t → get_or t i 0 ≡ 46 → Numbered t (i + 1) n
unfolding all_digits
numbered-point t i n s h e =
    record {
      within = omega arith;
      cap = s.cap;
      rest = s.rest ∙ ap (λ l. capped (all_digits n l)) (next-byte t i h) ∙ rw (eq-eqb (get_or t i 0) 46 e) refl;
    }

pub numbered-end : (t : List ℕ) (i n : ℕ) → Numbered t i n → length t ≤ i → n ≡ capped (all_digits 0 t)
unfolding all_digits
numbered-end t i n s h = sym (s.rest ∙ ap (λ l. capped (all_digits n l)) (drop_of_length-le t h) ∙ s.cap)

-- without '.' the digits write a whole number
digits_value : (t : List ℕ) (n : ℕ) → digits t ≡ true → all_digits n t ≡ value_from n t
unfolding digits all_digits value_from is_digit
digits_value [] n e = refl
digits_value (b ∷ t) n e = rw (ne_eqb b 46 point) (digits_value t (n * 10 + (b - 48)) h.1)
  where
    h : (is_digit b ≡ true) × (digits t ≡ true)
    h = both (is_digit b) (digits t) e

    point : b ≡ 46 → ⊥
    point p = let l = leb-true 48 b (both (leb 48 b) (leb b 57) h.0).0 in omega arith

pub number-value : (t : List ℕ) → is_number t ≡ true → all_digits 0 t ≡ value_from 0 t
unfolding is_number digits
number-value [] e = absurd (false≢true e)
number-value (b ∷ t) e = digits_value (b ∷ t) 0 e

pub number-told : (t : List ℕ) {r : ℕ} → r ≡ capped (all_digits 0 t) → is_number t ≡ true → value_from 0 t ≤ 9223372036854775808 → r ≡ value_from 0 t
number-told t p e h = p ∙ ap capped (number-value t e) ∙ sym (capped_is refl h)
