-- A token of at most 15 digits writes a number below 10^15, with at most 14 digits after '.'.
use Rattle.std.proofs.Common.{◌≡◌, ℕ, zero, suc, ◌+◌, ◌-◌, ◌*◌, ◌^◌, ◌<◌, ◌≤◌, Bool, true, false, cond, eqb, leb, List, [], ◌∷◌, length, refl, pow-suc, arith, ne_eqb, leb-true}
use mathlib.Core.Bool.{false≢true}
use native.Mathlib.Nat.{pow-le-pow_right}
use Rattle.grammar.specs.Spelling.{is_digit}
use Rattle.grammar.specs.Leads.{digits, fewer, fraction, decimal, is_real, is_number, value_from}
use Rattle.grammar.proofs.Bools.{both}
use Rattle.notation.specs.Numbers.{all_digits, places}
use Rattle.words.specs.Exact.{exact}
use Rattle.words.proofs.CappedLaws.{number-value}

digit_low : (b : ℕ) → is_digit b ≡ true → (48 ≤ b) × (b ≤ 57)
unfolding is_digit
digit_low b e = let h = both (leb 48 b) (leb b 57) e in (leb-true 48 b h.0, leb-true b 57 h.1)

no-point : (b : ℕ) → is_digit b ≡ true → eqb b 46 ≡ false
no-point b e = ne_eqb b 46 (λ p. omega (arith, digit_low b e))

one_more : (j n b : ℕ) → is_digit b ≡ true → n < 10 ^ j → n * 10 + (b - 48) < 10 ^ suc j
one_more j n b e h = rw (pow-suc 10 j) (omega (arith, digit_low b e))

grown : (j k n : ℕ) → n < 10 ^ j → n < 10 ^ (j + k)
grown j k n h = omega (arith, pow-le-pow_right {n = 10} (omega arith) {i = j} {j = j + k} (omega arith))

fewer-small : (k j n : ℕ) (t : List ℕ) → fewer k t ≡ true → n < 10 ^ j → (all_digits n t < 10 ^ (j + k)) × (length t ≤ k)
unfolding fewer all_digits
fewer-small k j n [] e h = (grown j k n h, omega arith)
fewer-small zero j n (b ∷ t) e h = absurd (false≢true e)
fewer-small (suc k) j n (b ∷ t) e h =
    let d = both (is_digit b) (fewer k t) e in
    let r = fewer-small k (suc j) (n * 10 + (b - 48)) t d.1 (one_more j n b d.0 h) in
    (rw (no-point b d.0, shift) r.0, omega (arith, r.1))
  where
    shift : j + suc k ≡ suc j + k
    shift = omega arith

fraction-small : (k j n : ℕ) (t : List ℕ) → fraction k t ≡ true → n < 10 ^ j → (all_digits n t < 10 ^ (j + k)) × (length t ≤ k)
unfolding fraction fewer
fraction-small k j n [] e h = absurd (false≢true e)
fraction-small zero j n (b ∷ t) e h = absurd (false≢true e)
fraction-small (suc k) j n (b ∷ t) e h = fewer-small (suc k) j n (b ∷ t) e h

decimal-small : (k j n : ℕ) (t : List ℕ) → decimal k t ≡ true → n < 10 ^ j → (all_digits n t < 10 ^ (j + k)) × (places t ≤ k)
unfolding decimal all_digits places
decimal-small k j n [] e h = absurd (false≢true e)
decimal-small zero j n (b ∷ t) e h = absurd (false≢true e)
decimal-small (suc k) j n (b ∷ t) e h = go (eqb b 46) refl (decimal-small k (suc j) (n * 10 + (b - 48)) t)
  where
    shift : j + suc k ≡ suc j + k
    shift = omega arith

    go : (p : Bool) → eqb b 46 ≡ p
        → (decimal k t ≡ true → n * 10 + (b - 48) < 10 ^ suc j → (all_digits (n * 10 + (b - 48)) t < 10 ^ (suc j + k)) × (places t ≤ k))
        → (cond (eqb b 46) (all_digits n t) (all_digits (n * 10 + (b - 48)) t) < 10 ^ (j + suc k)) × (cond (eqb b 46) (length t) (places t) ≤ suc k)
    go true p r = rw p (fraction-small (suc k) j n t (rw p at e) h)
    go false p r =
        let d = both (is_digit b) (decimal k t) (rw p at e) in
        let s = r d.1 (one_more j n b d.0 h) in
        rw (p, shift) (s.0, omega (arith, s.1))

-- a decimal or a whole number that a float can hold with its power of ten
abbrev Small : List ℕ → Type 0
Small t = (all_digits 0 t ≤ 999999999999999) × (places t ≤ 15)

real-small : (t : List ℕ) → is_real t ≡ true → Small t
unfolding is_real all_digits places
real-small [] e = absurd (false≢true e)
real-small (b ∷ t) e =
    let d = both (is_digit b) (decimal 14 t) e in
    let r = decimal-small 14 1 (0 * 10 + (b - 48)) t d.1 (one_more 0 0 b d.0 (omega arith)) in
    rw (no-point b d.0) (omega (arith, r.0), omega (arith, r.1))

digits-whole : (t : List ℕ) → digits t ≡ true → places t ≡ 0
unfolding digits places
digits-whole [] e = refl
digits-whole (b ∷ t) e = let d = both (is_digit b) (digits t) e in rw (no-point b d.0) (digits-whole t d.1)

number-whole : (t : List ℕ) → is_number t ≡ true → places t ≡ 0
unfolding is_number digits
number-whole [] e = absurd (false≢true e)
number-whole (b ∷ t) e = digits-whole (b ∷ t) e

pub exact-small : (t : List ℕ) → exact t ≡ true → Small t
unfolding exact
exact-small t e = go (is_real t) refl
  where
    go : (k : Bool) → is_real t ≡ k → Small t
    go true r = real-small t r
    go false r =
        let d = both (is_number t) (leb (value_from 0 t) 999999999999999) (rw r at e) in
        let v = number-value t d.0 in
        let l = leb-true (value_from 0 t) 999999999999999 d.1 in
        let w = number-whole t d.0 in
        (omega arith, omega arith)
