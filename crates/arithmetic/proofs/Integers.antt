-- 64-bit signed numbers: what is read back of their bits, and their range.
use Prim.Native.Nat.{ℕ, suc, ◌-◌, ◌^◌, ◌<◌}
use mathlib.Core.Path.{◌≡◌, refl, sym, ap, ◌∙◌}
use mathlib.Core.Bool.{◌&&◌, Bool, true, false}
use native.Mathlib.Omega.{arith}
use lib.Dec.{leb, eqb}
use borrow.Author.Tests.{leb-true, le-leb, eq-eqb, ne_eqb, eqb-true, eqb-false}
use lib.IntN.{ℤ, pos, negsuc}
use lib.Signed.{mag}
use mir.Syntax.{w64}
use mir.Val.{to_z, of_z}
use mir.Facts.{to_z-of_z}
use Rattle.plexil.specs.Values.{in_range, eq_z}

-- ---- what the machine reads back of a number's bits
abbrev pub seen : ℤ → ℤ
seen x = to_z w64 (of_z w64 x)

pub back : {x : ℤ} → mag x < 2 ^ 63 → seen x ≡ x
back h = to_z-of_z {w = w64} (record { sfits = h })

-- two numbers, as a function of them reads them back
pub both-back : {A : Type 0} {x y : ℤ} (f : ℤ → ℤ → A) → mag x < 2 ^ 63 → mag y < 2 ^ 63 → f (seen x) (seen y) ≡ f x y
both-back {x = x} {y = y} f h k = ap (λ a. f a (seen y)) (back h) ∙ ap (f x) (back k)

-- ---- ranges
pub in-range : (z : ℤ) → mag z < 2 ^ 63 → in_range z ≡ true
unfolding in_range
in-range (pos n) h = rw (le-leb n (2 ^ 63 - 1) (omega arith))
in-range (negsuc n) h = rw (le-leb n (2 ^ 63 - 1) (omega arith))

pub range-of : (z : ℤ) → in_range z ≡ true → mag z < 2 ^ 63
unfolding in_range
range-of (pos n) h = omega (arith, leb-true n (2 ^ 63 - 1) h)
range-of (negsuc n) h = omega (arith, leb-true n (2 ^ 63 - 1) (alone (leb n (2 ^ 63 - 1)) h))
  where
    alone : (b : Bool) → (b && true) ≡ true → b ≡ true
    alone true h = refl
    alone false h = h

-- ---- equality
eqb_same : (p q a b : ℕ) → (a ≡ b → p ≡ q) → (p ≡ q → a ≡ b) → eqb p q ≡ eqb a b
eqb_same p q a b f g = by (eqb a b) refl
  where
    by : (t : Bool) → eqb a b ≡ t → eqb p q ≡ eqb a b
    by true h = eq-eqb p q (f (eqb-true a b h)) ∙ sym h
    by false h = ne_eqb p q (λ e. eqb-false a b h (g e)) ∙ sym h

-- the machine compares the bits
pub eq-bits : (x y : ℤ) → mag x < 2 ^ 63 → mag y < 2 ^ 63 → eqb (of_z w64 x) (of_z w64 y) ≡ eq_z x y
unfolding eq_z
eq-bits (pos a) (pos b) h k = refl
eq-bits (pos a) (negsuc b) h k = ne_eqb a (2 ^ 64 - suc b) (λ e. omega arith)
eq-bits (negsuc a) (pos b) h k = ne_eqb (2 ^ 64 - suc a) b (λ e. omega arith)
eq-bits (negsuc a) (negsuc b) h k = eqb_same (2 ^ 64 - suc a) (2 ^ 64 - suc b) a b (λ e. omega arith) (λ e. omega arith)
