-- Each operator keeps kinds: operands of the kind that it takes, Unknown or known, give Unknown or a known value of the kind that it gives.
use Prim.Native.Nat.{ℕ, zero, suc, ◌<◌, ◌-◌, ◌^◌}
use mathlib.Core.Path.{◌≡◌, refl}
use mathlib.Core.Bool.{Bool, true, false, beq, false≢true}
use native.Mathlib.Omega.{arith}
use lib.IntN.{ℤ, negsuc}
use lib.Dec.{T, eqb, ltb}
use lib.Ieee.{Float, fits, binary64}
use lib.Ieee.Bits.{of_bits-fits}
use mir.Syntax.{w64}
use mir.Val.{to_z}
use borrow.Author.Tests.{ltb-true, ltb-false, le-leb, eqb-true}
use Rattle.plexil.specs.declared.Worked.{Worked}
use Rattle.plexil.specs.declared.Worked.TheVariants.{Unknown, Bool as Flag}
use Rattle.plexil.specs.declared.Cell.{Cell}
use Rattle.plexil.specs.Lists.{when◌then◌else◌}
use Rattle.plexil.specs.Values.{in_range, int_in, finite, real_in, known, good_bits, decode, not_of, decides, junction, pair_of, eq_of, numeric}
use Rattle.plexil.specs.Places.{value_in}
use Rattle.plexil.specs.Records.{good_constant, is_number}
use Rattle.plexil.specs.Form.{good_cell, has_kind}
use Rattle.plexil.specs.Kinds.{Has, unknown, bool, int, real}
use Rattle.plexil.proofs.ListLaws.{if-either, every-at}

-- ---- known values
negative-in_range : (n : ℕ) → n < 2 ^ 63 → in_range (negsuc n) ≡ true
unfolding in_range
negative-in_range n b = rw (le-leb n (2 ^ 63 - 1) (omega arith))

-- whatever the number: past 2 ^ 64 it reads as -1
to_z-in_range : (w : ℕ) → in_range (to_z w64 w) ≡ true
unfolding in_range
to_z-in_range w = go (ltb w (2 ^ 63)) refl
  where
    go : (b : Bool) → ltb w (2 ^ 63) ≡ b → in_range (to_z w64 w) ≡ true
    go true e = rw e (le-leb w (2 ^ 63 - 1) (omega (arith, ltb-true w (2 ^ 63) e)))
    go false e = rw e (negative-in_range (2 ^ 64 - suc w) (omega (arith, ltb-false w (2 ^ 63) e)))

int_in-has : (z : ℤ) → Has 1 (int_in z)
unfolding int_in
int_in-has z = if-either (Has 1) (in_range z) _ _ int (λ e. unknown)

real_in-has : (x : Float) → T (fits binary64 x) → Has 2 (real_in x)
unfolding real_in
real_in-has x f = if-either (Has 2) (finite x) _ _ (λ e. real e f) (λ e. unknown)

known-has : (k w : ℕ) → good_bits k w ≡ true → Has k (known k w)
unfolding known good_bits
known-has zero w g = bool
known-has (suc zero) w g = int (to_z-in_range w)
known-has (suc (suc zero)) w g = real_in-has _ (of_bits-fits binary64 w)
known-has (suc (suc (suc k))) w g = absurd (false≢true g)

pub constant-has : (k b w : ℕ) → good_constant k b w ≡ true → Has k (when eqb b 1 then known k w else Unknown)
unfolding good_constant when◌then◌else◌
constant-has k zero w g = unknown
constant-has k (suc zero) w g = known-has k w g
constant-has k (suc (suc b)) w g = absurd (false≢true g)

decode-has : (k t w : ℕ) → good_cell k t w ≡ true → Has k (decode t w)
unfolding good_cell decode
decode-has k zero w g = unknown
decode-has k (suc t) w g = rw (eqb-true t k (every-at _ 0 g)) (known-has k w (every-at _ 1 g))

pub cell-has : (k : ℕ) (c : Cell) → has_kind k c ≡ true → Has k (value_in c)
unfolding has_kind value_in
cell-has k c g = decode-has k _ _ g

-- ---- operators
pub not-has : {x : Worked} → Has 0 x → Has 0 (not_of x)
unfolding not_of
not-has unknown = unknown
not-has bool = bool

decides-has : (d b : Bool) {x : Worked} → Has 0 x → Has 0 (decides d b x)
unfolding decides
decides-has d b h = if-either (Has 0) (beq b d) _ _ (λ e. bool) (λ e. h)

pub junction-has : (d : Bool) {x y : Worked} → Has 0 x → Has 0 y → Has 0 (junction d x y)
unfolding junction
junction-has d unknown unknown = unknown
junction-has d unknown bool = decides-has d _ unknown
junction-has d bool unknown = decides-has d _ unknown
junction-has d bool bool = decides-has d _ bool

pub eq-has : {k : ℕ} {x y : Worked} → Has k x → Has k y → Has 0 (eq_of (pair_of x y))
unfolding eq_of pair_of
eq-has unknown unknown = unknown
eq-has unknown bool = unknown
eq-has unknown (int r) = unknown
eq-has unknown (real f g) = unknown
eq-has bool unknown = unknown
eq-has bool bool = bool
eq-has (int r) unknown = unknown
eq-has (int r) (int r') = bool
eq-has (real f g) unknown = unknown
eq-has (real f g) (real f' g') = bool

-- r: the kind given, by the kind taken
numeric-has : (r : ℕ → ℕ) (i : ℤ → ℤ → Worked) (f : Float → Float → Worked) → ((a b : ℤ) → Has (r 1) (i a b)) → ((a b : Float) → Has (r 2) (f a b))
    → {k : ℕ} {x y : Worked} → is_number k ≡ true → Has k x → Has k y → Has (r k) (numeric i f (pair_of x y))
unfolding numeric pair_of is_number
numeric-has r i f hi hf n unknown unknown = unknown
numeric-has r i f hi hf n unknown bool = absurd (false≢true n)
numeric-has r i f hi hf n unknown (int b) = unknown
numeric-has r i f hi hf n unknown (real b c) = unknown
numeric-has r i f hi hf n bool unknown = absurd (false≢true n)
numeric-has r i f hi hf n bool bool = absurd (false≢true n)
numeric-has r i f hi hf n (int a) unknown = unknown
numeric-has r i f hi hf n (int a) (int b) = hi _ _
numeric-has r i f hi hf n (real a c) unknown = unknown
numeric-has r i f hi hf n (real a c) (real b d) = hf _ _

-- LT and LE give Bool; ADD, SUB and MUL keep the kind
pub compares-has : (i : ℤ → ℤ → Bool) (f : Float → Float → Bool) {k : ℕ} {x y : Worked} → is_number k ≡ true → Has k x → Has k y
    → Has 0 (numeric (λ a b. Flag (i a b)) (λ a b. Flag (f a b)) (pair_of x y))
compares-has i f = numeric-has (λ k. 0) _ _ (λ a b. bool) (λ a b. bool)

pub computes-has : (i : ℤ → ℤ → ℤ) (f : Float → Float → Float) → ((a b : Float) → T (fits binary64 (f a b))) → {k : ℕ} {x y : Worked} → is_number k ≡ true → Has k x → Has k y
    → Has k (numeric (λ a b. int_in (i a b)) (λ a b. real_in (f a b)) (pair_of x y))
computes-has i f fit = numeric-has (λ k. k) _ _ (λ a b. int_in-has (i a b)) (λ a b. real_in-has (f a b) (fit a b))
