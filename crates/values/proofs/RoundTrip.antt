-- A value that is kept is read back, and the bits of a known value are kept as they are.
use Prim.Native.Nat.{ℕ, zero, suc, ◌^◌, ◌<◌}
use mathlib.Core.Path.{◌≡◌, refl, sym, ap, ◌∙◌}
use mathlib.Core.Bool.{Bool, true, false, false≢true}
use native.Mathlib.Omega.{arith}
use borrow.Author.Tests.{leb-true, eqb-true}
use lib.Dec.{T, eqb}
use lib.Ieee.{Float, binary64, fits, of_bits, to_bits}
use lib.Ieee.Bits.{of_bits-to_bits, of_bits-fits, to_bits-of_bits}
use mir.Syntax.{w64}
use mir.ValLaws.{of_z-to_z, to_z-Fits}
use Rattle.plexil.specs.Values.{in_range, finite, real_in, known, good_bits, decode, cell, encode}
use Rattle.plexil.specs.declared.Worked.{Worked}
use Rattle.plexil.specs.declared.Worked.TheVariants as w
use Rattle.plexil.proofs.ListLaws.{if-true, if-either}
use Rattle.arithmetic.proofs.Integers.{back, in-range, range-of}
use Rattle.arithmetic.proofs.Finite.{no_nan, real-yes}

-- the values that a cell holds: no Clash, an Int in range, a finite Real of 64 bits
abbrev pub Keepable : Worked → Type 0
Keepable w.Clash = ⊥
Keepable w.Unknown = Unit {0}
Keepable (w.Bool b) = Unit {0}
Keepable (w.Int z) = in_range z ≡ true
Keepable (w.Real x) = (finite x ≡ true) × T (fits binary64 x)

pub read_back : (v : Worked) → Keepable v → decode (encode v).tag (encode v).bits ≡ v
unfolding decode encode known
read_back w.Clash h = absurd h
read_back w.Unknown h = refl
read_back (w.Bool true) h = refl
read_back (w.Bool false) h = refl
read_back (w.Int z) h = ap w.Int (back (range-of z h))
read_back (w.Real x) (h, k) =
    ap (λ c. decode c.tag c.bits) (if-true (finite x) (cell 3 (to_bits binary64 x)) (cell 0 0) h)
    ∙ (ap real_in (of_bits-to_bits binary64 x k) ∙ sym (real-yes x h))

pub kept-as-is : (k b : ℕ) → b < 2 ^ 64 → good_bits k b ≡ true → encode (known k b) ≡ cell (suc k) b
unfolding good_bits encode known
kept-as-is zero zero h g = refl
kept-as-is zero (suc zero) h g = refl
kept-as-is zero (suc (suc b)) h g = absurd (omega (arith, leb-true (suc (suc b)) 1 g))
kept-as-is (suc zero) b h g = ap (cell 2) (of_z-to_z w64 b (record { fits = h }))
kept-as-is (suc (suc zero)) b h g =
    ap encode (sym (real-yes (of_bits binary64 b) g))
    ∙ (if-true (finite (of_bits binary64 b)) (cell 3 (to_bits binary64 (of_bits binary64 b))) (cell 0 0) g
    ∙ ap (cell 3) (to_bits-of_bits binary64 b h (no_nan (of_bits binary64 b) g)))
kept-as-is (suc (suc (suc k))) b h g = absurd (false≢true g)

-- ---- a cell's form: Unknown has bits 0, and the others bits of their kind
abbrev pub good_tag : ℕ → ℕ → Bool
good_tag zero b = eqb b 0
good_tag (suc k) b = good_bits k b

pub kept-good : (v : Worked) → Keepable v → good_tag (encode v).tag (encode v).bits ≡ true
unfolding encode good_bits
kept-good w.Clash h = absurd h
kept-good w.Unknown h = refl
kept-good (w.Bool true) h = refl
kept-good (w.Bool false) h = refl
kept-good (w.Int z) h = refl
kept-good (w.Real x) (h, k) =
    ap (λ c. good_tag c.tag c.bits) (if-true (finite x) (cell 3 (to_bits binary64 x)) (cell 0 0) h)
    ∙ (ap finite (of_bits-to_bits binary64 x k) ∙ h)

pub cell-back : (t b : ℕ) → b < 2 ^ 64 → good_tag t b ≡ true → encode (decode t b) ≡ cell t b
unfolding decode encode
cell-back zero b h g = ap (cell 0) (sym (eqb-true b 0 g))
cell-back (suc k) b h g = kept-as-is k b h g

-- ---- what is worked out can be kept

pub real-keeps : (x : Float) → T (fits binary64 x) → Keepable (real_in x)
unfolding real_in
real-keeps x f = if-either Keepable (finite x) (w.Real x) w.Unknown (λ h. (h, f)) (λ h. tt)

pub known-keeps : (k b : ℕ) → b < 2 ^ 64 → Keepable (known k b)
unfolding known
known-keeps zero b h = tt
known-keeps (suc zero) b h = in-range _ (to_z-Fits w64 b (record { fits = h })).sfits
known-keeps (suc (suc zero)) b h = real-keeps _ (of_bits-fits binary64 b)
known-keeps (suc (suc (suc k))) b h = tt

pub decode-keeps : (t b : ℕ) → b < 2 ^ 64 → Keepable (decode t b)
unfolding decode
decode-keeps zero b h = tt
decode-keeps (suc k) b h = known-keeps k b h
