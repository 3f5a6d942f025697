-- A value of a kind is read back from its cell: nothing is lost by keeping it.
use Prim.Native.Nat.{ℕ, ◌^◌, ◌-◌, ◌<◌}
use mathlib.Core.Path.{◌≡◌, refl, ap}
use mathlib.Core.Bool.{Bool, true, false, false≢true, ◌&&◌}
use native.Mathlib.Omega.{arith}
use lib.Dec.{leb}
use lib.IntN.{ℤ, pos, negsuc}
use lib.Signed.{mag}
use lib.Ieee.{binary64}
use lib.Ieee.Bits.{of_bits-to_bits}
use mir.Syntax.{w64}
use mir.Facts.{to_z-of_z}
use borrow.Author.Tests.{leb-true}
use Rattle.plexil.specs.declared.Worked.{Worked}
use Rattle.plexil.specs.declared.Worked.TheVariants.{Int}
use Rattle.plexil.specs.Lists.{when◌then◌else◌}
use Rattle.plexil.specs.Values.{in_range, real_in, known, decode, encode}
use Rattle.plexil.specs.Kinds.{Has, unknown, bool, int, real}

first : (a : Bool) → (a && true) ≡ true → a ≡ true
first true h = refl
first false h = absurd (false≢true h)

in-range : (z : ℤ) → in_range z ≡ true → mag z < 2 ^ 63
unfolding in_range
in-range (pos n) h = omega (arith, leb-true n (2 ^ 63 - 1) h)
in-range (negsuc n) h = omega (arith, leb-true n (2 ^ 63 - 1) (first (leb n (2 ^ 63 - 1)) h))

pub read_back : {k : ℕ} {x : Worked} → Has k x → decode (encode x).tag (encode x).bits ≡ x
unfolding encode decode known real_in when◌then◌else◌
read_back unknown = refl
read_back (bool {b = true}) = refl
read_back (bool {b = false}) = refl
read_back (int {z = z} r) = ap Int (to_z-of_z {w = w64} (record { sfits = in-range z r }))
read_back (real {x = x} f g) = rw (f, of_bits-to_bits binary64 x g, f)
