-- A finite real, by std's word and by the exponent of its bits, and what is made of one.
use Prim.Native.Nat.{ℕ, zero, suc, ◌+◌, ◌%◌, ◌/◌}
use mathlib.Core.Path.{◌≡◌, refl, sym, subst}
use mathlib.Core.Bool.{Bool, true, false, not, cond}
use lib.Dec.{T, eqb, leb}
use lib.Ieee.{Float, nan, inf, fin, binary64, odd, of_bits, of_fields, is_nan, nan_bits}
use lib.Ieee.Bits.{nan_bits_is}
use Rattle.std.specs.Float.{float_is_finite}
use Rattle.plexil.proofs.ListLaws.{if-true, if-false}
use Rattle.plexil.specs.Values.{finite, real_in}
use Rattle.plexil.specs.declared.Worked.TheVariants as w

pub as-defined : (x : Float) → float_is_finite x ≡ finite x
unfolding float_is_finite finite
as-defined nan = refl
as-defined (inf s) = refl
as-defined (fin s m e) = refl

pub real-yes : (x : Float) → finite x ≡ true → w.Real x ≡ real_in x
unfolding real_in
real-yes x h = sym (if-true _ _ _ h)

pub real-no : (x : Float) → finite x ≡ false → w.Unknown ≡ real_in x
unfolding real_in
real-no x h = sym (if-false _ _ _ h)

pub no_nan : (x : Float) → finite x ≡ true → T (not (is_nan x))
unfolding finite is_nan
no_nan nan h = absurd (subst T (sym h) tt)
no_nan (inf s) h = tt
no_nan (fin s m e) h = tt

pub no-nan-bits : (n : ℕ) → finite (of_bits binary64 n) ≡ true → T (not (nan_bits binary64 n))
no-nan-bits n h = rw (nan_bits_is binary64 n) (no_nan (of_bits binary64 n) h)

odd-finite : (d : ℕ) (s : Bool) (q k l : ℕ) → finite (odd d s q k l) ≡ true
unfolding odd finite
odd-finite d s zero k l = refl
odd-finite d s (suc q) k l = refl

-- the exponent's field is all ones
ones : (s b : Bool) → finite (cond b (inf s) nan) ≡ false
unfolding finite
ones s true = refl
ones s false = refl

finite-fields : (s : Bool) (x t : ℕ) → not (eqb x 2047) ≡ finite (of_fields binary64 s x t)
unfolding of_fields
finite-fields s zero t = sym (odd-finite 53 s t 0 1074)
finite-fields s (suc x) t = by (eqb (suc x) 2047) refl
  where
    by : (b : Bool) → eqb (suc x) 2047 ≡ b → not (eqb (suc x) 2047) ≡ finite (of_fields binary64 s (suc x) t)
    by true h = rw h (sym (ones s (eqb t 0)))
    by false h = rw h (sym (odd-finite 53 s (4503599627370496 + t) x 1074))

pub finite-bits : (n : ℕ) → not (eqb (n % 9223372036854775808 / 4503599627370496) 2047) ≡ finite (of_bits binary64 n)
unfolding of_bits
finite-bits n = finite-fields (leb 9223372036854775808 n) (n % 9223372036854775808 / 4503599627370496) (n % 4503599627370496)
