-- Every constant that document 01 admits can be written: a Real whose exponent's field is not all ones is within the bounds of its bits.
use Prim.Native.Nat.{ℕ, ◌-◌, ◌/◌, ◌%◌, ◌<◌}
use mathlib.Core.Path.{◌≡◌, refl, sym, ◌∙◌, ap}
use mathlib.Core.Bool.{Bool, true, false, ◌||◌, ◌&&◌, cond, true≢false}
use native.Mathlib.Omega.{arith}
use native.Mathlib.Nat.{mod-lt, mod-eq_of_lt, mod-eq-sub-mod, div-lt_iff_lt-mul}
use borrow.Author.Tests.{le-leb, lt-leb, ltb-true, ltb-false}
use lib.Dec.{eqb, leb, ltb}
use lib.Ieee.{binary64, nan, inf, of_fields, of_bits}
use Rattle.plexil.specs.Values.{finite, good_bits}
use Rattle.notation.specs.Sayings.{boolean, integer, float}
use Rattle.notation.specs.Mapping.{kind_code}
use Rattle.notation.specs.Abstract.{is_constant}
use Rattle.notation.specs.Promises.{ConstantsAll}

-- an exponent's field of all ones is no finite Real's
no_ones : (s : Bool) (x t : ℕ) → finite (of_fields binary64 s x t) ≡ true → x ≡ 2047 → ⊥
unfolding finite of_fields
no_ones s x t e q = true≢false (sym (ap (λ (y : ℕ). finite (of_fields binary64 s y t)) (sym q) ∙ e) ∙ go (eqb t 0))
  where
    go : (b : Bool) → finite (cond b (inf s) nan) ≡ false
    go true = refl
    go false = refl

-- the bits without the sign's are below those of an infinity
below : (w : ℕ) → finite (of_bits binary64 w) ≡ true → w % 9223372036854775808 < 9218868437227405312
unfolding of_bits
below w e =
    let m = w % 9223372036854775808 in
    let l : m < 9223372036854775808 = mod-lt w (omega arith) in
    let x : m / 4503599627370496 < 2048 = (div-lt_iff_lt-mul {k = 4503599627370496} {x = m} {y = 2048} (omega arith)).1 l in
    let n : m / 4503599627370496 < 2047 = less (m / 4503599627370496) x (no_ones (leb 9223372036854775808 w) (m / 4503599627370496) (w % 4503599627370496) e) in
    (div-lt_iff_lt-mul {k = 4503599627370496} {x = m} {y = 2047} (omega arith)).0 n
  where
    less : (x : ℕ) → x < 2048 → (x ≡ 2047 → ⊥) → x < 2047
    less x l f = go (ltb x 2047) refl
      where
        go : (b : Bool) → ltb x 2047 ≡ b → x < 2047
        go true q = ltb-true x 2047 q
        go false q = absurd (f (omega (arith, ltb-false x 2047 q)))

pub constants-all : ConstantsAll
unfolding is_constant good_bits kind_code
constants-all boolean w l e = e
constants-all integer w l e = le-leb w 18446744073709551615 (omega arith)
constants-all float w l e = go (ltb w 9223372036854775808) refl
  where
    b : w % 9223372036854775808 < 9218868437227405312
    b = below w e

    go : (t : Bool) → ltb w 9223372036854775808 ≡ t → leb w 9218868437227405311 || (leb 9223372036854775808 w && leb w 18442240474082181119) ≡ true
    go true q = let h = mod-eq_of_lt {n = w} {m = 9223372036854775808} (ltb-true w 9223372036854775808 q) in rw (le-leb w 9218868437227405311 (omega (arith, b))) refl
    go false q =
        let h = ltb-false w 9223372036854775808 q in
        let r : w % 9223372036854775808 ≡ w - 9223372036854775808 = mod-eq-sub-mod {n = w} {m = 9223372036854775808} h ∙ mod-eq_of_lt {n = w - 9223372036854775808} {m = 9223372036854775808} (omega arith) in
        rw (lt-leb w 9218868437227405311 (omega arith), le-leb 9223372036854775808 w h, le-leb w 18442240474082181119 (omega (arith, b))) refl
