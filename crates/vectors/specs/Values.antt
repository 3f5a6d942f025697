-- "Values and expressions" in vectors: each operator on known, Unknown and border values, and the bits that values are kept as.
use Rattle.std.specs.Prelude.{ℕ, Bool, true, false, List, [], ◌∷◌, map, pos, negsuc, eqb}
use Rattle.std.specs.Float.Ieee as Ieee
use Rattle.std.specs.Float.{binary64}
use Rattle.std.specs.Int.{w64}
use mir.Val.{of_z, bool_byte}
use Rattle.plexil.specs.declared.Worked.{Worked}
use Rattle.plexil.specs.declared.Worked.TheVariants.{Clash, Unknown, Bool as Flag, Int, Real}
use Rattle.plexil.specs.Lists.{every}
use Rattle.plexil.specs.Values.{good_bits, decode, encode, not_of, says}
use Rattle.plexil.specs.Expressions.{Binary, and_op, or_op, eq_op, lt_op, le_op, add_op, sub_op, mul_op, binary_of}

-- a value by its tag, 4 for a Clash, and its bits
unfoldable pub tag_of : Worked → ℕ
tag_of Clash = 4
tag_of Unknown = 0
tag_of (Flag b) = 1
tag_of (Int z) = 2
tag_of (Real x) = 3

unfoldable pub bits_of : Worked → ℕ
bits_of Clash = 0
bits_of Unknown = 0
bits_of (Flag b) = bool_byte b
bits_of (Int z) = of_z w64 z
bits_of (Real x) = Ieee.to_bits binary64 x

-- the Real of these bits
unfoldable pub real : ℕ → Worked
real w = Real (Ieee.of_bits binary64 w)

-- a value for each kind, a Clash and Unknown
unfoldable pub samples : List Worked
samples = Clash ∷ Unknown ∷ Flag false ∷ Flag true ∷ Int (pos 1) ∷ real 4607182418800017408 ∷ []

-- 9 Clash, 8 Unknown, 0 False, 1 True, 2 an Int, 3 a Real
unfoldable pub digit : Worked → ℕ
digit Clash = 9
digit Unknown = 8
digit (Flag b) = bool_byte b
digit (Int z) = 2
digit (Real x) = 3

unfoldable pub meets : Binary → List (List ℕ)
meets o = map (λ x. map (λ y. digit (binary_of o x y)) samples) samples

abbrev pub clashes : List ℕ
clashes = 9 ∷ 9 ∷ 9 ∷ 9 ∷ 9 ∷ 9 ∷ []

-- a row for each left sample, a column for each right one: "meeting another kind is .. an answer of its own apart from Unknown"
unfoldable pub met_all : List (List (List ℕ))
met_all = meets and_op ∷ meets or_op ∷ meets eq_op ∷ meets lt_op ∷ meets le_op ∷ meets add_op ∷ meets sub_op ∷ meets mul_op ∷ []

-- "10 to 14 take two Int or two Real": the answers for 1 and 1, and for 1.0 and 1.0
unfoldable pub numbers : ℕ → ℕ → List (List ℕ)
numbers i r =
    clashes ∷ (9 ∷ 8 ∷ 9 ∷ 9 ∷ 8 ∷ 8 ∷ []) ∷ clashes ∷ clashes ∷ (9 ∷ 8 ∷ 9 ∷ 9 ∷ i ∷ 9 ∷ []) ∷ (9 ∷ 8 ∷ 9 ∷ 9 ∷ 9 ∷ r ∷ []) ∷ []

-- "AND is False if either side is False, True if both are True, else Unknown. OR is the same with True and False exchanged."
-- "All other operators with an Unknown operand give Unknown"
unfoldable pub met_expected : List (List (List ℕ))
met_expected =
    (clashes ∷ (9 ∷ 8 ∷ 0 ∷ 8 ∷ 9 ∷ 9 ∷ []) ∷ (9 ∷ 0 ∷ 0 ∷ 0 ∷ 9 ∷ 9 ∷ []) ∷ (9 ∷ 8 ∷ 0 ∷ 1 ∷ 9 ∷ 9 ∷ []) ∷ clashes ∷ clashes ∷ [])
    ∷ (clashes ∷ (9 ∷ 8 ∷ 8 ∷ 1 ∷ 9 ∷ 9 ∷ []) ∷ (9 ∷ 8 ∷ 0 ∷ 1 ∷ 9 ∷ 9 ∷ []) ∷ (9 ∷ 1 ∷ 1 ∷ 1 ∷ 9 ∷ 9 ∷ []) ∷ clashes ∷ clashes ∷ [])
    ∷ (clashes ∷ (9 ∷ 8 ∷ 8 ∷ 8 ∷ 8 ∷ 8 ∷ []) ∷ (9 ∷ 8 ∷ 1 ∷ 0 ∷ 9 ∷ 9 ∷ []) ∷ (9 ∷ 8 ∷ 0 ∷ 1 ∷ 9 ∷ 9 ∷ []) ∷ (9 ∷ 8 ∷ 9 ∷ 9 ∷ 1 ∷ 9 ∷ []) ∷ (9 ∷ 8 ∷ 9 ∷ 9 ∷ 9 ∷ 1 ∷ []) ∷ [])
    ∷ numbers 0 0 ∷ numbers 1 1 ∷ numbers 2 3 ∷ numbers 2 3 ∷ numbers 2 3 ∷ []

-- an operator on two values, and the tag and bits of its answer
pub data Sum : Type 0 where
  sum : Binary → Worked → Worked → ℕ → ℕ → Sum

unfoldable pub sum_right : Sum → Bool
sum_right (sum o x y t w) = every (eqb (tag_of (binary_of o x y)) t ∷ eqb (bits_of (binary_of o x y)) w ∷ [])

unfoldable pub all_right : List Sum → Bool
all_right [] = true
all_right (x ∷ xs) = elim (sum_right x) [ true ↦ all_right xs | false ↦ false ]

-- n, and -n for n from 1 on; the limits
unfoldable pub up : ℕ → Worked
up n = Int (pos n)

-- -1 - n
unfoldable pub down : ℕ → Worked
down n = Int (negsuc n)

abbrev pub top : Worked
top = up 9223372036854775807

abbrev pub bottom : Worked
bottom = down 9223372036854775807

-- "Int sum, difference or product outside the range is Unknown"
unfoldable pub int_sums : List Sum
int_sums =
    sum add_op (up 7) (down 2) 2 4 ∷ sum add_op top (up 0) 2 9223372036854775807 ∷ sum add_op top (up 1) 0 0 ∷ sum add_op bottom (up 0) 2 9223372036854775808
    ∷ sum add_op bottom (down 0) 0 0 ∷ sum add_op bottom top 2 18446744073709551615
    ∷ sum sub_op (up 7) (up 3) 2 4 ∷ sum sub_op (up 3) (up 7) 2 18446744073709551612 ∷ sum sub_op bottom (up 1) 0 0 ∷ sum sub_op top (down 0) 0 0
    ∷ sum sub_op (up 0) bottom 0 0 ∷ sum sub_op (down 0) bottom 2 9223372036854775807 ∷ sum sub_op (down 0) top 2 9223372036854775808
    ∷ sum mul_op (up 5) (down 2) 2 18446744073709551601 ∷ sum mul_op (up 4611686018427387904) (up 2) 0 0 ∷ sum mul_op (up 4611686018427387904) (down 1) 2 9223372036854775808
    ∷ sum mul_op bottom (down 0) 0 0 ∷ sum mul_op (up 3037000499) (up 3037000499) 2 9223372030926249001 ∷ sum mul_op (up 3037000500) (up 3037000500) 0 0 ∷ []

-- comparisons both ways, of equal and of unequal Ints, on both sides of 0
unfoldable pub int_tests : List Sum
int_tests =
    sum eq_op (up 3) (up 3) 1 1 ∷ sum eq_op (up 3) (up 7) 1 0 ∷ sum eq_op (down 2) (down 2) 1 1 ∷ sum eq_op (down 2) (down 3) 1 0 ∷ sum eq_op (up 5) (down 5) 1 0
    ∷ sum eq_op (down 5) (up 5) 1 0 ∷ sum lt_op (up 3) (up 7) 1 1 ∷ sum lt_op (up 7) (up 3) 1 0 ∷ sum lt_op (up 3) (up 3) 1 0 ∷ sum lt_op (down 0) (up 0) 1 1
    ∷ sum lt_op (up 0) (down 0) 1 0 ∷ sum lt_op (down 1) (down 0) 1 1 ∷ sum lt_op (down 0) (down 1) 1 0 ∷ sum le_op (up 3) (up 7) 1 1 ∷ sum le_op (up 7) (up 3) 1 0
    ∷ sum le_op (up 3) (up 3) 1 1 ∷ sum le_op (down 0) (up 0) 1 1 ∷ sum le_op (up 0) (down 0) 1 0 ∷ []

-- "Real operations round once as IEEE 754 says; an infinite or NaN result is Unknown": 0.1 + 0.2, the largest Real doubled both ways,
-- 1.5 and 0.25, the smallest Real halved
unfoldable pub real_sums : List Sum
real_sums =
    sum add_op (real 4591870180066957722) (real 4596373779694328218) 3 4599075939470750516 ∷ sum add_op (real 9218868437227405311) (real 9218868437227405311) 0 0
    ∷ sum sub_op (real 18442240474082181119) (real 9218868437227405311) 0 0 ∷ sum mul_op (real 9218868437227405311) (real 4611686018427387904) 0 0
    ∷ sum sub_op (real 4609434218613702656) (real 4598175219545276416) 3 4608308318706860032 ∷ sum sub_op (real 4598175219545276416) (real 4609434218613702656) 3 13831680355561635840
    ∷ sum mul_op (real 4609434218613702656) (real 4598175219545276416) 3 4600427019358961664 ∷ sum mul_op (real 1) (real 4602678819172646912) 3 0 ∷ []

-- "Comparison of known reals is IEEE's, so 0.0 equals -0.0"
unfoldable pub real_tests : List Sum
real_tests =
    sum eq_op (real 0) (real 9223372036854775808) 1 1 ∷ sum lt_op (real 9223372036854775808) (real 0) 1 0 ∷ sum le_op (real 0) (real 9223372036854775808) 1 1
    ∷ sum eq_op (real 4609434218613702656) (real 4598175219545276416) 1 0 ∷ sum lt_op (real 4598175219545276416) (real 4609434218613702656) 1 1
    ∷ sum lt_op (real 4609434218613702656) (real 4598175219545276416) 1 0 ∷ sum le_op (real 4598175219545276416) (real 4609434218613702656) 1 1
    ∷ sum le_op (real 4609434218613702656) (real 4598175219545276416) 1 0 ∷ []

-- "NOT Unknown is Unknown"; which conditions are True, which are False
unfoldable pub alone : List (List ℕ)
alone = map (λ x. digit (not_of x) ∷ bool_byte (says true x) ∷ bool_byte (says false x) ∷ []) samples

unfoldable pub alone_expected : List (List ℕ)
alone_expected = (9 ∷ 0 ∷ 0 ∷ []) ∷ (8 ∷ 0 ∷ 0 ∷ []) ∷ (1 ∷ 0 ∷ 1 ∷ []) ∷ (0 ∷ 1 ∷ 0 ∷ []) ∷ (9 ∷ 0 ∷ 0 ∷ []) ∷ (9 ∷ 0 ∷ 0 ∷ []) ∷ []

-- "Bool 0 or 1, Int two's complement, finite Real's bits": which bits are good, for kinds 0 to 3
unfoldable pub goods : List Bool
goods =
    good_bits 0 0 ∷ good_bits 0 1 ∷ good_bits 0 2 ∷ good_bits 1 18446744073709551615 ∷ good_bits 2 4607182418800017408 ∷ good_bits 2 9218868437227405311
    ∷ good_bits 2 9218868437227405312 ∷ good_bits 2 18442240474082181120 ∷ good_bits 2 9221120237041090560 ∷ good_bits 3 0 ∷ []

unfoldable pub goods_expected : List Bool
goods_expected = true ∷ true ∷ false ∷ true ∷ true ∷ true ∷ false ∷ false ∷ false ∷ false ∷ []

-- a kept value, by its tag and bits, worked out and kept again
unfoldable pub kept : ℕ → ℕ → List ℕ
kept t w = tag_of (decode t w) ∷ bits_of (decode t w) ∷ (encode (decode t w)).tag ∷ (encode (decode t w)).bits ∷ []

unfoldable pub kept_all : List (List ℕ)
kept_all =
    kept 0 0 ∷ kept 1 0 ∷ kept 1 1 ∷ kept 2 5 ∷ kept 2 18446744073709551615 ∷ kept 3 4607182418800017408 ∷ kept 3 9218868437227405312 ∷ kept 4 0 ∷ []

unfoldable pub kept_expected : List (List ℕ)
kept_expected =
    (0 ∷ 0 ∷ 0 ∷ 0 ∷ []) ∷ (1 ∷ 0 ∷ 1 ∷ 0 ∷ []) ∷ (1 ∷ 1 ∷ 1 ∷ 1 ∷ []) ∷ (2 ∷ 5 ∷ 2 ∷ 5 ∷ []) ∷ (2 ∷ 18446744073709551615 ∷ 2 ∷ 18446744073709551615 ∷ [])
    ∷ (3 ∷ 4607182418800017408 ∷ 3 ∷ 4607182418800017408 ∷ []) ∷ (0 ∷ 0 ∷ 0 ∷ 0 ∷ []) ∷ (0 ∷ 0 ∷ 0 ∷ 0 ∷ []) ∷ []

-- what would not be a value is kept as Unknown: a Clash, an infinity
unfoldable pub not_kept : List ℕ
not_kept = (encode Clash).tag ∷ (encode Clash).bits ∷ (encode (real 9218868437227405312)).tag ∷ (encode (real 9218868437227405312)).bits ∷ []

unfoldable pub not_kept_expected : List ℕ
not_kept_expected = 0 ∷ 0 ∷ 0 ∷ 0 ∷ []

-- opens every definition of this file
unfoldable pub opened : Unit {0}
unfolding tag_of bits_of real samples digit meets met_all numbers met_expected sum_right all_right up down int_sums int_tests real_sums real_tests alone alone_expected goods goods_expected kept kept_all kept_expected not_kept not_kept_expected
opened = tt
