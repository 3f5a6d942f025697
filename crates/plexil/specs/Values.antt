-- "Values and expressions": kinds, Unknown, and what each operator answers. A value is a `Worked` (src/lib.rt): "Each kind also has Unknown.
-- A known value carries its kind; meeting another kind is, in the definition, an answer of its own apart from Unknown", Clash.
use Rattle.std.specs.Prelude.{ℕ, zero, suc, ◌-◌, ◌^◌, Bool, true, false, not, ◌&&◌, ℤ, pos, negsuc, ◌+ℤ◌, ◌-ℤ◌, ◌*ℤ◌, eqb, leb, Float}
use Rattle.std.specs.Bool.{beq}
use Rattle.std.specs.Int.Signed.{lt_z, le_z}
use Rattle.std.specs.Float.Ieee as Ieee
use Rattle.std.specs.Float.{nan, inf, fin, binary64}
use Rattle.std.specs.Int.{w64}
use mir.Val.{to_z, of_z, bool_byte}
use Rattle.plexil.specs.declared.Worked.{Worked}
use Rattle.plexil.specs.declared.Worked.TheVariants.{Clash, Unknown, Bool as Flag, Int, Real}
use Rattle.plexil.specs.declared.Pair.{Pair}
use Rattle.plexil.specs.declared.Pair.TheVariants as two
use Rattle.plexil.specs.declared.Cell.{Cell}
use Rattle.plexil.specs.Lists.{when◌then◌else◌}

-- "1 Int (64-bit signed)"
unfoldable pub in_range : ℤ → Bool
in_range z = le_z (negsuc (2 ^ 63 - 1)) z && le_z z (pos (2 ^ 63 - 1))

-- "Int sum, difference or product outside the range is Unknown"
unfoldable pub int_in : ℤ → Worked
int_in z = when in_range z then Int z else Unknown

-- "2 Real (binary64, finite)"
unfoldable pub finite : Float → Bool
finite nan = false
finite (inf s) = false
finite (fin s m e) = true

-- "an infinite or NaN result is Unknown"
unfoldable pub real_in : Float → Worked
real_in x = when finite x then Real x else Unknown

-- "Kinds: 0 Bool, 1 Int (64-bit signed), 2 Real (binary64, finite)"; "Bool 0 or 1, Int two's complement, finite Real's bits"
unfoldable pub known : ℕ → ℕ → Worked
known zero w = Flag (eqb w 1)
known (suc zero) w = Int (to_z w64 w)
known (suc (suc zero)) w = real_in (Ieee.of_bits binary64 w)
known (suc (suc (suc k))) w = Unknown

-- w are the bits of a known value of kind k
unfoldable pub good_bits : ℕ → ℕ → Bool
good_bits zero w = leb w 1
good_bits (suc zero) w = true
good_bits (suc (suc zero)) w = finite (Ieee.of_bits binary64 w)
good_bits (suc (suc (suc k))) w = false

-- a kept value, by its tag, 0 for Unknown and else one more than the kind, and its bits
unfoldable pub decode : ℕ → ℕ → Worked
decode zero w = Unknown
decode (suc k) w = known k w

-- a tag and its bits, as a value is kept
abbrev pub cell : ℕ → ℕ → Cell
cell t w = record { tag = t; bits = w }

-- how a value is kept; a Clash never comes, and would be kept as Unknown
unfoldable pub encode : Worked → Cell
encode Clash = cell 0 0
encode Unknown = cell 0 0
encode (Flag b) = cell 1 (bool_byte b)
encode (Int z) = cell 2 (of_z w64 z)
encode (Real x) = when finite x then cell 3 (Ieee.to_bits binary64 x) else cell 0 0

-- "NOT Unknown is Unknown"
unfoldable pub not_of : Worked → Worked
not_of Clash = Clash
not_of Unknown = Unknown
not_of (Flag b) = Flag (not b)
not_of (Int z) = Clash
not_of (Real x) = Clash

-- a side that decides, and else the other
unfoldable pub decides : Bool → Bool → Worked → Worked
decides d b other = when beq b d then Flag d else other

-- "AND is False if either side is False, True if both are True, else Unknown. OR is the same with True and False exchanged."
unfoldable pub junction : Bool → Worked → Worked → Worked
junction d Clash y = Clash
junction d Unknown Clash = Clash
junction d Unknown Unknown = Unknown
junction d Unknown (Flag b) = decides d b Unknown
junction d Unknown (Int z) = Clash
junction d Unknown (Real x) = Clash
junction d (Flag a) Clash = Clash
junction d (Flag a) Unknown = decides d a Unknown
junction d (Flag a) (Flag b) = decides d a (Flag b)
junction d (Flag a) (Int z) = Clash
junction d (Flag a) (Real x) = Clash
junction d (Int z) y = Clash
junction d (Real x) y = Clash

-- "7 AND"
unfoldable pub and_of : Worked → Worked → Worked
and_of = junction false

-- "8 OR"
unfoldable pub or_of : Worked → Worked → Worked
or_of = junction true

-- the two operands of EQ to MUL, sorted: "All other operators with an Unknown operand give Unknown"; beside a known Bool it is UnknownBool, which only EQ takes
unfoldable pub pair_of : Worked → Worked → Pair
pair_of Clash y = two.Clash
pair_of Unknown Clash = two.Clash
pair_of Unknown Unknown = two.Unknown
pair_of Unknown (Flag b) = two.UnknownBool
pair_of Unknown (Int z) = two.Unknown
pair_of Unknown (Real x) = two.Unknown
pair_of (Flag a) Clash = two.Clash
pair_of (Flag a) Unknown = two.UnknownBool
pair_of (Flag a) (Flag b) = two.Bools a b
pair_of (Flag a) (Int z) = two.Clash
pair_of (Flag a) (Real x) = two.Clash
pair_of (Int a) Clash = two.Clash
pair_of (Int a) Unknown = two.Unknown
pair_of (Int a) (Flag b) = two.Clash
pair_of (Int a) (Int b) = two.Ints a b
pair_of (Int a) (Real x) = two.Clash
pair_of (Real a) Clash = two.Clash
pair_of (Real a) Unknown = two.Unknown
pair_of (Real a) (Flag b) = two.Clash
pair_of (Real a) (Int b) = two.Clash
pair_of (Real a) (Real b) = two.Reals a b

-- two Ints are equal
unfoldable pub eq_z : ℤ → ℤ → Bool
eq_z (pos a) (pos b) = eqb a b
eq_z (pos a) (negsuc b) = false
eq_z (negsuc a) (pos b) = false
eq_z (negsuc a) (negsuc b) = eqb a b

-- "9 takes two of one kind"; "Comparison of known reals is IEEE's, so 0.0 equals -0.0"
unfoldable pub eq_of : Pair → Worked
eq_of two.Clash = Clash
eq_of two.Unknown = Unknown
eq_of two.UnknownBool = Unknown
eq_of (two.Bools a b) = Flag (beq a b)
eq_of (two.Ints a b) = Flag (eq_z a b)
eq_of (two.Reals a b) = Flag (Ieee.eq a b)

-- "10 to 14 take two Int or two Real"
unfoldable pub numeric : (ℤ → ℤ → Worked) → (Float → Float → Worked) → Pair → Worked
numeric i r two.Clash = Clash
numeric i r two.Unknown = Unknown
numeric i r two.UnknownBool = Clash
numeric i r (two.Bools a b) = Clash
numeric i r (two.Ints a b) = i a b
numeric i r (two.Reals a b) = r a b

-- "10 LT"; "Comparison of known reals is IEEE's"
unfoldable pub lt_of : Pair → Worked
lt_of = numeric (λ a b. Flag (lt_z a b)) (λ a b. Flag (Ieee.lt a b))

-- "11 LE"
unfoldable pub le_of : Pair → Worked
le_of = numeric (λ a b. Flag (le_z a b)) (λ a b. Flag (Ieee.le a b))

-- "12 ADD"; "Real operations round once as IEEE 754 says"
unfoldable pub add_of : Pair → Worked
add_of = numeric (λ a b. int_in (a +ℤ b)) (λ a b. real_in (Ieee.add binary64 a b))

-- "13 SUB"
unfoldable pub sub_of : Pair → Worked
sub_of = numeric (λ a b. int_in (a -ℤ b)) (λ a b. real_in (Ieee.sub binary64 a b))

-- "14 MUL"
unfoldable pub mul_of : Pair → Worked
mul_of = numeric (λ a b. int_in (a *ℤ b)) (λ a b. real_in (Ieee.mul binary64 a b))

-- v says d: a condition is True, or is False
unfoldable pub says : Bool → Worked → Bool
says d Clash = false
says d Unknown = false
says d (Flag b) = beq b d
says d (Int z) = false
says d (Real x) = false

-- opens every definition of this file
unfoldable pub opened : Unit {0}
unfolding in_range int_in finite real_in known good_bits decode encode not_of decides junction and_of or_of pair_of eq_z eq_of numeric lt_of le_of add_of sub_of mul_of says Ieee.of_bits Ieee.to_bits Ieee.add Ieee.sub Ieee.mul Ieee.lt Ieee.le Ieee.eq
opened = tt
