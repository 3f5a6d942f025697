-- What a literal of a text is as 64 bits: "Bool 0 or 1, Int two's complement, finite Real's bits".
use Rattle.std.specs.Prelude.{ℕ, zero, suc, ◌+◌, ◌-◌, ◌*◌, ◌^◌, Bool, true, false, cond, List, [], ◌∷◌, length, eqb}
use Rattle.std.specs.Float.{binary64}
use Rattle.std.specs.Float.Ieee.{round, to_bits}
use Rattle.grammar.specs.Spelling.{Token}

unfoldable pub flag : Bool → ℕ
flag false = 0
flag true = 1

-- two's complement; the Bool is the sign "-"
unfoldable pub signed : Bool → ℕ → ℕ
signed false n = n
signed true zero = 0
signed true (suc n) = 18446744073709551616 - suc n

-- the digits of a decimal as one number
unfoldable pub all_digits : ℕ → List ℕ → ℕ
all_digits n [] = n
all_digits n (b ∷ t) = cond (eqb b 46) (all_digits n t) (all_digits (n * 10 + (b - 48)) t)

-- how many digits stand after '.'
unfoldable pub places : List ℕ → ℕ
places [] = 0
places (b ∷ t) = cond (eqb b 46) (length t) (places t)

-- a decimal is the fraction that its digits write, rounded once; the sign stays on a zero
unfoldable pub real_bits : Bool → Token → ℕ
real_bits s t = to_bits binary64 (round binary64 s (all_digits 0 t) (10 ^ places t))

-- bits as they are written, with the sign's bit
unfoldable pub signed_bits : Bool → ℕ → ℕ
signed_bits false b = b
signed_bits true b = 9223372036854775808 + b

-- opens every definition of this file
unfoldable pub opened : Unit {0}
unfolding flag signed all_digits places real_bits signed_bits
opened = tt
