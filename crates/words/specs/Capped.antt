-- Numbers up to 2^63, the highest that a text can write, and one that stands for all that are past it.
use Rattle.std.specs.Prelude.{ℕ, cond, nat_le}

unfoldable pub capped : ℕ → ℕ
capped n = cond (nat_le n 9223372036854775808) n 9223372036854775809
