-- A number with its sign, as 64 bits.
use Rattle.std.proofs.Common.{◌≡◌, ℕ, zero, suc, ◌+◌, ◌<◌, ◌%◌, Bool, true, false, refl, true≢false, arith}
use mathlib.Core.Bool.{false≢true}
use Rattle.notation.specs.Numbers.{signed, signed_bits}

pub signed-plus : (s : Bool) (n : ℕ) → s ≡ false → n ≡ signed s n
unfolding signed
signed-plus false n e = refl
signed-plus true n e = absurd (true≢false e)

pub signed-negated : (s : Bool) (n r : ℕ) → s ≡ true → n < 18446744073709551616 → r < 18446744073709551616 → (r + n) % 18446744073709551616 ≡ 0 → r ≡ signed s n
unfolding signed
signed-negated false n r e h g m = absurd (false≢true e)
signed-negated true zero r e h g m = omega (arith, m)
signed-negated true (suc n) r e h g m = omega (arith, m)

pub bits-plus : (s : Bool) (n : ℕ) → s ≡ false → n ≡ signed_bits s n
unfolding signed_bits
bits-plus false n e = refl
bits-plus true n e = absurd (true≢false e)

pub bits-minus : (s : Bool) (n : ℕ) → s ≡ true → 9223372036854775808 + n ≡ signed_bits s n
unfolding signed_bits
bits-minus false n e = absurd (false≢true e)
bits-minus true n e = refl
