-- `build::pending::raise` meets its contract.
use native.Mathlib.Omega.{arith}
use Rattle.build.proofs.pending.raise.Goals as goal

pub returns-then-top-gt2048 : goal.returns-then-top-gt2048
returns-then-top-gt2048 c e h n = absurd (omega arith)

pub returns-then-n-ge18446744073709551615 : goal.returns-then-n-ge18446744073709551615
returns-then-n-ge18446744073709551615 c e h n = absurd (omega arith)
