-- `build::pending::end_at` meets its contract.
use native.Mathlib.Omega.{arith}
use Rattle.build.proofs.pending.end_at.Goals as goal

pub returns-then-t-gt2048 : goal.returns-then-t-gt2048
returns-then-t-gt2048 c h = absurd (omega arith)
