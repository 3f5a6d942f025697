-- `build::pending::push` meets its contract.
use native.Mathlib.Omega.{arith}
use Rattle.build.proofs.pending.push.Goals as goal

pub returns-then-top-ge2048 : goal.returns-then-top-ge2048
returns-then-top-ge2048 c = λ e h. absurd (omega arith)
