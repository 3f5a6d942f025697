-- `build::pending::lower` meets its contract.
use mathlib.Core.Path.{refl}
use native.Mathlib.Omega.{arith}
use Rattle.build.proofs.pending.lower.Goals as goal

pub returns-then-top-gt2048 : goal.returns-then-top-gt2048
returns-then-top-gt2048 c e h = absurd (omega arith)

pub returns : goal.returns
returns c e h = rw c.last.ensures refl
