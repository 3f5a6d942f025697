-- `build::pending::weight` meets its contract.
use mathlib.Core.Path.{refl}
use native.Mathlib.Omega.{arith}
use Rattle.build.proofs.Numbers.{operator-range}
use Rattle.build.proofs.pending.weight.Goals as goal

pub returns-then-says-eq79 : goal.returns-then-says-eq79
returns-then-says-eq79 c = record { tells = λ o e. absurd (omega (arith, operator-range o)); not = λ e. refl }
