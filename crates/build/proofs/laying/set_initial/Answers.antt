-- `build::laying::set_initial` meets its contract.
use native.Mathlib.Omega.{arith}
use Rattle.build.proofs.LayLaws.{lay-initial, lay-nothing}
use Rattle.build.proofs.laying.set_initial.Goals as goal

pub returns-then-n-eq0 : goal.returns-then-n-eq0
returns-then-n-eq0 c whole ns es vs f e g a = lay-nothing whole ns es vs _ f a _ (omega arith)

pub returns : goal.returns
returns c whole ns es vs f e g a = lay-initial whole ns es vs _ f a _ _ _ _ e g (omega arith) c.little.ensures
