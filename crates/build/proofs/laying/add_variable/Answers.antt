-- `build::laying::add_variable` meets its contract.
use native.Mathlib.Omega.{arith}
use Rattle.names.proofs.ViewLaws.{length-snoc}
use Rattle.build.proofs.LayLaws.{lay-unknown}
use Rattle.build.proofs.laying.add_variable.Goals as goal

pub returns : goal.returns
returns c whole ns es vs v f e g h a k n o i = (lay-unknown whole ns es vs _ f a v _ _ _ _ _ e g h k n o i (c.put_variable.ensures a.size), omega (arith, length-snoc vs v))
