-- `build::laying::add_node` meets its contract.
use native.Mathlib.Omega.{arith}
use Rattle.names.proofs.ViewLaws.{length-snoc}
use Rattle.build.proofs.LayLaws.{lay-one-node}
use Rattle.build.proofs.laying.add_node.Goals as goal

pub returns : goal.returns
returns c whole ns es vs m f e h a b = (lay-one-node whole ns es vs _ f a m _ _ _ _ _ _ _ _ c.requires e h b c.put_node.ensures, omega (arith, length-snoc ns m))
