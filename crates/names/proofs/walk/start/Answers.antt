-- `names::walk::start` meets its contract: by its tests.
use native.Mathlib.Omega.{arith}
use Rattle.names.proofs.Walks.{begun}
use Rattle.names.proofs.walk.start.Goals as goal

pub returns : goal.returns
returns c = begun _ c.begin-c.result c.begin-c.ensures (omega (arith, c.begin-c.type_inv))
