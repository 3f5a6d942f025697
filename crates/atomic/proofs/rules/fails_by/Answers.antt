-- By the node's type.
use mathlib.Core.Path.{refl}
use Rattle.plexil.specs.Lists.{when◌then◌else◌}
use Rattle.plexil.specs.Records.{is_assignment}
use Rattle.plexil.specs.Atomic.{fails_by}
use Rattle.plexil.proofs.TestLaws.{eq_yes, eq_no}
use Rattle.atomic.proofs.rules.fails_by.Goals as goal

pub returns-then-node_type-eq2 : goal.returns-then-node_type-eq2
unfolding fails_by is_assignment when◌then◌else◌
returns-then-node_type-eq2 c = rw (eq_yes c.node_type.ensures refl c.if-node_type-eq2.true)

pub returns : goal.returns
unfolding fails_by is_assignment when◌then◌else◌
returns c = rw (eq_no c.node_type.ensures refl c.if-node_type-eq2.false)
