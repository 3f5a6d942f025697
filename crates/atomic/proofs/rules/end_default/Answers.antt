-- By the node's type.
use mathlib.Core.Path.{refl, ap}
use mathlib.Core.Bool.{not}
use Rattle.plexil.specs.Lists.{when◌then◌else◌}
use Rattle.plexil.specs.Records.{is_list}
use Rattle.plexil.specs.Atomic.{default_of}
use Rattle.plexil.proofs.TestLaws.{eq_yes, eq_no}
use Rattle.atomic.proofs.rules.end_default.Goals as goal

pub returns-then-node_type-ne0 : goal.returns-then-node_type-ne0
unfolding default_of is_list when◌then◌else◌
returns-then-node_type-ne0 c = rw (eq_no c.node_type.ensures refl c.if-node_type-ne0.true) (ap not (eq_no refl refl c.if-node_type-ne0.true))

pub returns-else-node_type-ne0 : goal.returns-else-node_type-ne0
unfolding default_of is_list when◌then◌else◌
returns-else-node_type-ne0 c = rw (eq_yes c.node_type.ensures refl c.if-node_type-ne0.false) c.requires
