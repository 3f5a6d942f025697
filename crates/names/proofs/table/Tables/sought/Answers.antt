-- `names::Tables::sought` meets its contract: upwards or among the children.
use Rattle.names.specs.Judging.{part_of}
use Rattle.names.proofs.table.Tables.sought.Goals as goal

pub returns-then-first : goal.returns-then-first
unfolding part_of
returns-then-first c = rw c.if-first.true c.node_up.ensures

pub returns : goal.returns
unfolding part_of
returns c = rw c.if-first.false c.child_of.ensures
