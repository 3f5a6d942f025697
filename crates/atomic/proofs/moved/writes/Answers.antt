-- By the node's type, then by the move.
use mathlib.Core.Path.{refl, sym, ◌∙◌}
use Rattle.plexil.specs.Records.{is_assignment, is_writer}
use Rattle.plexil.proofs.ListLaws.{every-cons, every-stop, every_one}
use Rattle.plexil.proofs.TestLaws.{eq_yes, eq_no}
use Rattle.atomic.proofs.moved.writes.Goals as goal

pub returns-then-node_type-eq2 : goal.returns-then-node_type-eq2
unfolding is_writer is_assignment
returns-then-node_type-eq2 c = c.judges.ensures ∙ sym (every-cons _ _ (eq_yes c.node_type.ensures refl c.if-node_type-eq2.true) ∙ every_one _)

pub returns-else-node_type-eq2 : goal.returns-else-node_type-eq2
unfolding is_writer is_assignment
returns-else-node_type-eq2 c = eq_no refl refl c.if-node_type-eq2.false ∙ sym (every-stop _ _ (eq_no c.node_type.ensures refl c.if-node_type-eq2.false))
