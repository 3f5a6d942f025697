-- It leads, is tied, or is beaten.
use mathlib.Core.Path.{sym, ◌∙◌}
use borrow.Author.Tests.{lt-ltb, le-ltb, eq-eqb, ne_eqb}
use Rattle.plexil.specs.Order.{meet}
use Rattle.plexil.proofs.ListLaws.{if-true, if-false}
use Rattle.visit.proofs.meet_writer.Goals as goal

pub returns-then-best-mine : goal.returns-then-best-mine
unfolding meet
returns-then-best-mine c = sym (if-true _ _ _ (lt-ltb _ _ c.if-best-mine.true))

pub returns-then-best-mine-2 : goal.returns-then-best-mine-2
unfolding meet
returns-then-best-mine-2 c = sym (if-false _ _ _ (le-ltb _ _ c.if-best-mine.false) ∙ if-true _ _ _ (eq-eqb _ _ c.if-best-mine-2.true))

pub returns-else-best-mine-2 : goal.returns-else-best-mine-2
unfolding meet
returns-else-best-mine-2 c = sym (if-false _ _ _ (le-ltb _ _ c.if-best-mine.false) ∙ if-false _ _ _ (ne_eqb _ _ c.if-best-mine-2.false))
