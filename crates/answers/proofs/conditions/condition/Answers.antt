-- The default, or what the table tells.
use mathlib.Core.Path.{sym}
use borrow.Author.Tests.{eq-eqb}
use Rattle.plexil.proofs.ListLaws.{if-true}
use Rattle.evaluate.specs.Condition.{condition_or}
use Rattle.answers.proofs.Given.{from-table}
use Rattle.answers.proofs.conditions.condition.Goals as goal

pub returns-then-e : goal.returns-then-e
unfolding condition_or
returns-then-e c s t b = rw (← c.condition_field-e.ensures) (sym (if-true _ _ _ (eq-eqb _ 65535 c.if-e.true)))

pub returns : goal.returns
unfolding condition_or
returns c s t b = from-table _ s _ _ t _ b _ _ c.condition_field-e.ensures c.if-e.false c.cell_value.ensures
