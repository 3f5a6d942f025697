-- A step by its row, where there is one, and by what the row does.
use mathlib.Core.Path.{sym, ◌∙◌}
use Rattle.recognise.proofs.Stepped.{row-some, step-none, step-refused, step-went}
use Rattle.recognise.proofs.steps.step.Goals as goal

pub returns-in_err-m : goal.returns-in_err-m
returns-in_err-m c = rw c.from_residual.ensures (step-none _ _ (sym c.in_err-m.was ∙ c.row_of.ensures))

pub moved-requires : goal.moved-requires
moved-requires c = (row-some _ _ (sym c.in_ok-m.was ∙ c.row_of.ensures)).lawful

pub returns-in_err-next : goal.returns-in_err-next
returns-in_err-next c = rw c.from_residual-in_err-next.ensures (step-refused _ _ _ (sym c.in_ok-m.was ∙ c.row_of.ensures) (sym c.in_err-next.was ∙ c.moved.ensures))

pub returns : goal.returns
returns c = step-went _ _ _ (sym c.in_ok-m.was ∙ c.row_of.ensures) _ (sym c.in_ok-next.was ∙ c.moved.ensures)
