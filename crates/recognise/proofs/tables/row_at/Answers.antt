-- The tables are the lists of the definition.
use Rattle.recognise.specs.Tables.{effects, say_numbers, nexts}
use Rattle.recognise.proofs.Stepped.{at-none, at-some}
use mathlib.Core.Path.{sym, ◌∙◌}
use Rattle.recognise.proofs.tables.row_at.Goals as goal

pub returns-in_err-effect : goal.returns-in_err-effect
unfolding effects
returns-in_err-effect c = rw c.from_residual.ensures (at-none _ (sym c.in_err-effect.was ∙ c.effect_code.ensures))

pub returns : goal.returns
unfolding effects say_numbers nexts
returns c = at-some _ _ (sym c.in_ok-effect.was ∙ c.effect_code.ensures)
