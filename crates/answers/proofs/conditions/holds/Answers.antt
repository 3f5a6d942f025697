-- What the condition's answer says.
use mathlib.Core.Bool.{true}
use mathlib.Core.Path.{ap, ◌∙◌}
use Rattle.plexil.specs.Values.{says}
use Rattle.answers.proofs.conditions.holds.Goals as goal

pub returns : goal.returns
returns c s t b = c.says.ensures ∙ ap (says true) (c.condition.ensures s t b)
