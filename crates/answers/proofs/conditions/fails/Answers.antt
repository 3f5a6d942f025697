-- What the condition's answer says.
use mathlib.Core.Bool.{false}
use mathlib.Core.Path.{ap, ◌∙◌}
use Rattle.plexil.specs.Values.{says}
use Rattle.answers.proofs.conditions.fails.Goals as goal

pub returns : goal.returns
returns c s t b = c.says.ensures ∙ ap (says false) (c.condition.ensures s t b)
