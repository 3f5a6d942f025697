-- One comparison.
use mathlib.Core.Path.{◌∙◌}
use Rattle.plexil.proofs.Statuses.{equal_same}
use Rattle.settle.proofs.variables.is_waiting.Goals as goal

pub returns : goal.returns
returns c = c.eq.ensures ∙ equal_same _ _
