-- One comparison.
use mathlib.Core.Path.{◌∙◌}
use Rattle.plexil.specs.Atomic.{is_finished}
use Rattle.plexil.proofs.Statuses.{equal_same}
use Rattle.atomic.proofs.statuses.is_finished.Goals as goal

pub returns : goal.returns
unfolding is_finished
returns c = c.eq.ensures ∙ equal_same _ _
