-- Status and mark by where it goes, outcome and failure by the effect.
use mathlib.Core.Path.{ap}
use Rattle.atomic.specs.declared.moved.Ending.{Ending}
use Rattle.plexil.specs.Micro.{place_by}
use Rattle.atomic.proofs.RuleLaws.{same_place}
use Rattle.atomic.proofs.moved.gone.Goals as goal

pub returns : goal.returns
unfolding place_by
returns c = same_place c.from.ensures (ap (λ (r : Ending). r.outcome) c.ending_by-r.ensures) (ap (λ (r : Ending). r.failure) c.ending_by-r.ensures) c.mark_by.ensures
