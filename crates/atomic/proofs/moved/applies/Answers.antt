-- Stay is where no rule applies.
use Rattle.plexil.specs.Micro.{stays}
use Rattle.atomic.proofs.moved.applies.Goals as goal
use Rattle.atomic.proofs.moved.applies.Goals.{in-Stay, in_default}

pub returns : goal.returns
unfolding stays
returns c = elim c.match-matches.branch [ in-Stay w ↦ rw (w.matches-is, w.in-Stay.is) | in_default w ↦ rw (w.matches-is, w.in_default.is) ]
