-- The status that a place's code says.
use Rattle.places.proofs.StatusLaws.{status-in}
use Rattle.places.proofs.statuses.status_at.Goals as goal

pub returns : goal.returns
returns c = status-in _ _ c.get_or.ensures c.from.ensures
