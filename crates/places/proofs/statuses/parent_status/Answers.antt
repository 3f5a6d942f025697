-- Node 0 reads Executing, any other its parent's place.
use mathlib.Core.Path.{◌∙◌, ap}
use Rattle.plexil.specs.Places.{status_at}
use Rattle.places.proofs.StatusLaws.{root-reads, child-reads}
use Rattle.places.proofs.statuses.parent_status.Goals as goal

pub returns-then-i-eq0 : goal.returns-then-i-eq0
returns-then-i-eq0 c = λ s e. root-reads _ _ c.if-i-eq0.true s

pub returns : goal.returns
returns c = λ s e. c.status_at.ensures s e ∙ (ap (status_at s) c.parent.ensures ∙ child-reads _ _ c.if-i-eq0.false s)
