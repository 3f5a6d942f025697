-- Nothing where it stays.
use Rattle.plexil.specs.Micro.{sent_by}
use Rattle.atomic.proofs.moved.sent_by.Goals as goal

pub returns-in-Stay : goal.returns-in-Stay
unfolding sent_by
returns-in-Stay c = λ s h. rw c.in-Stay.is

pub returns-in-Go : goal.returns-in-Go
returns-in-Go c = λ s h. rw c.in-Go.is (c.sent_on.ensures s _ h)
