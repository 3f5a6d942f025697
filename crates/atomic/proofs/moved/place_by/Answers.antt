-- What stays, or what the move makes.
use Rattle.plexil.specs.Places.{outcome_at, failure_at, mark_at}
use Rattle.plexil.specs.Micro.{place_by}
use Rattle.atomic.proofs.moved.place_by.Goals as goal

pub returns-in-Stay : goal.returns-in-Stay
unfolding place_by outcome_at failure_at mark_at
returns-in-Stay c = rw c.in-Stay.is (λ t. record { status = c.get_or.ensures t; outcome = c.get_or-in-Stay.ensures t; failure = c.get_or-in-Stay-2.ensures t; mark = c.get_or-in-Stay-3.ensures t })

pub returns-in-Go : goal.returns-in-Go
returns-in-Go c = rw c.in-Go.is c.gone.ensures
