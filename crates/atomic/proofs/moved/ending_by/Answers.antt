-- Outcome and failure by the effect.
use Rattle.plexil.specs.Places.{outcome_at, failure_at}
use Rattle.plexil.specs.Micro.{ending_by}
use Rattle.atomic.proofs.moved.ending_by.Goals as goal

pub returns-in-Kept : goal.returns-in-Kept
unfolding ending_by outcome_at failure_at
returns-in-Kept c = rw c.in-Kept.is (λ k. record { outcome = c.get_or.ensures k; failure = c.get_or-in-Kept.ensures k })

pub returns-in-Cleared : goal.returns-in-Cleared
unfolding ending_by
returns-in-Cleared c = rw c.in-Cleared.is

pub returns-in-Skipped : goal.returns-in-Skipped
unfolding ending_by failure_at
returns-in-Skipped c = rw c.in-Skipped.is (λ k. record { outcome = 3; failure = c.get_or-in-Skipped.ensures k })

pub returns-in-Failed : goal.returns-in-Failed
unfolding ending_by
returns-in-Failed c = rw c.in-Failed.is

pub returns-in-Judged : goal.returns-in-Judged
returns-in-Judged c = rw c.in-Judged.is c.judged.ensures
