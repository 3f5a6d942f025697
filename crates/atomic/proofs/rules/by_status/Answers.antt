-- One arm a status.
use mathlib.Core.Path.{sym, ◌∙◌}
use Rattle.plexil.specs.Lists.{when◌then◌else◌}
use Rattle.plexil.specs.Atomic.{by_status}
use Rattle.atomic.proofs.RuleLaws.{said}
use Rattle.atomic.proofs.rules.by_status.Goals as goal

pub returns-in-Inactive : goal.returns-in-Inactive
unfolding by_status when◌then◌else◌
returns-in-Inactive c = rw (c.in-Inactive.is, said _ _ c.if-eq.ensures)

pub returns-in-Waiting : goal.returns-in-Waiting
unfolding by_status when◌then◌else◌
returns-in-Waiting c = rw (c.in-Waiting.is, said _ _ c.if-eq-2.ensures) c.from_waiting.ensures

pub returns-in-Executing : goal.returns-in-Executing
returns-in-Executing c = rw c.in-Executing.is c.from_executing.ensures

pub returns-in-Finishing : goal.returns-in-Finishing
returns-in-Finishing c = rw c.in-Finishing.is c.from_finishing.ensures

pub returns-in-Failing : goal.returns-in-Failing
unfolding by_status when◌then◌else◌
returns-in-Failing c = rw (c.in-Failing.is, sym c.is_settled.ensures ∙ c.if-is_settled.true)

pub returns-in-IterationEnded : goal.returns-in-IterationEnded
unfolding by_status
returns-in-IterationEnded c = rw c.in-IterationEnded.is c.from_ended.ensures

pub returns-in_default : goal.returns-in_default
unfolding by_status when◌then◌else◌
returns-in_default c = rw (c.in-Inactive.is, said _ _ c.if-eq.ensures)

pub returns-in_default-2 : goal.returns-in_default-2
unfolding by_status when◌then◌else◌
returns-in_default-2 c = rw (c.in-Waiting.is, said _ _ c.if-eq-2.ensures)

pub returns-in_default-3 : goal.returns-in_default-3
unfolding by_status when◌then◌else◌
returns-in_default-3 c = rw (c.in-Failing.is, sym c.is_settled.ensures ∙ c.if-is_settled.false)

pub returns-in_default-4 : goal.returns-in_default-4
unfolding by_status when◌then◌else◌
returns-in_default-4 c = rw c.in_default.is
