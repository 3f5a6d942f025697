-- The two failures, then End.
use mathlib.Core.Path.{◌∙◌}
use Rattle.plexil.specs.declared.Condition.TheVariants.{Inv, End}
use Rattle.plexil.specs.Lists.{when◌then◌else◌}
use Rattle.plexil.specs.Atomic.{failure_or, by_status}
use Rattle.atomic.proofs.RuleLaws.{equals, holds-is, fails-is, inv-default}
use Rattle.atomic.proofs.rules.from_executing.Goals as goal

pub returns-then-eq : goal.returns-then-eq
unfolding by_status failure_or when◌then◌else◌
returns-then-eq c = rw (equals _ _ c.eq.ensures c.if-eq.true) c.fails_by.ensures

pub returns-then-fails : goal.returns-then-fails
unfolding by_status failure_or when◌then◌else◌
returns-then-fails c = rw (equals _ _ c.eq.ensures c.if-eq.false, fails-is _ _ _ Inv _ (inv-default _ _ _) c.fails.ensures ∙ c.if-fails.true) c.fails_by-then-fails.ensures

pub returns-then-holds : goal.returns-then-holds
unfolding by_status failure_or when◌then◌else◌
returns-then-holds c = rw (equals _ _ c.eq.ensures c.if-eq.false, fails-is _ _ _ Inv _ (inv-default _ _ _) c.fails.ensures ∙ c.if-fails.false, holds-is _ _ _ End _ c.end_default.ensures c.holds.ensures ∙ c.if-holds.true) c.at_end.ensures

pub returns : goal.returns
unfolding by_status failure_or when◌then◌else◌
returns c = rw (equals _ _ c.eq.ensures c.if-eq.false, fails-is _ _ _ Inv _ (inv-default _ _ _) c.fails.ensures ∙ c.if-fails.false, holds-is _ _ _ End _ c.end_default.ensures c.holds.ensures ∙ c.if-holds.false)
