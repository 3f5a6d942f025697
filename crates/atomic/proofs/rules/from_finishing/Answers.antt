-- The two failures, then the children.
use mathlib.Core.Path.{sym, ◌∙◌}
use Rattle.plexil.specs.declared.Condition.TheVariants.{Inv}
use Rattle.plexil.specs.Lists.{when◌then◌else◌}
use Rattle.plexil.specs.Atomic.{failure_or, by_status}
use Rattle.atomic.proofs.RuleLaws.{equals, fails-is, inv-default}
use Rattle.atomic.proofs.rules.from_finishing.Goals as goal

pub returns-then-eq : goal.returns-then-eq
unfolding by_status failure_or when◌then◌else◌
returns-then-eq c = rw (equals _ _ c.eq.ensures c.if-eq.true) c.fails_by.ensures

pub returns-then-fails : goal.returns-then-fails
unfolding by_status failure_or when◌then◌else◌
returns-then-fails c = rw (equals _ _ c.eq.ensures c.if-eq.false, fails-is _ _ _ Inv _ (inv-default _ _ _) c.fails.ensures ∙ c.if-fails.true) c.fails_by-then-fails.ensures

pub returns-then-resting : goal.returns-then-resting
unfolding by_status failure_or when◌then◌else◌
returns-then-resting c = rw (equals _ _ c.eq.ensures c.if-eq.false, fails-is _ _ _ Inv _ (inv-default _ _ _) c.fails.ensures ∙ c.if-fails.false, sym c.requires ∙ c.if-resting.true)

pub returns : goal.returns
unfolding by_status failure_or when◌then◌else◌
returns c = rw (equals _ _ c.eq.ensures c.if-eq.false, fails-is _ _ _ Inv _ (inv-default _ _ _) c.fails.ensures ∙ c.if-fails.false, sym c.requires ∙ c.if-resting.false)
