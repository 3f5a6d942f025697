-- Skip, then Start, then Pre.
use mathlib.Core.Path.{refl, ◌∙◌}
use Rattle.plexil.specs.declared.Condition.TheVariants.{Skip, Start, Pre}
use Rattle.plexil.specs.Lists.{when◌then◌else◌}
use Rattle.plexil.specs.Atomic.{default_of, from_waiting}
use Rattle.atomic.proofs.RuleLaws.{holds-is}
use Rattle.atomic.proofs.rules.from_waiting.Goals as goal

pub returns-then-holds : goal.returns-then-holds
unfolding from_waiting when◌then◌else◌ default_of
returns-then-holds c = rw (holds-is _ _ _ Skip _ refl c.holds.ensures ∙ c.if-holds.true)

pub returns-then-holds-3 : goal.returns-then-holds-3
unfolding from_waiting when◌then◌else◌ default_of
returns-then-holds-3 c = rw (holds-is _ _ _ Skip _ refl c.holds.ensures ∙ c.if-holds.false, holds-is _ _ _ Start _ refl c.holds-2.ensures ∙ c.if-holds-2.true, holds-is _ _ _ Pre _ refl c.holds-then-holds-2.ensures ∙ c.if-holds-3.true)

pub returns-then-holds-2 : goal.returns-then-holds-2
unfolding from_waiting when◌then◌else◌ default_of
returns-then-holds-2 c = rw (holds-is _ _ _ Skip _ refl c.holds.ensures ∙ c.if-holds.false, holds-is _ _ _ Start _ refl c.holds-2.ensures ∙ c.if-holds-2.true, holds-is _ _ _ Pre _ refl c.holds-then-holds-2.ensures ∙ c.if-holds-3.false)

pub returns : goal.returns
unfolding from_waiting when◌then◌else◌ default_of
returns c = rw (holds-is _ _ _ Skip _ refl c.holds.ensures ∙ c.if-holds.false, holds-is _ _ _ Start _ refl c.holds-2.ensures ∙ c.if-holds-2.false)
