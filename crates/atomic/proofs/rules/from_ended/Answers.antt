-- By the parent, then Repeat.
use mathlib.Core.Path.{refl, sym, ◌∙◌}
use Rattle.plexil.specs.declared.Condition.TheVariants.{Repeat}
use Rattle.plexil.specs.Lists.{when◌then◌else◌}
use Rattle.plexil.specs.Atomic.{default_of, from_ended}
use Rattle.atomic.proofs.RuleLaws.{equals, holds-is}
use Rattle.atomic.proofs.rules.from_ended.Goals as goal

pub returns-then-is_closing : goal.returns-then-is_closing
unfolding from_ended when◌then◌else◌
returns-then-is_closing c = rw (sym c.is_closing.ensures ∙ c.if-is_closing.true)

pub returns-then-holds : goal.returns-then-holds
unfolding from_ended when◌then◌else◌ default_of
returns-then-holds c = rw (sym c.is_closing.ensures ∙ c.if-is_closing.false, equals _ _ c.eq.ensures c.if-eq.true, holds-is _ _ _ Repeat _ refl c.holds.ensures ∙ c.if-holds.true)

pub returns-then-eq : goal.returns-then-eq
unfolding from_ended when◌then◌else◌ default_of
returns-then-eq c = rw (sym c.is_closing.ensures ∙ c.if-is_closing.false, equals _ _ c.eq.ensures c.if-eq.true, holds-is _ _ _ Repeat _ refl c.holds.ensures ∙ c.if-holds.false)

pub returns : goal.returns
unfolding from_ended when◌then◌else◌
returns c = rw (sym c.is_closing.ensures ∙ c.if-is_closing.false, equals _ _ c.eq.ensures c.if-eq.false)
