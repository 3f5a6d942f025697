-- Success or Failure by what Post says.
use mathlib.Core.Path.{refl, ◌∙◌}
use Rattle.plexil.specs.declared.Condition.TheVariants.{Post}
use Rattle.plexil.specs.Lists.{when◌then◌else◌}
use Rattle.plexil.specs.Atomic.{default_of}
use Rattle.plexil.specs.Micro.{read_by_post, post_holds, ending_by}
use Rattle.atomic.proofs.RuleLaws.{holds-is}
use Rattle.atomic.proofs.moved.judged.Goals as goal

pub returns-then-holds : goal.returns-then-holds
unfolding ending_by post_holds read_by_post default_of when◌then◌else◌
returns-then-holds c = rw (holds-is _ _ _ Post _ refl c.holds.ensures ∙ c.if-holds.true)

pub returns : goal.returns
unfolding ending_by post_holds read_by_post default_of when◌then◌else◌
returns c = rw (holds-is _ _ _ Post _ refl c.holds.ensures ∙ c.if-holds.false)
