-- Cleared on going to IterationEnded or Executing.
use Rattle.plexil.specs.Micro.{mark_by}
use Rattle.plexil.proofs.ListLaws.{if-true, if-false}
use Rattle.plexil.proofs.Statuses.{either, neither}
use mathlib.Core.Path.{sym, ◌∙◌}
use Rattle.plexil.specs.Places.{mark_at}
use Rattle.atomic.proofs.moved.mark_by.Goals as goal

pub returns-in-IterationEnded : goal.returns-in-IterationEnded
unfolding mark_by
returns-in-IterationEnded c = sym (if-true _ _ _ (sym (either _ _ _ c.in-IterationEnded.is)))

pub returns-in_default : goal.returns-in_default
unfolding mark_by mark_at
returns-in_default c = c.get_or.ensures ∙ sym (if-false _ _ _ (sym (neither _ _ _ c.in_default.not-IterationEnded c.in_default.not-Executing)))
