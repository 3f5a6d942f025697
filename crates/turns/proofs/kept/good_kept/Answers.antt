-- The state, then the card.
use mathlib.Core.Path.{sym, ◌∙◌}
use Rattle.plexil.specs.Form.{good_kept}
use Rattle.plexil.proofs.ListLaws.{every-cons, every-stop, every_one}
use Rattle.turns.proofs.kept.good_kept.Goals as goal

pub good_card-requires : goal.good_card-requires
good_card-requires c = c.requires

pub returns-then-good_state : goal.returns-then-good_state
unfolding good_kept
returns-then-good_state c = c.good_card.ensures ∙ sym (every-cons _ _ (sym c.good_state.ensures ∙ c.if-good_state.true) ∙ every_one _)

pub returns-else-good_state : goal.returns-else-good_state
unfolding good_kept
returns-else-good_state c = c.if-good_state.false ∙ sym (every-stop _ _ (sym c.good_state.ensures ∙ c.if-good_state.false))
