-- The write, the initial value, the old cell, as the tests say.
use mathlib.Core.Path.{sym, ap, ap₂, ◌∙◌}
use Rattle.plexil.specs.Values.{cell}
use Rattle.plexil.specs.Order.{entered_waiting}
use Rattle.plexil.proofs.ListLaws.{if-true, if-false}
use Rattle.settle.proofs.Laws.{settled-by}
use Rattle.settle.proofs.variables.settled_var.Goals as goal

pub returns-then-written : goal.returns-then-written
returns-then-written c = λ s k h g t a b d e. ap₂ cell c.get_or.ensures c.get_or-then-written.ensures
    ∙ sym (settled-by _ s k _ _ _ _ _ t a b d ∙ if-true _ _ _ (sym c.written.ensures ∙ c.if-written.true))

pub returns-then-entered_waiting : goal.returns-then-entered_waiting
returns-then-entered_waiting c = λ s k h g t a b d e. c.initial.ensures
    ∙ sym (settled-by _ s k _ _ _ _ _ t a b d ∙ (if-false _ _ _ (sym c.written.ensures ∙ c.if-written.false)
    ∙ if-true _ _ _ (sym (c.entered_waiting.ensures s k h g ∙ ap (entered_waiting s k) c.owner.ensures) ∙ c.if-entered_waiting.true)))

pub returns : goal.returns
returns c = λ s k h g t a b d e.
    sym (settled-by _ s k _ _ _ _ _ t a b d ∙ (if-false _ _ _ (sym c.written.ensures ∙ c.if-written.false)
    ∙ (if-false _ _ _ (sym (c.entered_waiting.ensures s k h g ∙ ap (entered_waiting s k) c.owner.ensures) ∙ c.if-entered_waiting.false) ∙ e)))
