-- The old status was Waiting, or the new one decides.
use mathlib.Core.Path.{sym, ap, ◌∙◌}
use mathlib.Core.Bool.{not}
use mathlib.Core.List.{List}
use Prim.Native.Nat.{ℕ}
use lib.ListN.{get_or}
use Rattle.plexil.specs.declared.Status.{Status}
use Rattle.plexil.specs.declared.Status.TheVariants.{Waiting}
use Rattle.plexil.specs.Places.{same, status_of}
use Rattle.plexil.specs.Order.{entered_waiting}
use Rattle.plexil.proofs.ListLaws.{every-stop, every-cons, every_one}
use Rattle.settle.proofs.variables.entered_waiting.Goals as goal

pub returns-then-not-is_waiting : goal.returns-then-not-is_waiting
unfolding entered_waiting
returns-then-not-is_waiting c = λ s k h g.
    c.is_waiting-then-not-is_waiting.ensures ∙ ap (λ (x : Status). same x Waiting) (c.from.ensures ∙ ap status_of (c.get_or.ensures ∙ ap (λ (x : List ℕ). get_or x c.args.i 0) (sym g)))
    ∙ sym (every-cons _ _ (ap (λ (x : Status). not (same x Waiting)) (sym (c.status_at.ensures s h)) ∙ ap not (sym c.is_waiting.ensures ∙ c.if-not-is_waiting.true)) ∙ every_one _)

pub returns-else-not-is_waiting : goal.returns-else-not-is_waiting
unfolding entered_waiting
returns-else-not-is_waiting c = λ s k h g.
    ap not c.if-not-is_waiting.false
    ∙ sym (every-stop _ _ (ap (λ (x : Status). not (same x Waiting)) (sym (c.status_at.ensures s h)) ∙ ap not (sym c.is_waiting.ensures ∙ c.if-not-is_waiting.false)))
