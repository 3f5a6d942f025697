-- A node that wrote lost unless it leads.
use mathlib.Core.Path.{sym, ap, ◌∙◌}
use mathlib.Core.Bool.{Bool, false, not}
use mathlib.Core.List.{List}
use lib.ListN.{get_or}
use Rattle.plexil.specs.Order.{lost}
use Rattle.plexil.proofs.ListLaws.{every-stop, every-cons, every_one}
use Rattle.settle.proofs.losers.lost.Goals as goal

pub returns-then-get_or : goal.returns-then-get_or
unfolding lost
returns-then-get_or c = λ k w n t. ap not (c.leads.ensures k n t)
    ∙ sym (every-cons _ _ (ap (λ (x : List Bool). get_or x c.args.i false) w ∙ (sym c.get_or.ensures ∙ c.if-get_or.true)) ∙ every_one _)

pub returns-else-get_or : goal.returns-else-get_or
unfolding lost
returns-else-get_or c = λ k w n t. c.if-get_or.false
    ∙ sym (every-stop _ _ (ap (λ (x : List Bool). get_or x c.args.i false) w ∙ (sym c.get_or.ensures ∙ c.if-get_or.false)))
