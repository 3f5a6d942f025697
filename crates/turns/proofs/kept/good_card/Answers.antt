-- Running, or Quiet while no rule applies.
use native.Mathlib.Omega.{arith}
use mathlib.Core.Path.{sym, ap, ◌∙◌}
use borrow.Author.Tests.{eq-eqb, ne_eqb}
use Rattle.plexil.specs.Form.{good_card}
use Rattle.plexil.specs.Micro.{quiet}
use Rattle.plexil.proofs.ListLaws.{some-stop, some-cons, some_one, every-cons, every-stop, every_one}
use Rattle.turns.proofs.kept.good_card.Goals as goal

pub returns-in-0 : goal.returns-in-0
unfolding good_card
returns-in-0 c = sym (some-stop _ _ (eq-eqb _ 0 c.in-0.is))

pub returns-in-1 : goal.returns-in-1
unfolding good_card
returns-in-1 c = c.is_quiet.ensures ∙ (ap (quiet c.args.image.now) c.lent.ensures.arrays
    ∙ sym (some-cons _ _ (ne_eqb _ 0 (λ e. omega arith)) ∙ (some_one _ ∙ (every-cons _ _ (eq-eqb _ 1 c.in-1.is) ∙ every_one _))))

pub returns-in_default : goal.returns-in_default
unfolding good_card
returns-in_default c = sym (some-cons _ _ (ne_eqb _ 0 (λ e. omega arith)) ∙ (some_one _ ∙ every-stop _ _ (ne_eqb _ 1 (λ e. omega arith))))
