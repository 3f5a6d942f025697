-- Inactive itself, or else under a parent that is off.
use mathlib.Core.Path.{sym, ap, ◌∙◌}
use mathlib.Core.Bool.{not}
use Rattle.plexil.proofs.ListLaws.{every-cons, every-stop, every_one}
use Rattle.atomic.proofs.RuleLaws.{equals}
use Rattle.atomic.proofs.rules.is_cut_off.Goals as goal

pub returns-then-eq : goal.returns-then-eq
returns-then-eq c = sym (every-stop _ _ (ap not (equals _ _ c.eq.ensures c.if-eq.true)))

pub returns : goal.returns
returns c = c.is_off.ensures ∙ sym (every-cons _ _ (ap not (equals _ _ c.eq.ensures c.if-eq.false)) ∙ every_one _)
