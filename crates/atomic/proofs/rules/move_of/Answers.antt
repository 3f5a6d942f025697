-- Cut off by the parent, or else by status.
use Rattle.atomic.proofs.RuleLaws.{cut_off, by-rule}
use mathlib.Core.Path.{refl, ◌∙◌}
use Rattle.atomic.proofs.rules.move_of.Goals as goal

pub returns-then-is_cut_off : goal.returns-then-is_cut_off
returns-then-is_cut_off c = cut_off _ _ _ (c.status_at-own.ensures _ refl) (c.parent_status-u.ensures _ refl) c.is_cut_off.ensures c.if-is_cut_off.true

pub returns : goal.returns
returns c = c.by_status.ensures ∙ by-rule _ _ _ (c.status_at-own.ensures _ refl) (c.parent_status-u.ensures _ refl) c.is_cut_off.ensures c.if-is_cut_off.false
