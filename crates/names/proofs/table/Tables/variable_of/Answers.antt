-- The climb asks each node for its own variable.
use Rattle.std.proofs.Common.{rules}
use mathlib.Core.Path.{sym, ap, ◌∙◌}
use Rattle.notation.specs.Hearing.{draft_of}
use Rattle.notation.specs.Names.{own_variable, variable_of}
use Rattle.names.specs.Answers.{found_of}
use Rattle.names.proofs.Resolved.{own-said}
use Rattle.names.proofs.GoingUp.{variable-up}
use Rattle.names.proofs.table.Tables.variable_of.Goals as goal

pub returns : goal.returns
unfolding variable_of
returns c = λ l a r. c.climb.ensures.climbed l a r (λ i. own_variable (draft_of l) i c.args.x.now) (record { told = λ i s k p. search (rules, a, r) ∙ ap found_of (sym (own-said _ l a i _)) }) ∙ ap found_of (sym (variable-up (draft_of l) _ _ _))
