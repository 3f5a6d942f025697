-- The climb asks each node for itself, then for its child.
use Rattle.std.proofs.Common.{rules}
use mathlib.Core.Path.{sym, ap, ◌∙◌}
use Rattle.notation.specs.Hearing.{draft_of}
use Rattle.notation.specs.Names.{node_at}
use Rattle.names.specs.Answers.{found_of}
use Rattle.names.proofs.GoingUp.{node-up}
use Rattle.names.proofs.table.Tables.node_up.Goals as goal

pub returns : goal.returns
returns c = (
  λ l a r. c.climb.ensures.climbed l a r (λ i. node_at (draft_of l) i c.args.x.now) (record { told = λ i s k p. search (rules, a, r) }) ∙ ap found_of (sym (node-up (draft_of l) _ _ _)),
  let p = c.climb.ensures.answered.2 in search rules,
)
