use Rattle.std.proofs.Common.{rules}
use Rattle.plan.specs.View.{node_at_of}
use Rattle.plan.proofs.Readers.{then_some}
use Rattle.plan.proofs.node.Goals as goal

pub returns : goal.returns
unfolding node_at_of
returns c = then_some _ _ _ c.then.ensures.variant c.then.ensures.some (λ x h. search rules)
