-- `names::Tables::parent_of` meets its contract: a node's owner is one more than its parent.
use native.Mathlib.Omega.{arith}
use Rattle.names.proofs.Resolved.{parent-none, parent-one}
use Rattle.names.proofs.table.Tables.parent_of.Goals as goal

pub returns-then-e-eq0 : goal.returns-then-e-eq0
returns-then-e-eq0 c = (λ l a r. parent-none _ l a _ _ (c.node-e.ensures.0 l a r).owner c.if-e-eq0.true, omega arith)

pub returns : goal.returns
returns c = (λ l a r. parent-one _ l a _ _ (c.node-e.ensures.0 l a r).owner c.if-e-eq0.false, omega (arith, c.node-e.type_inv, c.if-e-eq0.false))
