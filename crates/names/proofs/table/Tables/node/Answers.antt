-- `names::Tables::node` meets its contract: where the tables are whole, its row is the node.
use native.Mathlib.Omega.{arith}
use Rattle.names.proofs.Quick.{quick-node, quick-none, nodes-few}
use Rattle.names.proofs.table.Tables.node.Goals as goal

pub returns-then-n-self : goal.returns-then-n-self
returns-then-n-self c = (λ l a r. quick-none _ _ _ _ _ _ c.if-self.true r _ c.if-n-self.true, record { ordered = omega arith; within = omega arith })

pub returns-then-n-ge256 : goal.returns-then-n-ge256
returns-then-n-ge256 c = (λ l a r. absurd (omega (arith, nodes-few _ _ _ _ _ _ c.if-self.true r)), record { ordered = omega arith; within = omega arith })

pub returns-then-self : goal.returns-then-self
returns-then-self c = (λ l a r. quick-node _ _ _ _ _ _ c.if-self.true r _ c.if-n-self.false _ c.row.ensures.0, c.row.ensures.1)

pub returns : goal.returns
returns c = (λ l a r. c.node.ensures.0 l a r.tape, c.node.ensures.1)
