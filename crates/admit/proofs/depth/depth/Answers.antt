-- A leaf, NOT, and two operands.
use native.Mathlib.Omega.{arith}
use Rattle.admit.proofs.DepthLaws.{depth-leaf}
use Rattle.admit.proofs.DepthTable.{first-within, first-shallow, not_entry, second-within, second-shallow, deeper-entry}
use Rattle.admit.proofs.depth.depth.Goals as goal

pub returns-then-operator-lt6 : goal.returns-then-operator-lt6
returns-then-operator-lt6 c = depth-leaf _ _ c.operator-operator.ensures c.if-operator-lt6.true

pub bounds-depths-operand_a : goal.bounds-depths-operand_a
bounds-depths-operand_a c = first-within (c.requires.passed, (c.requires.e_bound, c.requires.filled)) c.operator-operator.ensures c.operand_a.ensures c.if-operator-lt6.false

pub overflow_add-result : goal.overflow_add-result
overflow_add-result c = omega (arith, first-shallow (c.requires.passed, (c.requires.e_bound, c.requires.filled)) c.operator-operator.ensures c.operand_a.ensures c.if-operator-lt6.false)

pub returns-then-operator-eq6 : goal.returns-then-operator-eq6
returns-then-operator-eq6 c = not_entry (c.requires.passed, (c.requires.e_bound, c.requires.filled)) c.operator-operator.ensures c.operand_a.ensures c.if-operator-eq6.true

pub bounds-depths-operand_b : goal.bounds-depths-operand_b
bounds-depths-operand_b c = second-within (c.requires.passed, (c.requires.e_bound, c.requires.filled)) c.operator-operator.ensures c.operand_a.ensures c.operand_b.ensures c.if-operator-lt6.false c.if-operator-eq6.false

pub overflow_add-result-2 : goal.overflow_add-result-2
overflow_add-result-2 c = omega (
  arith,
  c.max.ensures,
  first-shallow (c.requires.passed, (c.requires.e_bound, c.requires.filled)) c.operator-operator.ensures c.operand_a.ensures c.if-operator-lt6.false,
  second-shallow (c.requires.passed, (c.requires.e_bound, c.requires.filled)) c.operator-operator.ensures c.operand_a.ensures c.operand_b.ensures c.if-operator-lt6.false c.if-operator-eq6.false,
)

pub returns : goal.returns
returns c = deeper-entry (c.requires.passed, (c.requires.e_bound, c.requires.filled)) c.operator-operator.ensures c.operand_a.ensures c.operand_b.ensures c.if-operator-lt6.false c.if-operator-eq6.false c.max.ensures
