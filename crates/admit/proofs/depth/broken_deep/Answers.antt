-- The lowest record that breaks rule 10.
use mathlib.Core.Path.{ap, ◌∙◌}
use native.Mathlib.Omega.{arith}
use borrow.Author.Tests.{le-leb, lt-leb}
use mathlib.Core.Bool.{not}
use Rattle.admit.proofs.Ordered.{few}
use Rattle.admit.proofs.DepthTable.{filled_next}
use Rattle.plexil.specs.Scope.{shallow}
use Rattle.plexil.specs.Check.{records, breaks, rule_on}
use Rattle.plexil.proofs.LoopLaws.{upto-found, upto_next}
use Rattle.admit.proofs.depth.broken_deep.Goals as goal

pub returns-then-d-gt12 : goal.returns-then-d-gt12
unfolding records breaks rule_on shallow
returns-then-d-gt12 c = upto-found c.loop-i.invariant.0 c.expr_count-i-end.ensures c.loop-i-test.true (ap not (c.depth-d.ensures 12 ∙ lt-leb _ _ c.if-d-gt12.true))

pub bounds-depths-i : goal.bounds-depths-i
bounds-depths-i c = omega (arith, few _ c.requires, c.expr_count-i-end.ensures, c.loop-i-test.true)

pub loop-i-preserved : goal.loop-i-preserved
unfolding records breaks rule_on shallow
loop-i-preserved c = (
  upto_next c.loop-i.invariant.0 c.expr_count-i-end.ensures c.loop-i-test.true (ap not (c.depth-d.ensures 12 ∙ le-leb _ _ c.if-d-gt12.false)),
  filled_next _ _ _ _ c.loop-i.invariant.1 (omega (arith, few _ c.requires, c.expr_count-i-end.ensures, c.loop-i-test.true)) c.depth-d.ensures c.if-d-gt12.false,
)
