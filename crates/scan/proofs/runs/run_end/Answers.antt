-- The run's end from `at` is the run's end from `end`, by the bytes that passed and the byte that stops it.
use native.Mathlib.Omega.{arith}
use mathlib.Core.Path.{sym, ◌∙◌}
use Rattle.scan.proofs.RunLaws.{run_past, run_on, run-stops}
use Rattle.scan.proofs.runs.run_end.Goals as goal
use Rattle.scan.proofs.runs.run_end.Goals.{then-loop-end-test+else-passes, else-loop-end-test}

pub loop-end-preserved : goal.loop-end-preserved
loop-end-preserved g c = λ test t. c.loop-end.invariant test t ∙ run_on test c.args.text.now c.loop-end.end (omega arith) (sym (t.told _ _ (omega (arith, c.type_inv.text c.loop-end.end)) c.passes.ensures) ∙ c.if-passes.true)

pub returns : goal.returns
returns g c = λ test t. elim c.loop-end-test.branch [
  | then-loop-end-test+else-passes w ↦ sym (c.loop-end.invariant test t ∙ run-stops test c.args.text.now c.loop-end.end (omega arith) (sym (t.told _ _ (omega (arith, c.type_inv.text c.loop-end.end)) w.passes.ensures) ∙ w.if-passes.false))
  | else-loop-end-test w ↦ sym (c.loop-end.invariant test t ∙ run_past test c.args.text.now c.loop-end.end (omega arith))
]
