-- The run's end from `at` is the run's end from `end`.
use Prim.Native.Nat.{◌-◌}
use mathlib.Core.Path.{◌≡◌}
use lib.ListN.{length, drop}
use Rattle.scan.specs.Runs.{Tells, run_end}
use Rattle.scan.proofs.runs.run_end.Given as goal

abbrev pub invariant-loop-end : goal.invariant-loop-end
invariant-loop-end g l = (test : _) → Tells (goal.F-post g l.passes) test → run_end test l.fn.at (drop l.fn.at l.fn.text) ≡ run_end test l.end (drop l.end l.text)

abbrev pub decreases-loop-end : goal.decreases-loop-end
decreases-loop-end g l = length l.text - l.end
