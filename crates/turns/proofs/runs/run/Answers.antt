-- By what the tests answer.
use mathlib.Core.Path.{ap}
use Rattle.plexil.specs.Tested.{tested_of}
use Rattle.plexil.proofs.Sessions.{kept_of}
use Rattle.turns.proofs.ReplyLaws.{run-passes, run-goes, run-refused}
use Rattle.turns.proofs.runs.run.Goals as goal

pub returns-in-Err : goal.returns-in-Err
returns-in-Err c = run-refused _ _ _ _ _ _ c.run_test.ensures _ (ap tested_of c.in-Err.is) c.refused.ensures

pub run_steps-requires : goal.run_steps-requires
run_steps-requires c = let w = run-passes _ _ _ c.args.list.now _ c.run_test.ensures (ap tested_of c.in_default.is) in (w.admitted, kept_of _ _ _ w.good, w.room)

pub returns : goal.returns
returns c = run-goes _ _ _ _ _ _ c.run_test.ensures (ap tested_of c.in_default.is) c.run_steps.ensures.0 c.run_steps.ensures.1
