-- By what the tests answer; the run is on what the event leaves.
use borrow.Author.Rules.{rules}
use mathlib.Core.Path.{ap}
use Rattle.plexil.specs.Tested.{tested_of}
use Rattle.plexil.specs.Promises.{Sized}
use Rattle.turns.proofs.ReplyLaws.{turn-passes, turn-goes, turn-refused}
use Rattle.turns.proofs.reports.turn.Goals as goal
use Rattle.turns.proofs.reports.turn.Goals.{Start}

-- what owning the state tells
whole : (c : goal.Start) → Sized c.args.state
whole c = record {
  status = search rules;
  outcome = search rules;
  failure = search rules;
  mark = search rules;
  vartags = search rules;
  varbits = search rules;
  looktags = search rules;
  lookbits = search rules;
}

pub run_steps-requires : goal.run_steps-requires
run_steps-requires c = turn-passes _ _ _ _ c.args.list.now _ c.turn_test.ensures (ap tested_of c.in_default.is) (whole (goal.at.run_steps-requires c).Start) c.entered-state.ensures

pub returns : goal.returns
returns c = turn-goes _ _ _ _ _ _ _ c.turn_test.ensures (ap tested_of c.in_default.is) c.entered-state.ensures c.card_after-after.ensures c.run_steps.ensures.0 c.run_steps.ensures.1

pub returns-in-Err : goal.returns-in-Err
returns-in-Err c = turn-refused _ _ _ _ _ _ _ c.turn_test.ensures _ (ap tested_of c.in-Err.is) c.refused.ensures
