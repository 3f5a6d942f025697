-- A run's tests, and then the event's.
use mathlib.Core.Path.{ap, ◌∙◌}
use Rattle.std.proofs.lemmas.Result.{err_from_is_err_and}
use Rattle.plexil.specs.Tested.{tested_of}
use Rattle.turns.proofs.ReplyLaws.{turn-first, turn-event}
use Rattle.turns.proofs.tested.turn_test.Goals as goal

pub returns-in_err-run_test : goal.returns-in_err-run_test
returns-in_err-run_test c = let p = err_from_is_err_and c.from_residual.result c.from_residual.ensures.1 in rw (p.1, p.2) (turn-first _ _ _ _ _ _ c.run_test.ensures _ (ap tested_of c.in_err-run_test.was))

pub returns : goal.returns
returns c = c.event_answer.ensures ∙ turn-event _ _ _ _ _ _ c.run_test.ensures (ap tested_of c.in_ok-run_test.was)
