-- By the verdict.
use mathlib.Core.Path.{◌∙◌}
use Rattle.turns.proofs.ReplyLaws.{verdict-is, test-admitted-is, test-refused-is}
use Rattle.turns.proofs.tested.run_test.Goals as goal

pub test_admitted-requires : goal.test_admitted-requires
test_admitted-requires c = verdict-is _ c.check.ensures c.in-Admitted.is

pub returns-in-Admitted : goal.returns-in-Admitted
returns-in-Admitted c = c.test_admitted.ensures ∙ test-admitted-is _ _ _ _ _ (verdict-is _ c.check.ensures c.in-Admitted.is)

pub returns-in-Refused : goal.returns-in-Refused
returns-in-Refused c = test-refused-is _ _ _ _ _ _ _ (verdict-is _ c.check.ensures c.in-Refused.is)
