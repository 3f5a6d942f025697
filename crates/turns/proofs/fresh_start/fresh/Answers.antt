-- By the verdict.
use Rattle.plexil.proofs.Admitted.{few-vars}
use Rattle.turns.proofs.ReplyLaws.{verdict-is, fresh-admitted, fresh-refused}
use Rattle.turns.proofs.fresh_start.fresh.Goals as goal

pub fresh_state-requires : goal.fresh_state-requires
fresh_state-requires c = few-vars _ (verdict-is _ c.check.ensures c.in-Admitted.is)

pub returns-in-Admitted : goal.returns-in-Admitted
returns-in-Admitted c = fresh-admitted _ _ _ (verdict-is _ c.check.ensures c.in-Admitted.is) c.fresh_state.ensures

pub returns-in-Refused : goal.returns-in-Refused
returns-in-Refused c = fresh-refused _ _ _ _ _ (verdict-is _ c.check.ensures c.in-Refused.is)
