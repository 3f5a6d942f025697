-- The check by its verdict.
use Rattle.samblokur.proofs.ExitLaws.{check-exit}
use Rattle.samblokur.proofs.calls.check.Goals as goal

pub returns : goal.returns
returns c = check-exit c.verdict_report-report.ensures c.check-reply.ensures
