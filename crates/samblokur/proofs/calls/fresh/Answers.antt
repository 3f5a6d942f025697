-- The fresh start by its verdict.
use mathlib.Core.Path.{refl}
use Rattle.samblokur.specs.Reports.{verdict_report}
use Rattle.samblokur.specs.Exits.{fresh_exit}
use Rattle.samblokur.proofs.ExitLaws.{turn-exit}
use Rattle.samblokur.proofs.calls.fresh.Goals as goal

pub returns : goal.returns
unfolding verdict_report
returns c = turn-exit fresh_exit refl c.verdict_report-report.ensures c.fresh-reply.ensures
