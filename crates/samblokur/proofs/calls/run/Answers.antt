-- The run by its answer.
use mathlib.Core.Path.{refl}
use Rattle.samblokur.specs.Reports.{run_report}
use Rattle.samblokur.specs.Exits.{run_exit}
use Rattle.samblokur.proofs.ExitLaws.{turn-exit}
use Rattle.samblokur.proofs.calls.run.Goals as goal

pub returns : goal.returns
unfolding run_report
returns c = (turn-exit run_exit refl c.run_report-report.ensures c.run-reply.ensures.0, c.run-reply.ensures.1)
