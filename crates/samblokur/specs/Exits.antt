-- What each call leaves at exit, by its reply: the number it returns, the report, and what was lent.
use Rattle.plexil.specs.declared.Checked.{Checked}
use Rattle.plexil.specs.declared.Started.{Started}
use Rattle.plexil.specs.declared.Ran.{Ran}
use Rattle.plexil.specs.Replies.{verdict_number, run_number}
use Rattle.samblokur.specs.declared.calls.CheckExit.{CheckExit}
use Rattle.samblokur.specs.declared.calls.TurnExit.{TurnExit}
use Rattle.samblokur.specs.Reports.{verdict_report, run_report}

abbrev pub check_exit : Checked → CheckExit
check_exit r = record { number = (verdict_number r.verdict).number; report = verdict_report r.verdict; counts = r.counts }

abbrev pub fresh_exit : Started → TurnExit
fresh_exit r = record { number = (verdict_number r.verdict).number; report = verdict_report r.verdict; state = r.state; card = r.card }

-- a run, and a turn
abbrev pub run_exit : Ran → TurnExit
run_exit r = record { number = (run_number r.answer).number; report = run_report r.answer r.steps r.next; state = r.state; card = r.card }
