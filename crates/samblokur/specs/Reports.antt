-- The report of each answer: its number, the record or entry that a refusal names, and the ending, as `Replies` has them of every answer.
use Rattle.std.specs.Prelude.{ℕ}
use Rattle.plexil.specs.declared.Verdict.{Verdict}
use Rattle.plexil.specs.declared.RunAnswer.{RunAnswer}
use Rattle.plexil.specs.Replies.{Numbered, verdict_number, run_number}
use Rattle.samblokur.specs.declared.reports.Report.{Report}

abbrev pub report_of : ℕ → ℕ → ℕ → ℕ → ℕ → Report
report_of number named ending steps next = record { number = number; «record» = named; ending = ending; steps = steps; next = next }

abbrev pub reported : Numbered → ℕ → ℕ → Report
reported n steps next = report_of n.number n.record' n.ending steps next

-- a check, and a fresh start
unfoldable pub verdict_report : Verdict → Report
verdict_report v = reported (verdict_number v) 0 0

-- a run, and a turn
unfoldable pub run_report : RunAnswer → ℕ → ℕ → Report
run_report a steps next = reported (run_number a) steps next
