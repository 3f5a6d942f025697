-- Laws of exits: what a call leaves by the report that is made of its reply.
use Prim.Native.Nat.{ℕ}
use mathlib.Core.Path.{◌≡◌, ap, ◌∙◌}
use Rattle.plexil.specs.declared.Checked.{Checked}
use Rattle.samblokur.specs.declared.reports.Report.{Report}
use Rattle.samblokur.specs.declared.calls.CheckExit.{CheckExit}
use Rattle.samblokur.specs.declared.calls.TurnExit.{TurnExit}
use Rattle.samblokur.specs.Reports.{report_of, verdict_report}
use Rattle.samblokur.specs.Exits.{check_exit}

-- a report of another answer with the same number
pub renumbered : {m n named ending steps next : ℕ} {x : Report} → m ≡ n → x ≡ report_of m named ending steps next → x ≡ report_of n named ending steps next
renumbered {m} {n} {named} {ending} {steps} {next} e h = h ∙ (λ t. report_of (e t) named ending steps next)

pub check-exit : {x : Report} {r q : Checked} → x ≡ verdict_report r.verdict → r ≡ q → ◌≡◌ {A = CheckExit} (record { number = x.number; report = x; counts = r.counts }) (check_exit q)
unfolding verdict_report
check-exit {x} {r} {q} h e = (λ t. record { number = (h t).number; report = h t; counts = r.counts }) ∙ ap check_exit e

-- for the exit of a fresh start, of a run and of a turn
pub turn-exit : {R : Type 0} (exit : R → TurnExit) {x : Report} {r q : R} → (exit r).report.number ≡ (exit r).number → x ≡ (exit r).report → r ≡ q
    → ◌≡◌ {A = TurnExit} (record { number = x.number; report = x; state = (exit r).state; card = (exit r).card }) (exit q)
turn-exit exit {x} {r} {q} n h e =
    (λ t. record { number = (h t).number; report = h t; state = (exit r).state; card = (exit r).card }) ∙
    ((λ t. record { number = n t; report = (exit r).report; state = (exit r).state; card = (exit r).card }) ∙ ap exit e)
