-- The whole reply of each call, and what is lent at exit: "Every call checks its image first, then 30
-- (not in a fresh start), then 31", and a turn then 20 to 25 in order.
use Rattle.std.specs.Prelude.{ℕ, List, length, ltb}
use Rattle.plexil.specs.declared.State.{State}
use Rattle.plexil.specs.declared.Card.{Card}
use Rattle.plexil.specs.declared.Counts.{Counts}
use Rattle.plexil.specs.declared.Verdict.{Verdict}
use Rattle.plexil.specs.declared.Verdict.TheVariants.{Admitted, Refused}
use Rattle.plexil.specs.declared.Checked.{Checked}
use Rattle.plexil.specs.declared.Started.{Started}
use Rattle.plexil.specs.declared.RunAnswer.{RunAnswer}
use Rattle.plexil.specs.declared.RunAnswer.TheVariants as ran
use Rattle.plexil.specs.declared.Ran.{Ran}
use Rattle.plexil.specs.Tested.{Tested}
use Rattle.plexil.specs.Tested as test
use Rattle.plexil.specs.Lists.{when◌then◌else◌}
use Rattle.plexil.specs.Image.{Image, node_count, expr_count, var_count, look_count}
use Rattle.plexil.specs.Places.{fresh_state, fresh_card, Running, Quiet}
use Rattle.plexil.specs.Check.{rule_number, verdict}
use Rattle.plexil.specs.Quiescence.{RunEnd, at_quiet, spent, no_room, Run, run}
use Rattle.plexil.specs.Form.{good_kept}
use Rattle.plexil.specs.Macro.{event_answer, entry_count, entered, card_after}

-- how a call ends: it is refused
abbrev pub by_refusal : ℕ
by_refusal = 0

-- it does what it is for: an image is admitted, a start is fresh, a run or a turn is at "Quiet"
abbrev pub by_done : ℕ
by_done = 1

-- "Spent if its budget (0..65535) is used and a rule still applies"
abbrev pub by_spent : ℕ
by_spent = 2

-- what an answer says in numbers: a refusal's number in the table "Refusal numbers", 0 where nothing is refused; the record or entry that it names; the ending
pub record Numbered : Type 0 where
  pub number : ℕ
  pub record' : ℕ
  pub ending : ℕ

-- refusal n, which names record i
unfoldable pub numbered : ℕ → ℕ → Numbered
numbered n i = record { number = n; record' = i; ending = by_refusal }

-- nothing is refused, and the ending is e
unfoldable pub unrefused : ℕ → Numbered
unrefused e = record { number = 0; record' = 0; ending = e }

-- 1 to 12
unfoldable pub verdict_number : Verdict → Numbered
verdict_number Admitted = unrefused by_done
verdict_number (Refused r i) = numbered (rule_number r) i

-- 1 to 12, 20 to 25 and 30 to 32: "with 23 to 25 the lowest breaking entry is named .. and otherwise 0"
unfoldable pub run_number : RunAnswer → Numbered
run_number (ran.Refused r i) = numbered (rule_number r) i
run_number ran.State = numbered 30 0
run_number ran.Place = numbered 31 0
run_number ran.Busy = numbered 20 0
run_number ran.Shape = numbered 21 0
run_number ran.Turn = numbered 22 0
run_number (ran.Entry k) = numbered 23 k
run_number (ran.Twice k) = numbered 24 k
run_number (ran.NotAwaited k) = numbered 25 k
run_number ran.NoRoom = numbered 32 0
run_number ran.Spent = unrefused by_spent
run_number ran.Quiet = unrefused by_done

-- ---- check
-- the counts of a plan
abbrev pub counts_of : Image → Counts
counts_of p = record { nodes = node_count p; exprs = expr_count p; vars = var_count p; looks = look_count p }

-- no counts
abbrev pub no_counts : Counts
no_counts = record { nodes = 0; exprs = 0; vars = 0; looks = 0 }

-- an admitted plan's counts, or none
unfoldable pub checked_by : Verdict → Image → Checked
checked_by Admitted p = record { verdict = Admitted; counts = counts_of p }
checked_by (Refused r i) p = record { verdict = Refused r i; counts = no_counts }

-- the whole reply of the check
unfoldable pub check_reply : Image → Checked
check_reply p = checked_by (verdict p) p

-- ---- fresh start: no state is tested
-- an admitted plan's fresh state and card, or what was lent
unfoldable pub started_by : Verdict → Image → State → Card → Started
started_by Admitted p s c = record { verdict = Admitted; state = fresh_state p; card = fresh_card }
started_by (Refused r i) p s c = record { verdict = Refused r i; state = s; card = c }

-- the whole reply of a fresh start
unfoldable pub fresh_reply : Image → State → Card → Started
fresh_reply p s c = started_by (verdict p) p s c

-- ---- the tests before a run and before a turn
-- "Every call checks its image first, then 30 .., then 31"; "31 Place: list start beyond its end"
unfoldable pub run_test : Verdict → Image → State → Card → ℕ → ℕ → Tested
run_test (Refused r i) p s c end start = test.Refused (ran.Refused r i)
run_test Admitted p s c end start = when good_kept p s c then (when ltb end start then test.Refused ran.Place else test.Accepted) else test.Refused ran.State

-- a further test, made where the first accepts
unfoldable pub and_then : Tested → Tested → Tested
and_then (test.Refused a) t = test.Refused a
and_then test.Accepted t = t

-- "31 is now tested after 30 and before 20"
unfoldable pub turn_test : Verdict → Image → State → Card → List ℕ → ℕ → ℕ → Tested
turn_test v p s c b end start = and_then (run_test v p s c end start) (event_answer p s c b)

-- ---- run
-- the answer of a run's end
unfoldable pub end_answer : RunEnd → RunAnswer
end_answer at_quiet = ran.Quiet
end_answer spent = ran.Spent
end_answer no_room = ran.NoRoom

-- "The phase is Quiet exactly after the answer Quiet"
unfoldable pub phase_after : RunEnd → ℕ
phase_after at_quiet = Quiet
phase_after spent = Running
phase_after no_room = Running

-- the reply of a run or a turn beside the list at its exit
pub record RunReply : Type 0 where
  pub ran : Ran
  pub list : List ℕ

-- "refusals but 32 answer 0 and the given start place"
unfoldable pub not_run : RunAnswer → State → Card → List ℕ → ℕ → RunReply
not_run a s c l start = record { ran = record { answer = a; steps = 0; next = start; state = s; card = c }; list = l }

-- "It answers the count of steps done and the next free place in the list"; "NoRoom keeps the steps already done"
unfoldable pub has_run : Card → Run → RunReply
has_run c r = record {
  ran = record {
    answer = end_answer r.end;
    steps = r.steps;
    next = r.next;
    state = r.state;
    card = record { serial = c.serial; phase = phase_after r.end };
  };
  list = r.list;
}

-- what has run where the tests accept
unfoldable pub ran_by : Tested → State → Card → List ℕ → ℕ → RunReply → RunReply
ran_by (test.Refused a) s c l start r = not_run a s c l start
ran_by test.Accepted s c l start r = r

-- the whole reply of a run, and the list at exit
unfoldable pub run_reply : Image → State → Card → ℕ → List ℕ → ℕ → RunReply
run_reply p s c budget l start = ran_by (run_test (verdict p) p s c (length l) start) s c l start (has_run c (run p s budget l start))

-- ---- turn
-- "Join the two into one call with event, budget and command list": the event enters, and the run begins
unfoldable pub has_turned : Image → State → Card → List ℕ → ℕ → List ℕ → ℕ → RunReply
has_turned p s c b budget l start = has_run (card_after c) (run p (entered p b (entry_count b) s) budget l start)

-- "a refusal of either's input leaves everything, the event included": the whole reply of a turn, and the list at exit
unfoldable pub turn_reply : Image → State → Card → List ℕ → ℕ → List ℕ → ℕ → RunReply
turn_reply p s c b budget l start = ran_by (turn_test (verdict p) p s c b (length l) start) s c l start (has_turned p s c b budget l start)

-- opens every definition of this file
unfoldable pub opened : Unit {0}
unfolding numbered unrefused verdict_number run_number checked_by check_reply started_by fresh_reply run_test and_then turn_test end_answer phase_after not_run has_run ran_by run_reply has_turned turn_reply
opened = tt
