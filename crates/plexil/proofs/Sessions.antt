-- Promise 1: in every session the state and the card pass 30, since each run and each turn leads from such a pair to such a pair.
use Prim.Native.Nat.{ℕ, zero, suc}
use mathlib.Core.Path.{◌≡◌, refl, ◌∙◌}
use mathlib.Core.Bool.{true}
use mathlib.Core.List.{List}
use Rattle.plexil.specs.declared.State.{State}
use Rattle.plexil.specs.declared.Card.{Card}
use Rattle.plexil.specs.Tested.{Accepted}
use Rattle.plexil.specs.Lists.{when◌then◌else◌, every, some}
use Rattle.plexil.specs.Image.{Image}
use Rattle.plexil.specs.Places.{fresh_state, fresh_card}
use Rattle.plexil.specs.Micro.{step}
use Rattle.plexil.specs.Quiescence.{Run, run}
use Rattle.plexil.specs.Form.{good_card, good_kept}
use Rattle.plexil.specs.Macro.{event_answer, entry_count, entered, card_after}
use Rattle.plexil.specs.Replies.{phase_after, RunReply, not_run, has_run, has_turned}
use Rattle.plexil.specs.Promises.{IsAdmitted, IsKept, Sized, Session, fresh, ran, turned, SessionsKept, Passes, RunKeeps, TurnKeeps}
use Rattle.plexil.specs.ReplyPromises.{iterate}
use Rattle.plexil.proofs.ListLaws.{every-at, every-cons, every-nil}
use Rattle.plexil.proofs.RunCourse.{Ends, by-quiet, by-budget, by-room, Rounds, run-rounds}
use Rattle.plexil.proofs.ReplyLaws.{run-either, turn-either}
use Rattle.plexil.proofs.FreshKept.{fresh_kept}
use Rattle.plexil.proofs.EventKept.{event-kept}
use Rattle.plexil.proofs.StepKept.{step_kept}
use Rattle.plexil.proofs.SizesKept.{fresh-sized, iterate-sized, entered-sized}

-- ---- state and card
pub kept_of : (p : Image) (s : State) (c : Card) → good_kept p s c ≡ true → IsKept p s
unfolding good_kept
kept_of p s c g = every-at _ 0 g

both : (p : Image) (s : State) (c : Card) → IsKept p s → good_card p s c ≡ true → good_kept p s c ≡ true
unfolding good_kept
both p s c k g = every-cons _ _ k ∙ every-cons _ _ g ∙ every-nil

-- ---- a run
iterate-kept : (p : Image) (k : ℕ) (s : State) → IsAdmitted p → IsKept p s → IsKept p (iterate p k s)
unfolding iterate
iterate-kept p zero s a g = g
iterate-kept p (suc k) s a g = iterate-kept p k (step p s) a (step_kept p s a g)

-- the card is Quiet only where the run ended so
ended-card : (p : Image) (budget count room serial : ℕ) (r : Run) → Ends p budget count room r
    → good_card p r.state (record { serial = serial; phase = phase_after r.end }) ≡ true
unfolding good_card phase_after every some when◌then◌else◌
ended-card p budget count room serial r (by-quiet e q) = rw (e, q)
ended-card p budget count room serial r (by-budget e q n) = rw e
ended-card p budget count room serial r (by-room e q n w) = rw e

rounds-keep : (p : Image) (s : State) (c : Card) (budget : ℕ) (l : List ℕ) (start : ℕ) (r : Run) → IsAdmitted p → IsKept p s → Sized s
    → Rounds p budget 0 s l start r → Passes p (has_run c r).ran.state (has_run c r).ran.card
unfolding has_run
rounds-keep p s c budget l start r a k z x = record {
  kept = both p r.state _ (rw x.state (iterate-kept p x.count s a k)) (ended-card p budget x.count _ c.serial r x.ends);
  sized = rw x.state (iterate-sized p x.count s a z);
}

pub run-keeps : RunKeeps
unfolding not_run run
run-keeps p s c a h budget l start =
    run-either p s c budget l start (λ (r : RunReply). Passes p r.ran.state r.ran.card)
    (λ b no_run. h)
    (λ v g m. rounds-keep p s c budget l start _ a (kept_of p s c g) h.sized (run-rounds p budget 0 s l start m))

-- ---- an event
running-card : (p : Image) (s : State) (c : Card) → good_card p s (card_after c) ≡ true
unfolding good_card card_after some when◌then◌else◌
running-card p s c = refl

-- what the taking of an event leaves passes 30
pub event-passes : (p : Image) (s : State) (c : Card) (b : List ℕ) → IsAdmitted p → good_kept p s c ≡ true → Sized s → event_answer p s c b ≡ Accepted
    → Passes p (entered p b (entry_count b) s) (card_after c)
event-passes p s c b a g z e = record {
  kept = both p _ (card_after c) (event-kept p s c b a (kept_of p s c g) z e) (running-card p _ c);
  sized = entered-sized p b (entry_count b) s z;
}

-- ---- a turn
pub turn-keeps : TurnKeeps
unfolding not_run has_turned run
turn-keeps p s c a h b budget l start =
    turn-either p s c b budget l start (λ (r : RunReply). Passes p r.ran.state r.ran.card)
    (λ x why. h)
    (λ v g m e. let t = event-passes p s c b a g h.sized e in
    rounds-keep p _ (card_after c) budget l start _ a (kept_of p _ (card_after c) t.kept) t.sized (run-rounds p budget 0 _ l start m))

-- ---- a session
pub record InSession (p : Image) (s : State) (c : Card) : Type 0 where
  pub admitted : IsAdmitted p
  pub passes : Passes p s c

fresh-card : (p : Image) (s : State) → good_card p s fresh_card ≡ true
unfolding good_card fresh_card some when◌then◌else◌
fresh-card p s = refl

pub session-kept : (p : Image) (s : State) (c : Card) → Session p s c → InSession p s c
session-kept p s c (fresh a) =
    record { admitted = a; passes = record { kept = both p (fresh_state p) fresh_card (fresh_kept p a) (fresh-card p _); sized = fresh-sized p a } }
session-kept p s c (ran {s = t} {c = d} x budget l start) =
    let h = session-kept p t d x in record { admitted = h.admitted; passes = run-keeps p t d h.admitted h.passes budget l start }
session-kept p s c (turned {s = t} {c = d} x b budget l start) =
    let h = session-kept p t d x in record { admitted = h.admitted; passes = turn-keeps p t d h.admitted h.passes b budget l start }

pub sessions-kept : SessionsKept
sessions-kept p s c x = (session-kept p s c x).passes.kept
