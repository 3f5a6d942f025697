-- Promise 7: one reply for each call, refusals that change nothing, and the course of a run and of a turn by its reply.
use Prim.Native.Nat.{ℕ, ◌+◌, ◌≤◌}
use mathlib.Core.Path.{◌≡◌, refl, sym, ap, ◌∙◌}
use mathlib.Core.Logic.{⊎_elim, ◌≢◌, ◌↔◌}
use mathlib.Core.Bool.{true}
use mathlib.Core.List.{List}
use native.Mathlib.Omega.{arith}
use lib.ListN.{length, get_or}
use Rattle.plexil.specs.declared.State.{State}
use Rattle.plexil.specs.declared.Card.{Card}
use Rattle.plexil.specs.declared.Verdict.{Verdict}
use Rattle.plexil.specs.declared.Verdict.TheVariants.{Admitted, Refused}
use Rattle.plexil.specs.declared.RunAnswer.{RunAnswer}
use Rattle.plexil.specs.declared.Ran.{Ran}
use Rattle.plexil.specs.Lists.{put}
use Rattle.plexil.specs.Image.{Image}
use Rattle.plexil.specs.Check.{verdict}
use Rattle.plexil.specs.Micro.{quiet}
use Rattle.plexil.specs.Places.{Quiet}
use Rattle.plexil.specs.Quiescence.{Run, run}
use Rattle.plexil.specs.Macro.{entry_count, entered, card_after}
use Rattle.plexil.specs.Replies.{by_refusal, by_done, by_spent, numbered, unrefused, verdict_number, run_number, end_answer, phase_after, started_by, fresh_reply, RunReply, not_run, has_run, has_turned}
use Rattle.plexil.specs.ReplyPromises.{iterate, words_of, OneCheck, OneFresh, OneRun, OneTurn, OneSaid, OneOfAny, FreshRefusalKeeps, RunRefusalKeeps, TurnRefusalKeeps, Unrun, Ended, Course, HasRun, RunCourse, TurnCourse, StaysOutside, QuietExactly, WordsStay, LengthStays}
use Rattle.plexil.proofs.ListLaws.{not-both}
use Rattle.plexil.proofs.PutLaws.{length-put, put-before, put-beyond}
use Rattle.plexil.proofs.RunCourse.{Ends, by-quiet, by-budget, by-room, Rounds, run-rounds}
use Rattle.plexil.proofs.ReplyLaws.{rule-range, end-number, Refuses, by-image, by_state, by_place, run-either, TurnRefuses, as-run, by-event, turn-either, event-number}

-- ---- one reply
pub one-check : OneCheck
one-check p r q e f = e ∙ sym f

pub one-fresh : OneFresh
one-fresh p s c r q e f = e ∙ sym f

pub one-run : OneRun
one-run p s c budget l start r q exit final e f = (e.0 ∙ sym f.0, e.1 ∙ sym f.1)

pub one-turn : OneTurn
one-turn p s c b budget l start r q exit final e f = (e.0 ∙ sym f.0, e.1 ∙ sym f.1)

pub one-said : OneSaid
one-said A said r q e f = e ∙ sym f

pub one-of-any : OneOfAny
one-of-any A S Has said s h r q e f = e s h ∙ sym (f s h)

-- ---- refusals
started-refused : (p : Image) (s : State) (c : Card) (v : Verdict) → (verdict_number (started_by v p s c).verdict).number ≢ 0
    → ((started_by v p s c).state ≡ s) × ((started_by v p s c).card ≡ c)
unfolding started_by verdict_number numbered unrefused
started-refused p s c Admitted n = absurd (n refl)
started-refused p s c (Refused r i) n = (refl, refl)

pub fresh-refusal-keeps : FreshRefusalKeeps
unfolding fresh_reply
fresh-refusal-keeps p s c = started-refused p s c (verdict p)

-- a refusal's number is neither 0 nor 32, where a run's end has one of the two
pub refused-number : (p : Image) (s : State) (c : Card) (l : List ℕ) (start : ℕ) (a : RunAnswer) → Refuses p s c l start a → ((run_number a).number ≢ 0) × ((run_number a).number ≢ 32)
unfolding run_number numbered
refused-number p s c l start a (by-image r i e) = (λ h. omega (arith, rule-range r), λ h. omega (arith, rule-range r))
refused-number p s c l start a (by_state g) = (λ h. omega arith, λ h. omega arith)
refused-number p s c l start a (by_place m) = (λ h. omega arith, λ h. omega arith)

pub turn-refused-number : (p : Image) (s : State) (c : Card) (b l : List ℕ) (start : ℕ) (a : RunAnswer) → TurnRefuses p s c b l start a
    → ((run_number a).number ≢ 0) × ((run_number a).number ≢ 32)
turn-refused-number p s c b l start a (as-run why) = refused-number p s c l start a why
turn-refused-number p s c b l start a (by-event e) = (λ h. omega (arith, event-number p s c b a e), λ h. omega (arith, event-number p s c b a e))

pub run-refusal-keeps : RunRefusalKeeps
unfolding not_run has_run
run-refusal-keeps p s c budget l start =
    run-either p s c budget l start
    (λ (r : RunReply). (run_number r.ran.answer).number ≢ 0 → (run_number r.ran.answer).number ≢ 32 → Unrun s c l start r)
    (λ a why n m. record { steps = refl; next = refl; state = refl; card = refl; lent = refl })
    (λ v g b n m. absurd (⊎_elim n m (end-number (run p s budget l start).end)))

pub turn-refusal-keeps : TurnRefusalKeeps
unfolding not_run has_turned has_run
turn-refusal-keeps p s c b budget l start =
    turn-either p s c b budget l start
    (λ (r : RunReply). (run_number r.ran.answer).number ≢ 0 → (run_number r.ran.answer).number ≢ 32 → Unrun s c l start r)
    (λ a why n m. record { steps = refl; next = refl; state = refl; card = refl; lent = refl })
    (λ v g m e n k. absurd (⊎_elim n k (end-number (run p (entered p b (entry_count b) s) budget l start).end)))

-- ---- the course of a run, and of a turn
module _ (p : Image) (s : State) (c : Card) (budget : ℕ) (l : List ℕ) (start : ℕ) where
  ended_of : (r : Run) (count : ℕ) → count ≡ r.steps → Ends p budget count (length l) r → Ended p budget l (has_run c r).ran
  unfolding has_run end_answer phase_after
  ended_of r count n (by-quiet e q) = Ended.at_quiet (rw e) (rw e) q
  ended_of r count n (by-budget e q m) = Ended.spent (rw e) (rw e) q (omega arith)
  ended_of r count n (by-room e q m w) = Ended.no_room (rw e) (rw e) q (omega arith) w

  course-of : (r : Run) → Rounds p budget 0 s l start r → Course p s c budget l start (has_run c r)
  unfolding has_run
  course-of r x =
      let n : x.count ≡ r.steps = omega (arith, x.steps) in
      record {
        within = omega (arith, n, x.within);
        applied = λ k m. x.applied k (omega (arith, n));
        state = x.state ∙ ap (λ (k : ℕ). iterate p k s) n;
        next = x.place ∙ ap (λ (k : ℕ). start + length (words_of p k s)) n;
        room = x.room;
        lent = x.list ∙ ap (λ (k : ℕ). put l start (words_of p k s)) n;
        serial = refl;
        ended = ended_of r x.count n x.ends;
      }

pub run-course : RunCourse
unfolding not_run run
run-course p s c budget l start =
    run-either p s c budget l start (λ (r : RunReply). HasRun r → Course p s c budget l start r)
    (λ a why h. let n = refused-number p s c l start a why in absurd (⊎_elim n.0 n.1 h))
    (λ v g b h. course-of p s c budget l start _ (run-rounds p budget 0 s l start b))

pub turn-course : TurnCourse
unfolding not_run has_turned run
turn-course p s c b budget l start =
    turn-either p s c b budget l start (λ (r : RunReply). HasRun r → Course p (entered p b (entry_count b) s) (card_after c) budget l start r)
    (λ a why h. let n = turn-refused-number p s c b l start a why in absurd (⊎_elim n.0 n.1 h))
    (λ v g m e h. course-of p _ (card_after c) budget l start _ (run-rounds p budget 0 _ l start m))

-- the ending of an answer
ending : RunAnswer → ℕ
ending a = (run_number a).ending

quiet_by : (p : Image) (budget : ℕ) (l : List ℕ) (r : Ran) → Ended p budget l r
    → ((ending r.answer ≡ by_done) ↔ (quiet p r.state ≡ true)) × ((r.card.phase ≡ Quiet) ↔ (ending r.answer ≡ by_done))
unfolding ending run_number numbered unrefused
quiet_by p budget l r (Ended.at_quiet a f q) = ((λ h. q, λ h. ap ending a), (λ h. ap ending a, λ h. f))
quiet_by p budget l r (Ended.spent a f q n) =
    let e : ending r.answer ≡ by_spent = ap ending a in ((λ h. absurd (omega arith), λ h. absurd (not-both _ h q)), (λ h. absurd (omega arith), λ h. absurd (omega arith)))
quiet_by p budget l r (Ended.no_room a f q n w) =
    let e : ending r.answer ≡ by_refusal = ap ending a in ((λ h. absurd (omega arith), λ h. absurd (not-both _ h q)), (λ h. absurd (omega arith), λ h. absurd (omega arith)))

pub quiet-exactly : QuietExactly
unfolding ending
quiet-exactly p s c budget l start =
    (λ h. quiet_by p budget l _ (run-course p s c budget l start h).ended, λ b h. quiet_by p budget l _ (turn-course p s c b budget l start h).ended)

-- ---- the words that stay
module _ (p : Image) (s : State) (c : Card) (budget : ℕ) (l : List ℕ) (start : ℕ) (b : start ≤ length l) where
  outside_of : StaysOutside l start (has_run c (run p s budget l start))
  unfolding has_run run
  outside_of i h =
      let x = run-rounds p budget 0 s l start b in
      ap (λ (k : List ℕ). get_or k i 0) x.list
      ∙ ⊎_elim (put-before l start _ i 0 b) (λ m. put-beyond l start _ i 0 b (omega (arith, x.place))) h

  length-of : length (has_run c (run p s budget l start)).list ≡ length l
  unfolding has_run run
  length-of =
      let x = run-rounds p budget 0 s l start b in ap length x.list ∙ length-put l start (words_of p x.count s) (omega (arith, x.room, x.place))

pub words-stay : WordsStay
unfolding not_run has_turned
words-stay p s c budget l start = (
  run-either p s c budget l start (StaysOutside l start) (λ a why i h. refl) (λ v g b. outside_of p s c budget l start b),
  λ event. turn-either p s c event budget l start (StaysOutside l start) (λ a why i h. refl) (λ v g b e. outside_of p _ (card_after c) budget l start b),
)

pub length-stays : LengthStays
unfolding not_run has_turned
length-stays p s c budget l start = (
  run-either p s c budget l start (λ (r : RunReply). length r.list ≡ length l) (λ a why. refl) (λ v g b. length-of p s c budget l start b),
  λ event. turn-either p s c event budget l start (λ (r : RunReply). length r.list ≡ length l) (λ a why. refl) (λ v g b e. length-of p _ (card_after c) budget l start b),
)
