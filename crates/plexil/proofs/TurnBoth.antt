-- "It answers as the two would in that order": a turn is the taking of its event and then a run, and the first broken test refuses it.
use Prim.Native.Nat.{ℕ, ◌<◌, ◌≤◌}
use mathlib.Core.Path.{◌≡◌, refl, sym, ap, ◌∙◌, subst}
use mathlib.Core.Logic.{⊎_elim}
use mathlib.Core.Bool.{true, false}
use mathlib.Core.List.{List}
use lib.ListN.{length}
use borrow.Author.Tests.{lt-ltb, le-ltb}
use Rattle.plexil.specs.declared.State.{State}
use Rattle.plexil.specs.declared.Card.{Card}
use Rattle.plexil.specs.declared.Rule.{Rule}
use Rattle.plexil.specs.declared.Verdict.{Verdict}
use Rattle.plexil.specs.declared.Verdict.TheVariants.{Admitted, Refused}
use Rattle.plexil.specs.declared.RunAnswer.{RunAnswer}
use Rattle.plexil.specs.declared.RunAnswer.TheVariants as ran
use Rattle.plexil.specs.Tested.{Tested}
use Rattle.plexil.specs.Tested as test
use Rattle.plexil.specs.Image.{Image}
use Rattle.plexil.specs.Check.{verdict}
use Rattle.plexil.specs.Form.{good_kept}
use Rattle.plexil.specs.Quiescence.{run}
use Rattle.plexil.specs.Macro.{event_answer, entry_count, entered, card_after}
use Rattle.plexil.specs.Replies.{run_test, and_then, turn_test, RunReply, not_run, has_run, ran_by, run_reply, has_turned, turn_reply}
use Rattle.plexil.specs.Promises.{IsAdmitted}
use Rattle.plexil.specs.ReplyPromises.{HasRun, TurnOrder, Accepts, TurnIsBoth, BothOfTurn}
use Rattle.plexil.proofs.ListLaws.{if-true, if-false}
use Rattle.plexil.proofs.ReplyLaws.{run-either, turn-either}
use Rattle.plexil.proofs.Replies.{refused-number, turn-refused-number}
use Rattle.plexil.proofs.Sessions.{event-passes}

-- ---- the tests before a run
module _ (p : Image) (s : State) (c : Card) (l : List ℕ) (start : ℕ) where
  abbrev Tests : Tested → Type 0
  Tests t = run_test (verdict p) p s c (length l) start ≡ t

  by-verdict : (v : Verdict) → verdict p ≡ v → {t : Tested} → run_test v p s c (length l) start ≡ t → Tests t
  by-verdict v e h = ap (λ (w : Verdict). run_test w p s c (length l) start) e ∙ h

  test-image : (r : Rule) (i : ℕ) → verdict p ≡ Refused r i → Tests (test.Refused (ran.Refused r i))
  unfolding run_test
  test-image r i e = by-verdict (Refused r i) e refl

  test-state : IsAdmitted p → good_kept p s c ≡ false → Tests (test.Refused ran.State)
  unfolding run_test
  test-state a g = by-verdict Admitted a (if-false _ _ _ g)

  test-place : IsAdmitted p → good_kept p s c ≡ true → length l < start → Tests (test.Refused ran.Place)
  unfolding run_test
  test-place a g m = by-verdict Admitted a (if-true _ _ _ g ∙ if-true _ _ _ (lt-ltb _ _ m))

  test-passed : IsAdmitted p → good_kept p s c ≡ true → start ≤ length l → Tests test.Accepted
  unfolding run_test
  test-passed a g m = by-verdict Admitted a (if-true _ _ _ g ∙ if-false _ _ _ (le-ltb _ _ m))

-- a run that passes them goes
run-goes : (p : Image) (s : State) (c : Card) (budget : ℕ) (l : List ℕ) (start : ℕ) → IsAdmitted p → good_kept p s c ≡ true → start ≤ length l
    → run_reply p s c budget l start ≡ has_run c (run p s budget l start)
unfolding run_reply ran_by
run-goes p s c budget l start a g m = ap (λ (t : Tested). ran_by t s c l start (has_run c (run p s budget l start))) (test-passed p s c l start a g m)

-- ---- a turn by what its tests answer
module _ (p : Image) (s : State) (c : Card) (b : List ℕ) (budget : ℕ) (l : List ℕ) (start : ℕ) where
  turned_by : (t u : Tested) → Tests p s c l start t → event_answer p s c b ≡ u
      → turn_reply p s c b budget l start ≡ ran_by (and_then t u) s c l start (has_turned p s c b budget l start)
  unfolding turn_reply turn_test
  turned_by t u e f = λ i. ran_by (and_then (e i) (f i)) s c l start (has_turned p s c b budget l start)

  first-answers : (a : RunAnswer) → Tests p s c l start (test.Refused a) → (turn_reply p s c b budget l start).ran.answer ≡ a
  unfolding and_then ran_by not_run
  first-answers a e = ap (λ (r : RunReply). r.ran.answer) (turned_by (test.Refused a) _ e refl)

  event-answers : Tests p s c l start test.Accepted → (a : RunAnswer) → event_answer p s c b ≡ test.Refused a → (turn_reply p s c b budget l start).ran.answer ≡ a
  unfolding and_then ran_by not_run
  event-answers e a f = ap (λ (r : RunReply). r.ran.answer) (turned_by test.Accepted (test.Refused a) e f)

  turn-goes : Tests p s c l start test.Accepted → event_answer p s c b ≡ test.Accepted
      → turn_reply p s c b budget l start ≡ has_run (card_after c) (run p (entered p b (entry_count b) s) budget l start)
  unfolding and_then ran_by has_turned
  turn-goes e f = turned_by test.Accepted test.Accepted e f

pub turn-order : TurnOrder
turn-order p s c b budget l start = record {
  image = λ r i e. first-answers p s c b budget l start _ (test-image p s c l start r i e);
  state = λ a g. first-answers p s c b budget l start _ (test-state p s c l start a g);
  place = λ a g m. first-answers p s c b budget l start _ (test-place p s c l start a g m);
  entry = λ a g m. event-answers p s c b budget l start (test-passed p s c l start a g m);
}

pub turn-is-both : TurnIsBoth
unfolding not_run
turn-is-both p s c b budget l start t =
    run-either p (entered p b (entry_count b) s) (card_after c) budget l start (λ (r : RunReply). HasRun r → turn_reply p s c b budget l start ≡ r)
    (λ a why h. let n = refused-number p _ _ l start a why in absurd (⊎_elim n.0 n.1 h))
    (λ v g m h. turn-goes p s c b budget l start (test-passed p s c l start v t.kept m) t.accepted)

pub both-of-turn : BothOfTurn
unfolding not_run has_turned
both-of-turn p s c b budget l start z =
    let t = entered p b (entry_count b) s in
    turn-either p s c b budget l start (λ (r : RunReply). HasRun r → Accepts p s c b × HasRun (run_reply p t (card_after c) budget l start))
    (λ a why h. let n = turn-refused-number p s c b l start a why in absurd (⊎_elim n.0 n.1 h))
    (λ v g m e h. (record { kept = g; accepted = e }, subst HasRun (sym (run-goes p t (card_after c) budget l start v (event-passes p s c b v g z e).kept m)) h))
