-- Laws of the replies: the verdict that a check's reply carries, the tests before a run and a turn, and each reply by what they answer.
use Prim.Native.Nat.{ℕ, ◌≤◌}
use mathlib.Core.Path.{◌≡◌, refl, sym, ap, ◌∙◌, subst}
use mathlib.Core.Bool.{true, false}
use mathlib.Core.List.{List}
use lib.ListN.{length}
use lib.Dec.{ltb}
use Rattle.plexil.specs.declared.State.{State}
use Rattle.plexil.specs.declared.Card.{Card}
use Rattle.plexil.specs.declared.Rule.{Rule}
use Rattle.plexil.specs.declared.Verdict.{Verdict}
use Rattle.plexil.specs.declared.Verdict.TheVariants.{Admitted, Refused}
use Rattle.plexil.specs.declared.Checked.{Checked}
use Rattle.plexil.specs.declared.Started.{Started}
use Rattle.plexil.specs.declared.Ran.{Ran}
use Rattle.plexil.specs.declared.RunAnswer.{RunAnswer}
use Rattle.plexil.specs.declared.RunAnswer.TheVariants as ran
use Rattle.plexil.specs.Tested.{Tested}
use Rattle.plexil.specs.Tested as test
use Rattle.plexil.specs.Image.{Image}
use Rattle.plexil.specs.Places.{fresh_state, fresh_card}
use Rattle.plexil.specs.Check.{verdict}
use Rattle.plexil.specs.Quiescence.{run}
use Rattle.plexil.specs.Form.{good_kept}
use Rattle.plexil.specs.Macro.{event_answer, entered, entry_count, card_after}
use Rattle.plexil.specs.Replies.{checked_by, check_reply, started_by, fresh_reply, run_test, and_then, turn_test, RunReply, not_run, has_run, ran_by, run_reply, has_turned, turn_reply}
use Rattle.plexil.specs.Promises.{IsAdmitted, IsKept, Sized}
use Rattle.plexil.proofs.ListLaws.{if-true, if-false}
use Rattle.plexil.proofs.Accepted.{not-accepted}
use Rattle.plexil.proofs.ReplyLaws.{test-either}
use Rattle.plexil.proofs.EventKept.{event-kept}
use Rattle.plexil.proofs.Sessions.{kept_of}
use Rattle.turns.specs.Ended.{unrun}

by-verdict : (v : Verdict) (p : Image) → (checked_by v p).verdict ≡ v
unfolding checked_by
by-verdict Admitted p = refl
by-verdict (Refused r i) p = refl

-- what the check answered is the verdict
pub verdict-is : (p : Image) {k : Checked} {v : Verdict} → k ≡ check_reply p → k.verdict ≡ v → verdict p ≡ v
unfolding check_reply
verdict-is p e h = sym (by-verdict (verdict p) p) ∙ (sym (ap (λ (x : Checked). x.verdict) e) ∙ h)

-- ---- a fresh start
pub fresh-admitted : (p : Image) (s : State) (c : Card) → verdict p ≡ Admitted → {x : State} → x ≡ fresh_state p
    → ◌≡◌ {A = Started} (record { verdict = Admitted; state = x; card = record { serial = 0; phase = 0 } }) (fresh_reply p s c)
unfolding fresh_reply started_by fresh_card
fresh-admitted p s c e h = rw e (λ t. record { verdict = Admitted; state = h t; card = fresh_card })

pub fresh-refused : (p : Image) (s : State) (c : Card) (r : Rule) (i : ℕ) → verdict p ≡ Refused r i → ◌≡◌ {A = Started} (record { verdict = Refused r i; state = s; card = c }) (fresh_reply p s c)
unfolding fresh_reply started_by
fresh-refused p s c r i e = rw e

-- ---- the tests before a run
pub test-admitted-is : (p : Image) (s : State) (c : Card) (n k : ℕ) → verdict p ≡ Admitted → run_test Admitted p s c n k ≡ run_test (verdict p) p s c n k
test-admitted-is p s c n k e = ap (λ (v : Verdict). run_test v p s c n k) (sym e)

pub test-refused-is : (p : Image) (s : State) (c : Card) (n k : ℕ) (r : Rule) (i : ℕ) → verdict p ≡ Refused r i → test.Refused (ran.Refused r i) ≡ run_test (verdict p) p s c n k
unfolding run_test
test-refused-is p s c n k r i e = ap (λ (v : Verdict). run_test v p s c n k) (sym e)

module _ (p : Image) (s : State) (c : Card) (n k : ℕ) where
  pub test-state : good_kept p s c ≡ false → test.Refused ran.State ≡ run_test Admitted p s c n k
  unfolding run_test
  test-state f = sym (if-false _ _ _ f)

  pub test-place : good_kept p s c ≡ true → ltb n k ≡ true → test.Refused ran.Place ≡ run_test Admitted p s c n k
  unfolding run_test
  test-place g t = sym (if-true _ _ _ g ∙ if-true _ _ _ t)

  pub test-passed : good_kept p s c ≡ true → ltb n k ≡ false → test.Accepted ≡ run_test Admitted p s c n k
  unfolding run_test
  test-passed g t = sym (if-true _ _ _ g ∙ if-false _ _ _ t)

-- ---- the tests before a turn
module _ (p : Image) (s : State) (c : Card) (b : List ℕ) (n k : ℕ) {t : Tested} (e : t ≡ run_test (verdict p) p s c n k) where
  pub turn-first : (a : RunAnswer) → t ≡ test.Refused a → test.Refused a ≡ turn_test (verdict p) p s c b n k
  unfolding turn_test and_then
  turn-first a h = ap (λ (u : Tested). and_then u (event_answer p s c b)) (sym h ∙ e)

  pub turn-event : t ≡ test.Accepted → event_answer p s c b ≡ turn_test (verdict p) p s c b n k
  unfolding turn_test and_then
  turn-event h = ap (λ (u : Tested). and_then u (event_answer p s c b)) (sym h ∙ e)

-- ---- what passes them
pub record Passing (p : Image) (s : State) (c : Card) (l : List ℕ) (k : ℕ) : Type 0 where
  pub admitted : IsAdmitted p
  pub good : good_kept p s c ≡ true
  pub room : k ≤ length l

pub run-passes : (p : Image) (s : State) (c : Card) (l : List ℕ) (k : ℕ) {t : Tested} → t ≡ run_test (verdict p) p s c (length l) k → t ≡ test.Accepted → Passing p s c l k
run-passes p s c l k e h =
    test-either p s c l k (λ (u : Tested). u ≡ test.Accepted → Passing p s c l k) (verdict p) refl
    (λ a why f. absurd (not-accepted a f)) (λ v g m f. record { admitted = v; good = g; room = m }) (sym e ∙ h)

both-accept : (t u : Tested) → and_then t u ≡ test.Accepted → (t ≡ test.Accepted) × (u ≡ test.Accepted)
unfolding and_then
both-accept (test.Refused a) u h = absurd (not-accepted a h)
both-accept test.Accepted u h = (refl, h)

-- and what the event leaves is kept
pub turn-passes : (p : Image) (s : State) (c : Card) (b l : List ℕ) (k : ℕ) {t : Tested} → t ≡ turn_test (verdict p) p s c b (length l) k → t ≡ test.Accepted
    → Sized s → {y : State} → y ≡ entered p b (entry_count b) s → IsAdmitted p × IsKept p y × (k ≤ length l)
unfolding turn_test
turn-passes p s c b l k e h z f =
    let w = both-accept _ _ (sym e ∙ h) in
    let r = run-passes p s c l k refl w.0 in
    (r.admitted, subst (IsKept p) (sym f) (event-kept p s c b r.admitted (kept_of p s c r.good) z w.1), r.room)

-- ---- a run and a turn by what their tests answered
module _ (p : Image) (s : State) (c : Card) (n : ℕ) (l : List ℕ) (k : ℕ) {t : Tested} (e : t ≡ run_test (verdict p) p s c (length l) k) where
  pub run-goes : t ≡ test.Accepted → {x : Ran} {m : List ℕ} → x ≡ (has_run c (run p s n l k)).ran → m ≡ (has_run c (run p s n l k)).list
      → (x ≡ (run_reply p s c n l k).ran) × (m ≡ (run_reply p s c n l k).list)
  unfolding run_reply ran_by
  run-goes h q w =
      let f = ap (λ (u : Tested). ran_by u s c l k (has_run c (run p s n l k))) (sym h ∙ e) in (q ∙ ap (λ (r : RunReply). r.ran) f, w ∙ ap (λ (r : RunReply). r.list) f)

  pub run-refused : (a : RunAnswer) → t ≡ test.Refused a → {x : Ran} → x ≡ unrun a k s c → (x ≡ (run_reply p s c n l k).ran) × (l ≡ (run_reply p s c n l k).list)
  unfolding run_reply ran_by not_run
  run-refused a h q =
      let f = ap (λ (u : Tested). ran_by u s c l k (has_run c (run p s n l k))) (sym h ∙ e) in (q ∙ ap (λ (r : RunReply). r.ran) f, ap (λ (r : RunReply). r.list) f)

module _ (p : Image) (s : State) (c : Card) (b : List ℕ) (n : ℕ) (l : List ℕ) (k : ℕ) {t : Tested} (e : t ≡ turn_test (verdict p) p s c b (length l) k) where
  pub turn-goes : t ≡ test.Accepted → {y : State} {d : Card} → y ≡ entered p b (entry_count b) s → d ≡ card_after c
      → {x : Ran} {m : List ℕ} → x ≡ (has_run d (run p y n l k)).ran → m ≡ (has_run d (run p y n l k)).list
      → (x ≡ (turn_reply p s c b n l k).ran) × (m ≡ (turn_reply p s c b n l k).list)
  unfolding turn_reply ran_by has_turned
  turn-goes h g i q w =
      let f = (λ j. has_run (i j) (run p (g j) n l k)) ∙ ap (λ (u : Tested). ran_by u s c l k (has_turned p s c b n l k)) (sym h ∙ e) in
      (q ∙ ap (λ (r : RunReply). r.ran) f, w ∙ ap (λ (r : RunReply). r.list) f)

  pub turn-refused : (a : RunAnswer) → t ≡ test.Refused a → {x : Ran} → x ≡ unrun a k s c → (x ≡ (turn_reply p s c b n l k).ran) × (l ≡ (turn_reply p s c b n l k).list)
  unfolding turn_reply ran_by not_run
  turn-refused a h q =
      let f = ap (λ (u : Tested). ran_by u s c l k (has_turned p s c b n l k)) (sym h ∙ e) in (q ∙ ap (λ (r : RunReply). r.ran) f, ap (λ (r : RunReply). r.list) f)
