-- What stands at a node's place after a step passes the form again: codes in range, the parent table, status of the node's type, marks.
use Prim.Native.Nat.{ℕ, zero, suc, ◌<◌}
use mathlib.Core.Path.{◌≡◌, refl, ◌∙◌}
use mathlib.Core.Bool.{Bool, true, false, not, false≢true}
use mathlib.Core.List.{[], ◌∷◌}
use native.Mathlib.Omega.{arith}
use lib.ListN.{get_or}
use lib.Dec.{eqb, ltb}
use borrow.Author.Tests.{lt-ltb, not-true}
use Rattle.plexil.specs.declared.State.{State}
use Rattle.plexil.specs.declared.Status.{Status}
use Rattle.plexil.specs.declared.Status.TheVariants.{Inactive, Waiting, Executing, Finishing, Failing, IterationEnded, Finished}
use Rattle.plexil.specs.declared.Move.{Move}
use Rattle.plexil.specs.declared.Move.TheVariants.{Stay, Go}
use Rattle.plexil.specs.declared.Effect.TheVariants.{Kept, Cleared, Skipped as Skips, Failed, Judged}
use Rattle.plexil.specs.Lists.{when◌then◌else◌, every, some}
use Rattle.plexil.specs.Image.{Image, node_type, node_count}
use Rattle.plexil.specs.Places.{status_code, same, status_at, outcome_at, failure_at, mark_at}
use Rattle.plexil.specs.Records.{is_list, is_command}
use Rattle.plexil.specs.Atomic.{is_off, parent_status, move_of}
use Rattle.plexil.specs.Micro.{loses, post_holds, ending_by, mark_by, place_by, place, outcome_after, failure_after, step}
use Rattle.plexil.specs.Form.{is_idle, allowed, of_type, is_awaiting, good_mark, good_place}
use Rattle.plexil.specs.Promises.{IsAdmitted, IsKept}
use Rattle.plexil.proofs.ListLaws.{if-either, every-at, every-false, every-cons, every-nil, some-stop, renew-at}
use Rattle.plexil.proofs.KeptState.{place_of}
use Rattle.plexil.proofs.TestLaws.{given, or-first, other-number}
use Rattle.plexil.proofs.Statuses.{all_statuses, each-status}
use Rattle.plexil.proofs.Moves.{executing, finishing, Made, resets, wakes, skips, starts, refuses, breaks_off, drops_out, closes, ends, closed, failed, repeats, finishes, stays, moved, landing, step-status}
use Rattle.plexil.proofs.ParentTable.{off-idle, parent-table}

-- ---- codes
code-small : (c : Status) → ltb (status_code c) 7 ≡ true
unfolding status_code all_statuses every when◌then◌else◌
code-small = each-status (λ c. ltb (status_code c) 7) refl

module _ (p : Image) (s : State) (i : ℕ) where
  status-small : (m : Move) → ltb (get_or s.status i 0) 7 ≡ true → ltb (place_by p s i m).status 7 ≡ true
  unfolding place_by
  status-small Stay h = h
  status-small (Go a e) h = code-small a

  result-small : (c u a : Status) (o f : ℕ) → Made p s i c u (Go a (Failed o f)) → o < 4
  result-small c u a o f refuses = omega arith
  result-small c u a o f (breaks_off k b t) = omega arith
  result-small c u a o f (drops_out k b t) = omega arith

  outcome-small : (c u : Status) (m : Move) → Made p s i c u m → ltb (outcome_at s i) 4 ≡ true → ltb (place_by p s i m).outcome 4 ≡ true
  unfolding place_by ending_by
  outcome-small c u Stay d h = h
  outcome-small c u (Go a Kept) d h = h
  outcome-small c u (Go a Cleared) d h = refl
  outcome-small c u (Go a Skips) d h = refl
  outcome-small c u (Go a (Failed o f)) d h = lt-ltb o 4 (result-small c u a o f d)
  outcome-small c u (Go a Judged) d h = if-either (λ (r : ℕ × ℕ). ltb r.0 4 ≡ true) (post_holds p s i) _ _ (λ e. refl) (λ e. refl)

  reason-small : (c u a : Status) (o f : ℕ) → Made p s i c u (Go a (Failed o f)) → f < 6
  reason-small c u a o f refuses = omega arith
  reason-small c u a o f (breaks_off k b t) = b
  reason-small c u a o f (drops_out k b t) = b

  failure-small : (c u : Status) (m : Move) → Made p s i c u m → ltb (failure_at s i) 6 ≡ true → ltb (place_by p s i m).failure 6 ≡ true
  unfolding place_by ending_by
  failure-small c u Stay d h = h
  failure-small c u (Go a Kept) d h = h
  failure-small c u (Go a Cleared) d h = refl
  failure-small c u (Go a Skips) d h = h
  failure-small c u (Go a (Failed o f)) d h = lt-ltb f 6 (reason-small c u a o f d)
  failure-small c u (Go a Judged) d h = if-either (λ (r : ℕ × ℕ). ltb r.1 6 ≡ true) (post_holds p s i) _ _ (λ e. refl) (λ e. refl)

  -- ---- a status of the node's type
  type-kept : (c u : Status) (m : Move) → Made p s i c u m → (is_off u ≡ true → ltb 0 i ≡ true) → of_type p i c ≡ true → of_type p i (landing c m) ≡ true
  unfolding landing of_type same status_code every some when◌then◌else◌
  type-kept c u m (resets o) n h = rw (n o)
  type-kept c u m wakes n h = refl
  type-kept c u m skips n h = refl
  type-kept c u m starts n h = refl
  type-kept c u m refuses n h = refl
  type-kept c u m (breaks_off o b t) n h = rw t
  type-kept c u m (drops_out o b t) n h = refl
  type-kept c u m (closes l) n h = rw l
  type-kept c u m (ends l) n h = refl
  type-kept c u m (closed r) n h = refl
  type-kept c u m (failed r) n h = refl
  type-kept c u m repeats n h = refl
  type-kept c u m finishes n h = refl
  type-kept c u m stays n h = h

-- ---- marks
idle-unawaited : (c : Status) → is_idle c ≡ true → is_awaiting c ≡ false
unfolding all_statuses is_idle is_awaiting same status_code every some when◌then◌else◌
idle-unawaited c h = not-true _ (given _ _ (each-status (λ c. some (not (is_idle c) ∷ not (is_awaiting c) ∷ [])) refl c) h)

module _ (p : Image) (s : State) (i : ℕ) where
  -- k may stand as the mark of node i, of status c
  markable : ℕ → Status → Bool
  markable k c = some (eqb k 0 ∷ every (eqb k 1 ∷ is_command p i ∷ is_awaiting c ∷ []) ∷ [])

  -- a node that awaits nothing, or is no command, has no mark: any status may follow
  no-wait : (c d : Status) → is_awaiting c ≡ false → markable (mark_at s i) c ≡ true → markable (mark_at s i) d ≡ true
  unfolding markable
  no-wait c d n h = some-stop _ _ (or-first _ _ h (every-false _ 2 n))

  no-command : (c d : Status) → is_command p i ≡ false → markable (mark_at s i) c ≡ true → markable (mark_at s i) d ≡ true
  unfolding markable
  no-command c d n h = some-stop _ _ (or-first _ _ h (every-false _ 1 n))

  mark-kept : (c u : Status) (m : Move) → Made p s i c u m → allowed u c ≡ true → markable (mark_at s i) c ≡ true → markable (place_by p s i m).mark (landing c m) ≡ true
  unfolding landing place_by mark_by markable is_list is_command is_awaiting same status_code some when◌then◌else◌
  mark-kept c u m (resets o) a h = no-wait c Inactive (idle-unawaited c (off-idle u c o a)) h
  mark-kept c u m wakes a h = no-wait Inactive Waiting refl h
  mark-kept c u m skips a h = no-wait Waiting Finished refl h
  mark-kept c u m starts a h = refl
  mark-kept c u m refuses a h = refl
  mark-kept c u m (breaks_off executing b t) a h = h
  mark-kept c u m (breaks_off finishing b t) a h = no-wait Finishing Failing refl h
  mark-kept c u m (drops_out o b t) a h = refl
  mark-kept c u m (closes l) a h = no-command Executing Finishing (other-number (node_type p i) 0 1 l refl) h
  mark-kept c u m (ends l) a h = refl
  mark-kept c u m (closed r) a h = refl
  mark-kept c u m (failed r) a h = refl
  mark-kept c u m repeats a h = no-wait IterationEnded Waiting refl h
  mark-kept c u m finishes a h = no-wait IterationEnded Finished refl h
  mark-kept c u m stays a h = h

-- ---- the place
-- node 0's parent reads as Executing, which is not off
off-below : (p : Image) (s : State) (i : ℕ) → is_off (parent_status p s i) ≡ true → ltb 0 i ≡ true
unfolding parent_status is_off same status_code some when◌then◌else◌
off-below p s zero h = absurd (false≢true h)
off-below p s (suc i) h = lt-ltb 0 (suc i) (omega arith)

module _ (p : Image) (s : State) (i : ℕ) (good : good_place p s i ≡ true) (b : i < node_count p) where
  step-status-small : ltb (get_or (step p s).status i 0) 7 ≡ true
  unfolding step place good_place
  step-status-small = rw (renew-at (node_count p) (λ i. (place p s i).status) s.status i 0 b) (status-small p s i (move_of p s i) (every-at _ 0 good))

  step-outcome-small : ltb (outcome_at (step p s) i) 4 ≡ true
  unfolding step outcome_at outcome_after place good_place
  step-outcome-small =
      rw (renew-at (node_count p) (outcome_after p s) s.outcome i 0 b)
      (if-either (λ (n : ℕ). ltb n 4 ≡ true) (loses p s i) _ _ (λ e. refl) (λ e. outcome-small p s i _ _ (move_of p s i) (moved p s i) (every-at _ 1 good)))

  step-failure-small : ltb (failure_at (step p s) i) 6 ≡ true
  unfolding step failure_at failure_after place good_place
  step-failure-small =
      rw (renew-at (node_count p) (failure_after p s) s.failure i 0 b)
      (if-either (λ (n : ℕ). ltb n 6 ≡ true) (loses p s i) _ _ (λ e. refl) (λ e. failure-small p s i _ _ (move_of p s i) (moved p s i) (every-at _ 2 good)))

  step-type : of_type p i (status_at (step p s) i) ≡ true
  unfolding good_place
  step-type = rw (step-status p s i b) (type-kept p s i _ _ _ (moved p s i) (off-below p s i) (every-at _ 4 good))

  step-mark : good_mark p (step p s) i ≡ true
  unfolding good_mark good_place step mark_at place markable
  step-mark =
      rw (step-status p s i b, renew-at (node_count p) (λ i. (place p s i).mark) s.mark i 0 b)
      (mark-kept p s i _ _ _ (moved p s i) (every-at _ 3 good) (every-at _ 5 good))

pub places-kept : (p : Image) (s : State) → IsAdmitted p → IsKept p s → (i : ℕ) → i < node_count p → good_place p (step p s) i ≡ true
unfolding good_place
places-kept p s a k i b =
    let g = place_of p s k i b in
    every-cons _ _ (step-status-small p s i g b) ∙ every-cons _ _ (step-outcome-small p s i g b) ∙ every-cons _ _ (step-failure-small p s i g b)
    ∙ every-cons _ _ (parent-table p s a k i b) ∙ every-cons _ _ (step-type p s i g b) ∙ every-cons _ _ (step-mark p s i g b) ∙ every-nil
