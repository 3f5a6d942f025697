-- The node rules one by one: which rule made a node's move, what it found true, and where the node stands after the step.
use Prim.Native.Nat.{ℕ, ◌<◌}
use mathlib.Core.Path.{◌≡◌, refl, ap, ◌∙◌}
use mathlib.Core.Bool.{Bool, true, false}
use native.Mathlib.Omega.{arith}
use Rattle.plexil.specs.declared.State.{State}
use Rattle.plexil.specs.declared.Status.{Status}
use Rattle.plexil.specs.declared.Status.TheVariants.{Inactive, Waiting, Executing, Finishing, Failing, IterationEnded, Finished}
use Rattle.plexil.specs.declared.Move.{Move}
use Rattle.plexil.specs.declared.Move.TheVariants.{Stay, Go}
use Rattle.plexil.specs.declared.Effect.TheVariants.{Kept, Cleared, Skipped as Skips, Failed, Judged}
use Rattle.plexil.specs.Lists.{when◌then◌else◌}
use Rattle.plexil.specs.Image.{Image, node_count}
use Rattle.plexil.specs.Places.{status_of, status_at, Failure, ByPre, ByInvariant, ByParent, seen}
use Rattle.plexil.specs.Records.{is_list, is_assignment}
use Rattle.plexil.specs.Atomic.{is_off, is_resting, children, parent_status, from_waiting, fails_by, failure_or, at_end, settled, from_ended, by_status, move_by, move_of}
use Rattle.plexil.specs.Micro.{place, place_by, step}
use Rattle.plexil.proofs.ListLaws.{if-either, every-at, renew-at}
use Rattle.plexil.proofs.Statuses.{code-back}

-- "Executing or Finishing": what fails by its parent or by Inv
pub data Open : Status → Type 0 where
  executing : Open Executing
  finishing : Open Finishing

-- the rule by which node i, of status c under a parent of status u, makes its move, with what the proofs need of the rule's tests:
-- breaks_off and drops_out are the failures by the parent or by Inv, of a list or command and of an assignment
pub data Made (p : Image) (s : State) (i : ℕ) : Status → Status → Move → Type 0 where
  resets : {c u : Status} → is_off u ≡ true → Made p s i c u (Go Inactive Cleared)
  wakes : {u : Status} → Made p s i Inactive u (Go Waiting Kept)
  skips : {u : Status} → Made p s i Waiting u (Go Finished Skips)
  starts : {u : Status} → Made p s i Waiting u (Go Executing Kept)
  refuses : {u : Status} → Made p s i Waiting u (Go IterationEnded (Failed Failure ByPre))
  breaks_off : {c u : Status} {f : ℕ} → Open c → f < 6 → is_assignment p i ≡ false → Made p s i c u (Go Failing (Failed Failure f))
  drops_out : {c u : Status} {f : ℕ} → Open c → f < 6 → is_assignment p i ≡ true → Made p s i c u (Go IterationEnded (Failed Failure f))
  closes : {u : Status} → is_list p i ≡ true → Made p s i Executing u (Go Finishing Kept)
  ends : {u : Status} → is_list p i ≡ false → Made p s i Executing u (Go IterationEnded Judged)
  closed : {u : Status} → children p s i is_resting ≡ true → Made p s i Finishing u (Go IterationEnded Judged)
  failed : {u : Status} → settled p s i ≡ true → Made p s i Failing u (Go IterationEnded Kept)
  repeats : {u : Status} → Made p s i IterationEnded u (Go Waiting Cleared)
  finishes : {u : Status} → Made p s i IterationEnded u (Go Finished Kept)
  stays : {c u : Status} → Made p s i c u Stay

module _ (p : Image) (s : State) (i : ℕ) where
  either : {c u : Status} {x y : Move} {b : Bool} → (b ≡ true → Made p s i c u x) → (b ≡ false → Made p s i c u y) → Made p s i c u (when b then x else y)
  either {c} {u} h g = if-either (Made p s i c u) _ _ _ h g

  made-failing : (c u : Status) (f : ℕ) → Open c → f < 6 → Made p s i c u (fails_by p i Failure f)
  unfolding fails_by
  made-failing c u f o b = either (drops_out o b) (breaks_off o b)

  made-failure : (c u : Status) (m : Move) → Open c → Made p s i c u m → Made p s i c u (failure_or u p (seen s) i m)
  unfolding failure_or
  made-failure c u m o h =
      either (λ e. made-failing c u ByParent o (omega arith))
      (λ e. either (λ e. made-failing c u ByInvariant o (omega arith)) (λ e. h))

  made-waiting : (u : Status) → Made p s i Waiting u (from_waiting p (seen s) i)
  unfolding from_waiting
  made-waiting u = either (λ e. skips) (λ e. either (λ e. either (λ e. starts) (λ e. refuses)) (λ e. stays))

  made-end : (u : Status) → Made p s i Executing u (at_end p s i)
  unfolding at_end
  made-end u = either closes (λ l. either (λ e. either (λ e. stays) (λ e. ends l)) (λ e. ends l))

  made-ended : (u : Status) → Made p s i IterationEnded u (from_ended u p (seen s) i)
  unfolding from_ended
  made-ended u = either (λ e. finishes) (λ e. either (λ e. either (λ e. repeats) (λ e. finishes)) (λ e. stays))

  made_by : (c u : Status) → Made p s i c u (by_status c u p s i)
  unfolding by_status
  made_by Inactive u = either (λ e. wakes) (λ e. stays)
  made_by Waiting u = either (λ e. made-waiting u) (λ e. stays)
  made_by Executing u = made-failure Executing u _ executing (either (λ e. made-end u) (λ e. stays))
  made_by Finishing u = made-failure Finishing u _ finishing (either closed (λ e. stays))
  made_by Failing u = either failed (λ e. stays)
  made_by IterationEnded u = made-ended u
  made_by Finished u = stays

  pub made : (c u : Status) → Made p s i c u (move_by c u p s i)
  unfolding move_by
  made c u = either (λ e. resets (every-at _ 1 e)) (λ e. made_by c u)

  pub moved : Made p s i (status_at s i) (parent_status p s i) (move_of p s i)
  unfolding move_of
  moved = made (status_at s i) (parent_status p s i)

-- ---- where a node of status c stands after a move
unfoldable pub landing : Status → Move → Status
landing c Stay = c
landing c (Go a e) = a

placed-status : (p : Image) (s : State) (i : ℕ) (m : Move) → status_of (place_by p s i m).status ≡ landing (status_at s i) m
unfolding place_by landing status_at
placed-status p s i Stay = refl
placed-status p s i (Go a e) = code-back a

pub step-status : (p : Image) (s : State) (i : ℕ) → i < node_count p → status_at (step p s) i ≡ landing (status_at s i) (move_of p s i)
unfolding step status_at place
step-status p s i b = ap status_of (renew-at (node_count p) _ s.status i 0 b) ∙ placed-status p s i (move_of p s i)
