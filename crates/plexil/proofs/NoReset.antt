-- Promise 4: no variable is written and reset in one step. A writer is busy, so are all nodes above it, and a node that enters Waiting is not.
use Prim.Native.Nat.{ℕ, zero, suc, ◌<◌}
use mathlib.Core.Path.{◌≡◌, refl, subst}
use mathlib.Core.Bool.{Bool, true, false, not, false≢true}
use mathlib.Core.List.{[], ◌∷◌}
use lib.Dec.{eqb}
use borrow.Author.Tests.{eqb-true}
use Rattle.plexil.specs.declared.State.{State}
use Rattle.plexil.specs.declared.Status.{Status}
use Rattle.plexil.specs.declared.Status.TheVariants.{Waiting, Executing, Finishing, Failing}
use Rattle.plexil.specs.declared.Move.{Move}
use Rattle.plexil.specs.declared.Move.TheVariants.{Stay, Go}
use Rattle.plexil.specs.declared.Effect.{Effect}
use Rattle.plexil.specs.declared.Effect.TheVariants.{Kept, Cleared, Skipped as Skips, Failed, Judged}
use Rattle.plexil.specs.Lists.{when◌then◌else◌, every, some}
use Rattle.plexil.specs.Image.{Image, node_count, parent, owner}
use Rattle.plexil.specs.Places.{status_code, same, status_at}
use Rattle.plexil.specs.Records.{is_assignment, is_writer, target}
use Rattle.plexil.specs.Scope.{if_assignment, is_above, in_scope, good_reach}
use Rattle.plexil.specs.Atomic.{is_closing, parent_status, move_of}
use Rattle.plexil.specs.Micro.{is_judged, judges, writes, enters_waiting}
use Rattle.plexil.specs.Form.{is_idle, allowed}
use Rattle.plexil.specs.Promises.{IsAdmitted, IsKept, FromKept, NotWrittenAndReset}
use Rattle.plexil.proofs.ListLaws.{not-both, every-at}
use Rattle.plexil.proofs.Admitted.{good-reach, parent-below}
use Rattle.plexil.proofs.TestLaws.{given}
use Rattle.plexil.proofs.Statuses.{same_true, all_statuses, each-status}
use Rattle.plexil.proofs.Moves.{Made, wakes, ends, closed, repeats, moved}
use Rattle.plexil.proofs.KeptState.{table_of}

-- Executing, Finishing or Failing
is_busy : Status → Bool
is_busy c = some (same c Executing ∷ same c Finishing ∷ same c Failing ∷ [])

-- ---- who writes is busy, who enters Waiting is not
module _ (p : Image) (s : State) (i : ℕ) where
  judged-busy : (c u a : Status) → Made p s i c u (Go a Judged) → is_busy c ≡ true
  unfolding is_busy same status_code some when◌then◌else◌
  judged-busy c u a (ends l) = refl
  judged-busy c u a (closed r) = refl

  busy-by : (c u : Status) (m : Move) → Made p s i c u m → judges m ≡ true → is_busy c ≡ true
  unfolding judges is_judged
  busy-by c u Stay d h = absurd (false≢true h)
  busy-by c u (Go a Kept) d h = absurd (false≢true h)
  busy-by c u (Go a Cleared) d h = absurd (false≢true h)
  busy-by c u (Go a Skips) d h = absurd (false≢true h)
  busy-by c u (Go a (Failed o f)) d h = absurd (false≢true h)
  busy-by c u (Go a Judged) d h = judged-busy c u a d

  waits-unbusy : (c u : Status) (e : Effect) → Made p s i c u (Go Waiting e) → is_busy c ≡ false
  unfolding is_busy same status_code some when◌then◌else◌
  waits-unbusy c u e wakes = refl
  waits-unbusy c u e repeats = refl

  unbusy-by : (c u : Status) (m : Move) → Made p s i c u m → enters_waiting m ≡ true → is_busy c ≡ false
  unfolding enters_waiting
  unbusy-by c u Stay d h = absurd (false≢true h)
  unbusy-by c u (Go a e) d h = waits-unbusy c u e (subst (λ (x : Status). Made p s i c u (Go x e)) (same_true a Waiting h) d)

  writer-busy : writes p s i ≡ true → is_busy (status_at s i) ≡ true
  unfolding writes
  writer-busy w = busy-by _ _ _ (moved p s i) (every-at _ 1 w)

  enters-unbusy : enters_waiting (move_of p s i) ≡ true → is_busy (status_at s i) ≡ false
  enters-unbusy h = unbusy-by _ _ _ (moved p s i) h

-- ---- from a busy node up to the owner
-- under the table a busy child has a busy parent
busy_above : Status → Status → Bool
busy_above u c = some (not (allowed u c) ∷ some (not (is_busy c) ∷ is_busy u ∷ []) ∷ [])

busy-parent : (u c : Status) → allowed u c ≡ true → is_busy c ≡ true → is_busy u ≡ true
unfolding busy_above all_statuses allowed is_closing is_idle is_busy same status_code every some when◌then◌else◌
busy-parent u c a h = given _ _ (given _ _ (each-status (busy_above u) (each-status (λ u. all_statuses (busy_above u)) refl u) c) a) h

busy-up : (p : Image) (s : State) → IsAdmitted p → IsKept p s → (n o i : ℕ) → i < node_count p → is_above p n o i ≡ true → is_busy (status_at s i) ≡ true → is_busy (status_at s o) ≡ true
unfolding is_above parent_status
busy-up p s a k zero o i b r h = absurd (false≢true r)
busy-up p s a k (suc n) o zero b r h = rw (eqb-true o 0 r) h
busy-up p s a k (suc n) o (suc i) b r h = by (eqb o (suc i)) refl (busy-up p s a k n o (parent p (suc i)) (parent-below p a i b))
  where
    j : ℕ
    j = parent p (suc i)

    by : (t : Bool) → eqb o (suc i) ≡ t → (is_above p n o j ≡ true → is_busy (status_at s j) ≡ true → is_busy (status_at s o) ≡ true) → is_busy (status_at s o) ≡ true
    by true e up = rw (eqb-true o (suc i) e) h
    by false e up = up (rw (e, is_above) at r) (busy-parent (status_at s j) (status_at s (suc i)) (table_of p s k (suc i) b) h)

-- ---- the promise
target-in-scope : (p : Image) (s : State) (i : ℕ) → good_reach p i ≡ true → writes p s i ≡ true → in_scope p i (target p i) ≡ true
unfolding good_reach if_assignment writes is_writer target
target-in-scope p s i g w = every-at _ 1 (given (is_assignment p i) _ (every-at _ 1 g) (every-at _ 0 w))

pub not-written-and-reset : FromKept NotWrittenAndReset
unfolding in_scope
not-written-and-reset p s a k v i w e =
    let r : is_above p (suc i) (owner p v) i ≡ true = rw w.target at (target-in-scope p s i (good-reach p a i w.within) w.writing) in
    not-both (is_busy (status_at s (owner p v))) (busy-up p s a k (suc i) (owner p v) i w.within r (writer-busy p s i w.writing)) (enters-unbusy p s (owner p v) e)
