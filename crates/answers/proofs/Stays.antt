-- A node that stayed stays, where what it read on the way is equal.
use Prim.Native.Nat.{ℕ}
use mathlib.Core.Path.{◌≡◌, refl, ap}
use mathlib.Core.Bool.{Bool, true, false, not, false≢true}
use mathlib.Core.List.{[], ◌∷◌}
use Rattle.plexil.specs.declared.State.{State}
use Rattle.plexil.specs.declared.Status.{Status}
use Rattle.plexil.specs.declared.Status.TheVariants.{Inactive, Waiting, Executing, Finishing, Failing, IterationEnded, Finished}
use Rattle.plexil.specs.declared.Condition.{Condition}
use Rattle.plexil.specs.declared.Condition.TheVariants.{Skip, Start, Inv, End}
use Rattle.plexil.specs.declared.Effect.{Effect}
use Rattle.plexil.specs.declared.Move.{Move}
use Rattle.plexil.specs.declared.Move.TheVariants.{Stay, Go}
use Rattle.plexil.specs.Lists.{when◌then◌else◌, every}
use Rattle.plexil.specs.Values.{says}
use Rattle.plexil.specs.Image.{Image}
use Rattle.plexil.specs.Places.{same, status_at, seen}
use Rattle.plexil.specs.Atomic.{is_off, is_closing, parent_status, holds, fails, from_waiting, failure_or, at_end, settled, from_ended, by_status, move_by, move_of}
use Rattle.plexil.specs.Micro.{stays}
use Rattle.answers.specs.Reads.{asked, SameStay, StaysStill}

go-stays : {a : Status} {e : Effect} → Go a e ≡ Stay → ⊥
unfolding stays
go-stays h = false≢true (ap stays h)

-- the third test is not come to
third-unread : (a b c : Status) (e f g : Effect) (k l m n : Bool)
    → (when k then Go a e else when l then (when m then Go b f else Go c g) else Stay) ≡ Stay
    → (when k then Go a e else when l then (when n then Go b f else Go c g) else Stay) ≡ Stay
unfolding when◌then◌else◌
third-unread a b c e f g true l m n q = absurd (go-stays q)
third-unread a b c e f g false true true n q = absurd (go-stays q)
third-unread a b c e f g false true false n q = absurd (go-stays q)
third-unread a b c e f g false false m n q = refl

-- a move under a test stays as it did, if the move does
under : (b : Bool) (x y : Move) → (x ≡ Stay → y ≡ Stay) → (when b then x else Stay) ≡ Stay → (when b then y else Stay) ≡ Stay
unfolding when◌then◌else◌
under true x y f h = f h
under false x y f h = refl

past : (b : Bool) (a : Status) (e : Effect) (x y : Move) → (x ≡ Stay → y ≡ Stay) → (when b then Go a e else x) ≡ Stay → (when b then Go a e else y) ≡ Stay
unfolding when◌then◌else◌
past true a e x y f h = absurd (go-stays h)
past false a e x y f h = f h

module _ (p : Image) (s t : State) (i : ℕ) (r : SameStay p s t i) where
  module _ (c : Condition) (q : asked (status_at s i) c ≡ true) where
    holds_same : holds p (seen s) i c ≡ holds p (seen t) i c
    unfolding holds
    holds_same = ap (says true) (r.conditions c q)

    fails-same : fails p (seen s) i c ≡ fails p (seen t) i c
    unfolding fails
    fails-same = ap (says false) (r.conditions c q)

  by-status : (a u : Status) → status_at s i ≡ a → by_status a u p s i ≡ Stay → by_status a u p t i ≡ Stay
  unfolding by_status from_waiting failure_or at_end settled from_ended asked
  by-status Inactive u e h = h
  by-status Waiting u e h =
      under (same u Executing) _ _ (λ g. third-unread _ _ _ _ _ _ _ _ _ _ (rw (holds_same Skip (rw e), holds_same Start (rw e)) at g)) h
  by-status Executing u e h = rw (fails-same Inv (rw e), holds_same End (rw e), r.mark) at h
  by-status Finishing u e h = rw (fails-same Inv (rw e), r.resting) at h
  by-status Failing u e h = rw (r.resting, r.mark) at h
  by-status IterationEnded u e h = third-unread _ _ _ _ _ _ (is_closing u) (same u Executing) _ _ h
  by-status Finished u e h = refl

pub stays-still : StaysStill
unfolding move_of move_by
stays-still p s t i r h =
    rw (← r.own, ← r.parent)
    (past (every (not (same (status_at s i) Inactive) ∷ is_off (parent_status p s i) ∷ [])) _ _ _ _ (by-status p s t i r (status_at s i) (parent_status p s i) refl) h)
