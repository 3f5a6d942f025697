-- The frame of a node's rules: a node whose reads are equal in two states makes the same move in both.
use Prim.Native.Nat.{ℕ, zero, suc, ◌<◌}
use mathlib.Core.Path.{◌≡◌, refl, sym, ap, ap₂, ◌∙◌}
use mathlib.Core.Bool.{Bool, true, false, not, ◌&&◌}
use mathlib.Core.List.{[], ◌∷◌}
use native.Mathlib.Omega.{arith}
use lib.Dec.{eqb}
use Rattle.plexil.specs.declared.State.{State}
use Rattle.plexil.specs.declared.Status.{Status}
use Rattle.plexil.specs.declared.Status.TheVariants.{Inactive, Waiting, Executing, Finishing, Failing, IterationEnded, Finished}
use Rattle.plexil.specs.declared.Condition.{Condition}
use Rattle.plexil.specs.declared.Condition.TheVariants.{Skip, Start, Pre, Inv, End, Post, Repeat}
use Rattle.plexil.specs.Lists.{when◌then◌else◌, some, all_below}
use Rattle.plexil.specs.Values.{says}
use Rattle.plexil.specs.Image.{Image, default, node_count, parent, condition_field}
use Rattle.plexil.specs.Places.{status_at, seen}
use Rattle.plexil.specs.Expressions.{value_of}
use Rattle.plexil.specs.Atomic.{is_finished, children_by, children, default_of, condition, holds, fails, from_waiting, failure_or, at_end, settled, from_ended, by_status, move_by, move_of}
use Rattle.plexil.proofs.LoopLaws.{all_below-more}
use Rattle.answers.specs.Reads.{SameReads, MoveSame}

module _ (p : Image) (s t : State) (i : ℕ) (r : SameReads p s t i) where
  holds_same : (c : Condition) → holds p (seen s) i c ≡ holds p (seen t) i c
  unfolding holds
  holds_same c = ap (says true) (r.conditions c)

  fails-same : (c : Condition) → fails p (seen s) i c ≡ fails p (seen t) i c
  unfolding fails
  fails-same c = ap (says false) (r.conditions c)

  by-same : (a u : Status) → by_status a u p s i ≡ by_status a u p t i
  unfolding by_status from_waiting failure_or at_end settled from_ended
  by-same Inactive u = refl
  by-same Waiting u = rw (holds_same Skip, holds_same Start, holds_same Pre)
  by-same Executing u = rw (fails-same Inv, holds_same End, r.mark)
  by-same Finishing u = rw (fails-same Inv, r.resting)
  by-same Failing u = rw (r.resting, r.mark)
  by-same IterationEnded u = rw (holds_same Repeat)
  by-same Finished u = refl

pub move_same : MoveSame
unfolding move_of move_by
move_same p s t i r = rw (r.own, r.parent, by-same p s t i r)

-- ---- the conditions read alike where the given ones have one value and the children's test is one
module _ (p : Image) (s t : State) (i : ℕ) (f : children p s i is_finished ≡ children p t i is_finished) where
  default-same : (c : Condition) → default_of p (seen s) i c ≡ default_of p (seen t) i c
  unfolding default_of
  default-same Skip = refl
  default-same Start = refl
  default-same Pre = refl
  default-same Inv = refl
  default-same End = rw f
  default-same Post = refl
  default-same Repeat = refl

  pub condition-same : (c : Condition) → (eqb (condition_field p i c) default ≡ false → value_of p (seen s) (condition_field p i c) ≡ value_of p (seen t) (condition_field p i c))
      → condition p (seen s) i c ≡ condition p (seen t) i c
  unfolding condition when◌then◌else◌
  condition-same c v = by (eqb (condition_field p i c) default) refl
    where
      by : (b : Bool) → eqb (condition_field p i c) default ≡ b → condition p (seen s) i c ≡ condition p (seen t) i c
      by true e = rw (e, default-same c)
      by false e = rw (e, v e)

-- ---- the children's tests, where no child moved
all_below-same : (n : ℕ) (f g : ℕ → Bool) → ((j : ℕ) → j < n → f j ≡ g j) → all_below n f ≡ all_below n g
unfolding all_below
all_below-same zero f g h = refl
all_below-same (suc n) f g h =
    all_below-more n f ∙ (ap₂ ◌&&◌ (h n (omega arith)) (all_below-same n f g (λ j b. h j (omega arith))) ∙ sym (all_below-more n g))

-- j is another's child, or stands alike in both
module _ (p : Image) (s t : State) (i : ℕ) (f : Status → Bool) where
  pub children-same : ((j : ℕ) → j < node_count p → eqb (parent p j) i ≡ true → status_at s j ≡ status_at t j) → children p s i f ≡ children p t i f
  unfolding children_by some when◌then◌else◌ status_at
  children-same h = all_below-same (node_count p) _ _ (λ j b. by j b (eqb (parent p j) i) refl)
    where
      by : (j : ℕ) → j < node_count p → (c : Bool) → eqb (parent p j) i ≡ c
          → some (not (eqb (parent p j) i) ∷ f (status_at s j) ∷ []) ≡ some (not (eqb (parent p j) i) ∷ f (status_at t j) ∷ [])
      by j b true e = rw (h j b e)
      by j b false e = rw e
