-- What the rules of a node read of a state: two states that agree in it give the node one move.
use Rattle.std.specs.Prelude.{ℕ, ◌<◌, ◌≡◌, Bool, true, false, List, eqb}
use Rattle.plexil.specs.declared.State.{State}
use Rattle.plexil.specs.declared.Status.{Status}
use Rattle.plexil.specs.declared.Status.TheVariants.{Inactive, Waiting, Executing, Finishing, Failing, IterationEnded, Finished}
use Rattle.plexil.specs.declared.Condition.{Condition}
use Rattle.plexil.specs.declared.Condition.TheVariants.{Skip, Start, Pre, Inv, End, Post, Repeat}
use Rattle.plexil.specs.declared.Move.TheVariants.{Stay}
use Rattle.plexil.specs.Image.{Image, default, node_count, expr_count, parent, condition_field}
use Rattle.plexil.specs.Places.{seen, status_at, mark_at}
use Rattle.plexil.specs.Atomic.{is_resting, children, parent_status, condition, move_of}
use Rattle.plexil.specs.Promises.{IsAdmitted}
use Rattle.answers.specs.Changes.{up, Covers, Unchanged}

-- "its own place or mark, its parent's status, an answer of its conditions, its children's tests"
pub record SameReads (p : Image) (s t : State) (i : ℕ) : Type 0 where
  pub own : status_at s i ≡ status_at t i
  pub parent : parent_status p s i ≡ parent_status p t i
  pub mark : mark_at s i ≡ mark_at t i
  pub conditions : (c : Condition) → condition p (seen s) i c ≡ condition p (seen t) i c
  pub resting : children p s i is_resting ≡ children p t i is_resting

-- "move_of is equal where what it reads is equal"
abbrev pub MoveSame : Type 0
MoveSame = (p : Image) (s t : State) (i : ℕ) → SameReads p s t i → move_of p s i ≡ move_of p t i

-- the conditions that a node of a status has read when it stays: Waiting has not come to Pre, and nobody to Post or Repeat
unfoldable pub asked : Status → Condition → Bool
asked Inactive c = false
asked Waiting Skip = true
asked Waiting Start = true
asked Waiting Pre = false
asked Waiting Inv = false
asked Waiting End = false
asked Waiting Post = false
asked Waiting Repeat = false
asked Executing Skip = false
asked Executing Start = false
asked Executing Pre = false
asked Executing Inv = true
asked Executing End = true
asked Executing Post = false
asked Executing Repeat = false
asked Finishing Skip = false
asked Finishing Start = false
asked Finishing Pre = false
asked Finishing Inv = true
asked Finishing End = false
asked Finishing Post = false
asked Finishing Repeat = false
asked Failing c = false
asked IterationEnded c = false
asked Finished c = false

-- what a node that stays has read
pub record SameStay (p : Image) (s t : State) (i : ℕ) : Type 0 where
  pub own : status_at s i ≡ status_at t i
  pub parent : parent_status p s i ≡ parent_status p t i
  pub mark : mark_at s i ≡ mark_at t i
  pub conditions : (c : Condition) → asked (status_at s i) c ≡ true → condition p (seen s) i c ≡ condition p (seen t) i c
  pub resting : children p s i is_resting ≡ children p t i is_resting

-- "a node that stayed and whose reads are equal stays"
abbrev pub StaysStill : Type 0
StaysStill = (p : Image) (s t : State) (i : ℕ) → SameStay p s t i → move_of p s i ≡ Stay → move_of p t i ≡ Stay

-- nothing that node i's stay in s read has its flag up
pub record Calm (p : Image) (s : State) (altered changed : List ℕ) (i : ℕ) : Type 0 where
  pub own : up altered i ≡ false
  pub above : up altered (parent p i) ≡ false
  pub beneath : (j : ℕ) → j < node_count p → eqb (parent p j) i ≡ true → up altered j ≡ false
  pub conditions : (c : Condition) → asked (status_at s i) c ≡ true → eqb (condition_field p i c) default ≡ false → up changed (condition_field p i c) ≡ false

-- a node that stayed and is calm stays, by the flags and an equal mark
abbrev pub CalmStays : Type 0
CalmStays =
    (p : Image) (s t : State) (altered changed : List ℕ) → IsAdmitted p → Covers (seen s) (seen t) altered → Unchanged p (seen s) (seen t) changed (expr_count p)
    → (i : ℕ) → i < node_count p → mark_at s i ≡ mark_at t i → Calm p s altered changed i → move_of p s i ≡ Stay → move_of p t i ≡ Stay

-- opens every definition of this file
unfoldable pub opened : Unit {0}
unfolding asked
opened = tt
