-- Promise 3: each node stands to its parent as the table allows, after every micro step.
use Prim.Native.Nat.{ℕ, zero, suc, ◌<◌}
use mathlib.Core.Path.{◌≡◌, refl, sym, ap, ◌∙◌}
use mathlib.Core.Logic.{◌⊎◌, inl, inr}
use mathlib.Core.Bool.{true, false, false≢true}
use lib.Dec.{eqb}
use borrow.Author.Tests.{eq-eqb, not-true}
use Rattle.plexil.specs.declared.State.{State}
use Rattle.plexil.specs.declared.Status.{Status}
use Rattle.plexil.specs.declared.Status.TheVariants.{Inactive, Waiting, Executing, Finishing, Failing, IterationEnded, Finished}
use Rattle.plexil.specs.declared.Move.{Move}
use Rattle.plexil.specs.Lists.{when◌then◌else◌, every, some}
use Rattle.plexil.specs.Image.{Image, node_type, node_count, parent}
use Rattle.plexil.specs.Places.{status_code, same, status_at}
use Rattle.plexil.specs.Records.{is_list, is_assignment}
use Rattle.plexil.specs.Atomic.{is_closing, is_off, is_resting, children_by, children, parent_status, settled, by_status, move_by, move_of}
use Rattle.plexil.specs.Micro.{step}
use Rattle.plexil.specs.Form.{is_idle, allowed}
use Rattle.plexil.specs.Promises.{FromKept, ParentTable}
use Rattle.plexil.proofs.ListLaws.{if-false, tested, not-both, if-true, all_below-at}
use Rattle.plexil.proofs.Admitted.{parent-below, parent-list}
use Rattle.plexil.proofs.KeptState.{table_of}
use Rattle.plexil.proofs.TestLaws.{given, other-number}
use Rattle.plexil.proofs.Statuses.{same_true}
use Rattle.plexil.proofs.Moves.{executing, finishing, Made, resets, wakes, skips, starts, refuses, breaks_off, drops_out, closes, ends, closed, failed, repeats, finishes, stays, made, moved, landing, step-status}

-- ---- the child: what a node of status c becomes under a parent of status u
module _ (p : Image) (s : State) (i : ℕ) where
  -- under a parent that is off a node is Inactive
  gone : (c u : Status) → is_off u ≡ true → same u Executing ≡ false → landing c (move_by c u p s i) ≡ Inactive
  unfolding landing move_by by_status same status_code every when◌then◌else◌
  gone Inactive u o n = rw n
  gone Waiting u o n = rw o
  gone Executing u o n = rw o
  gone Finishing u o n = rw o
  gone Failing u o n = rw o
  gone IterationEnded u o n = rw o
  gone Finished u o n = rw o

  -- under any other it does not become Inactive
  here : (c u : Status) (m : Move) → Made p s i c u m → is_off u ≡ false → same c Inactive ≡ false → same (landing c m) Inactive ≡ false
  unfolding landing same status_code
  here c u m (resets o) n h = absurd (not-both (is_off u) o n)
  here c u m wakes n h = refl
  here c u m skips n h = refl
  here c u m starts n h = refl
  here c u m refuses n h = refl
  here c u m (breaks_off o b t) n h = refl
  here c u m (drops_out o b t) n h = refl
  here c u m (closes l) n h = refl
  here c u m (ends l) n h = refl
  here c u m (closed r) n h = refl
  here c u m (failed r) n h = refl
  here c u m repeats n h = refl
  here c u m finishes n h = refl
  here c u m stays n h = h

  -- an Executing parent wakes it
  awake : (c : Status) → same (landing c (move_by c Executing p s i)) Inactive ≡ false
  unfolding landing move_by by_status same status_code every some is_off when◌then◌else◌
  awake c = by (tested (same c Inactive))
    where
      by : (same c Inactive ≡ true) ⊎ (same c Inactive ≡ false) → same (landing c (move_by c Executing p s i)) Inactive ≡ false
      by (inl e) = rw (same_true c Inactive e)
      by (inr e) = here c Executing _ (made p s i c Executing) refl e

  -- one that is neither off nor Executing leaves an idle node as it is
  still : (c u : Status) → is_off u ≡ false → same u Executing ≡ false → is_idle c ≡ true → landing c (move_by c u p s i) ≡ c
  unfolding landing move_by by_status same status_code every when◌then◌else◌ is_idle some
  still Inactive u o n h = rw n
  still Waiting u o n h = rw o (ap (landing Waiting) (if-false _ _ _ n))
  still Executing u o n h = absurd (false≢true h)
  still Finishing u o n h = absurd (false≢true h)
  still Failing u o n h = absurd (false≢true h)
  still IterationEnded u o n h = absurd (false≢true h)
  still Finished u o n h = rw o

-- ---- the same, by the parent's status; c is allowed under it, and becomes d
abbrev Child : Status → Status → Status → Type 0
Child Inactive c d = d ≡ Inactive
Child Waiting c d = d ≡ Inactive
Child Executing c d = same d Inactive ≡ false
Child Finishing c d = (same d Inactive ≡ false) × (is_idle c ≡ true → d ≡ c)
Child Failing c d = (same d Inactive ≡ false) × (is_idle c ≡ true → d ≡ c)
Child IterationEnded c d = d ≡ c
Child Finished c d = d ≡ c

child-becomes : (p : Image) (s : State) (i : ℕ) (u c : Status) → allowed u c ≡ true → Child u c (landing c (move_by c u p s i))
unfolding allowed is_closing is_off same status_code some when◌then◌else◌
child-becomes p s i Inactive c a = gone p s i c Inactive refl refl
child-becomes p s i Waiting c a = gone p s i c Waiting refl refl
child-becomes p s i Executing c a = awake p s i c
child-becomes p s i Finishing c a = (here p s i c Finishing _ (made p s i c Finishing) refl (not-true _ a), still p s i c Finishing refl refl)
child-becomes p s i Failing c a = (here p s i c Failing _ (made p s i c Failing) refl (not-true _ a), still p s i c Failing refl refl)
child-becomes p s i IterationEnded c a = still p s i c IterationEnded refl refl a
child-becomes p s i Finished c a = still p s i c Finished refl refl a

-- ---- the parent, of status u under one of status g
pub off-idle : (g u : Status) → is_off g ≡ true → allowed g u ≡ true → is_idle u ≡ true
unfolding is_off allowed is_closing same status_code some when◌then◌else◌
off-idle Inactive u o a = a
off-idle Waiting u o a = a
off-idle Executing u o a = absurd (false≢true o)
off-idle Finishing u o a = absurd (false≢true o)
off-idle Failing u o a = absurd (false≢true o)
off-idle IterationEnded u o a = absurd (false≢true o)
off-idle Finished u o a = absurd (false≢true o)

-- under an idle parent a node becomes idle
idle-child : (u c d : Status) → is_idle u ≡ true → allowed u c ≡ true → Child u c d → is_idle d ≡ true
unfolding is_idle allowed is_closing same status_code some when◌then◌else◌
idle-child Inactive c d h a k = rw k
idle-child Waiting c d h a k = rw k
idle-child Executing c d h a k = absurd (false≢true h)
idle-child Finishing c d h a k = absurd (false≢true h)
idle-child Failing c d h a k = absurd (false≢true h)
idle-child IterationEnded c d h a k = absurd (false≢true h)
idle-child Finished c d h a k = rw k a

-- where the parent stays, its child is still allowed
staying : (u c d : Status) → allowed u c ≡ true → Child u c d → allowed u d ≡ true
unfolding allowed is_closing is_idle same status_code some when◌then◌else◌
staying Inactive c d a k = rw k
staying Waiting c d a k = rw k
staying Executing c d a k = refl
staying Finishing c d a k = rw k.0
staying Failing c d a k = rw k.0
staying IterationEnded c d a k = rw k a
staying Finished c d a k = rw k a

resting-idle : (c : Status) → is_resting c ≡ true → is_idle c ≡ true
unfolding is_resting is_idle same status_code some when◌then◌else◌
resting-idle Inactive h = refl
resting-idle Waiting h = refl
resting-idle Executing h = h
resting-idle Finishing h = h
resting-idle Failing h = h
resting-idle IterationEnded h = h
resting-idle Finished h = refl

-- a child that rests stays as it is
rests : (c d : Status) → is_resting c ≡ true → (is_idle c ≡ true → d ≡ c) → is_idle d ≡ true
rests c d h k = rw (k (resting-idle c h)) (resting-idle c h)

-- a list leaves Finishing and Failing only where its children rest
module _ (p : Image) (s : State) (j : ℕ) (list : is_list p j ≡ true) where
  all_rest : settled p s j ≡ true → children p s j is_resting ≡ true
  unfolding settled
  all_rest h = sym (if-true _ _ _ list) ∙ h

  parent-becomes : (c d u g : Status) (m : Move) → Made p s j u g m → allowed g u ≡ true → allowed u c ≡ true
      → (children p s j is_resting ≡ true → is_resting c ≡ true) → Child u c d → allowed (landing u m) d ≡ true
  unfolding landing allowed is_closing is_idle same status_code some when◌then◌else◌ is_list is_assignment
  parent-becomes c d u g m (resets o) a b r k = idle-child u c d (off-idle g u o a) b k
  parent-becomes c d u g m wakes a b r k = rw k
  parent-becomes c d u g m skips a b r k = rw k
  parent-becomes c d u g m starts a b r k = refl
  parent-becomes c d u g m refuses a b r k = rw k
  parent-becomes c d u g m (breaks_off executing f t) a b r k = rw k
  parent-becomes c d u g m (breaks_off finishing f t) a b r k = rw k.0
  parent-becomes c d u g m (drops_out o f t) a b r k = absurd (not-both (is_assignment p j) t (other-number (node_type p j) 0 2 list refl))
  parent-becomes c d u g m (closes l) a b r k = rw k
  parent-becomes c d u g m (ends l) a b r k = absurd (not-both (is_list p j) list l)
  parent-becomes c d u g m (closed t) a b r k = rests c d (r t) k.1
  parent-becomes c d u g m (failed t) a b r k = rests c d (r (all_rest t)) k.1
  parent-becomes c d u g m repeats a b r k = rw k b
  parent-becomes c d u g m finishes a b r k = rw k b
  parent-becomes c d u g m stays a b r k = staying u c d b k

-- ---- the table
child-rests : (p : Image) (s : State) (i : ℕ) → i < node_count p → children p s (parent p i) is_resting ≡ true → is_resting (status_at s i) ≡ true
unfolding children_by status_at
child-rests p s i b h = given (eqb (parent p i) (parent p i)) _ (all_below-at (node_count p) _ h i b) (eq-eqb (parent p i) (parent p i) refl)

pub parent-table : FromKept (λ p s. ParentTable p (step p s))
unfolding parent_status allowed is_closing move_of same status_code some when◌then◌else◌
parent-table p s a k zero b = refl
parent-table p s a k (suc i) b =
    let j = parent p (suc i) in
    let jb : j < node_count p = parent-below p a i b in
    rw (step-status p s (suc i) b, step-status p s j jb)
    (parent-becomes p s j (parent-list p a i b) (status_at s (suc i)) _ (status_at s j) (parent_status p s j) _ (moved p s j) (table_of p s k j jb) (table_of p s k (suc i) b)
    (child-rests p s (suc i) b) (child-becomes p s (suc i) (status_at s j) (status_at s (suc i)) (table_of p s k (suc i) b)))
