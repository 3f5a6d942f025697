-- A step by its atomic moves: what 004's relations make of a node's place and of a variable is what `step` makes of them.
use Prim.Native.Nat.{ℕ, zero, suc, ◌<◌, ◌≤◌}
use mathlib.Core.Path.{◌≡◌, refl, sym, ap, ◌∙◌, subst}
use mathlib.Core.Logic.{◌⊎◌, inl, inr, ⊎_elim}
use mathlib.Core.Bool.{Bool, true, false}
use native.Mathlib.Omega.{arith}
use Rattle.plexil.specs.declared.Cell.{Cell}
use Rattle.plexil.specs.declared.State.{State}
use Rattle.plexil.specs.declared.Place.{Place}
use Rattle.plexil.specs.declared.Status.{Status}
use Rattle.plexil.specs.declared.Effect.{Effect}
use Rattle.plexil.specs.declared.Move.{Move}
use Rattle.plexil.specs.declared.Move.TheVariants.{Stay, Go}
use Rattle.plexil.specs.Lists.{when◌then◌else◌}
use Rattle.plexil.specs.Image.{Image, node_count, owner}
use Rattle.plexil.specs.Records.{target}
use Rattle.plexil.specs.Places.{outcome_at, failure_at, mark_at, var_cell, initial}
use Rattle.plexil.specs.Atomic.{move_of}
use Rattle.plexil.specs.Micro.{judges, writes, loses, place_by, place, outcome_after, failure_after, enters_waiting, unwritten, var_after, wins}
use Rattle.plexil.specs.Promises.{Sole}
use Rattle.plexil.specs.Framework.{Environment, Program, joined, place_at, cell_at, Atomic, Loser, as_loser, NodeAfter, MemoryAfter, enters, returns}
use Rattle.plexil.proofs.ListLaws.{tested, not-both, same?, every-at, every-false, every-stop}
use Rattle.plexil.proofs.Writers.{sole-keeps, others-lose, wins-sole, sole-wins, var_after-sole, var_after-unwritten}

-- what the step makes of node i's place
abbrev pub stepped : Image → State → ℕ → Place
stepped p s i = record { status = (place p s i).status; outcome = outcome_after p s i; failure = failure_after p s i; mark = (place p s i).mark }

stay-go : (m : Move) (a : Status) (f : Effect) → m ≡ Stay → m ≡ Go a f → ⊥
stay-go m a f e h = let z : ◌≡◌ {A = ℕ} 0 1 = cc in omega arith

-- ---- losers
module _ (p : Image) (s : State) where
  lost-loser : (i : ℕ) → i < node_count p → loses p s i ≡ true → Loser p s i
  unfolding loses
  lost-loser i b h =
      record {
        writer = record { within = b; target = refl; writing = every-at _ 0 h };
        not_sole = λ sole. not-both _ h (sole-keeps p s (target p i) i sole);
      }

  loser-lost : (i : ℕ) → Loser p s i → loses p s i ≡ true
  loser-lost i l = others-lose p s (target p i) i l.writer l.not_sole

  stay-keeps : (i : ℕ) → move_of p s i ≡ Stay → loses p s i ≡ false
  unfolding loses writes judges
  stay-keeps i e = every-stop _ _ (every-false _ 1 (ap judges e))

  settled-lost : (i : ℕ) → loses p s i ≡ true → stepped p s i ≡ as_loser (place p s i)
  unfolding outcome_after failure_after when◌then◌else◌
  settled-lost i h = rw h

  settled-kept : (i : ℕ) → loses p s i ≡ false → stepped p s i ≡ place p s i
  unfolding outcome_after failure_after when◌then◌else◌
  settled-kept i h = rw h

  -- variable v has a sole writer among the nodes below n, or none
  none_more : (v n : ℕ) → wins p s v n ≡ false → ((i : ℕ) → i < n → Sole p s v i → ⊥) → (i : ℕ) → i < suc n → Sole p s v i → ⊥
  none_more v n h none i b sole =
      ⊎_elim (λ (e : i ≡ n). not-both _ (sole-wins p s v i sole) (rw e h)) (λ apart. none i (omega arith) sole) (same? i n)

  sole? : (v n : ℕ) → n ≤ node_count p → ((i : ℕ) × Sole p s v i) ⊎ ((i : ℕ) → i < n → Sole p s v i → ⊥)
  sole? v zero m = inr (λ i b. absurd (omega arith))
  sole? v (suc n) m =
      ⊎_elim (λ h. inl (n, wins-sole p s v n m h)) (λ h. ⊎_elim inl (λ none. inr (none_more v n h none)) (sole? v n (omega arith))) (tested (wins p s v n))

-- ---- a node
module _ (p : Image) (Γ : Environment) (π : Program) (i : ℕ) (b : i < node_count p) where
  abbrev s : State
  s = joined Γ π

  atomic-place : (q : Place) → Atomic p Γ π i q → q ≡ place p s i
  unfolding place
  atomic-place q a = a.becomes ∙ ap (place_by p s i) (sym a.rule)

  no_move : (m : Move) → move_of p s i ≡ m → ((a : Place) → Atomic p Γ π i a → ⊥) → move_of p s i ≡ Stay
  no_move Stay e none = e
  no_move (Go a f) e none = absurd (none _ (record { status = a; effect = f; rule = e; becomes = refl }))

  atomic-here : (a : Status) (f : Effect) → move_of p s i ≡ Go a f → Atomic p Γ π i (place p s i)
  unfolding place
  atomic-here a f e = record { status = a; effect = f; rule = e; becomes = ap (place_by p s i) e }

  stay-place : move_of p s i ≡ Stay → place p s i ≡ place_at π i
  unfolding place place_by outcome_at failure_at mark_at
  stay-place e = rw e

  pub node-is : (q : Place) → NodeAfter p Γ π i q → q ≡ stepped p s i
  node-is q (NodeAfter.moves a kept) =
      atomic-place q a ∙ sym (settled-kept p s i (⊎_elim (λ h. absurd (kept (lost-loser p s i b h))) (λ h. h) (tested (loses p s i))))
  node-is q (NodeAfter.loses x a l e) = e ∙ ap as_loser (atomic-place x a) ∙ sym (settled-lost p s i (loser-lost p s i l))
  node-is q (NodeAfter.stays none e) =
      let stay = no_move (move_of p s i) refl none in e ∙ sym (stay-place stay) ∙ sym (settled-kept p s i (stay-keeps p s i stay))

  node_by : (m : Move) → move_of p s i ≡ m → NodeAfter p Γ π i (stepped p s i)
  node_by Stay e = NodeAfter.stays (λ x a. stay-go (move_of p s i) a.status a.effect e a.rule) (settled-kept p s i (stay-keeps p s i e) ∙ stay-place e)
  node_by (Go a f) e =
      ⊎_elim (λ h. NodeAfter.loses (place p s i) (atomic-here a f e) (lost-loser p s i b h) (settled-lost p s i h))
      (λ h. subst (NodeAfter p Γ π i) (sym (settled-kept p s i h)) (NodeAfter.moves (atomic-here a f e) (λ l. not-both _ (loser-lost p s i l) h)))
      (tested (loses p s i))

  pub node-after : NodeAfter p Γ π i (stepped p s i)
  node-after = node_by (move_of p s i) refl

-- ---- a variable
module _ (p : Image) (Γ : Environment) (π : Program) (v : ℕ) where
  unwritten-is : ((i : ℕ) → Sole p (joined Γ π) v i → ⊥) → (t : Bool) → enters_waiting (move_of p (joined Γ π) (owner p v)) ≡ t
      → var_after p (joined Γ π) v ≡ (when t then initial p v else cell_at π v)
  unfolding unwritten var_cell
  unwritten-is none t e = var_after-unwritten p (joined Γ π) v none ∙ ap (λ (x : Bool). when x then initial p v else cell_at π v) e

  pub memory-is : (c : Cell) → MemoryAfter p Γ π v c → c ≡ var_after p (joined Γ π) v
  unfolding when◌then◌else◌
  memory-is c (enters i sole e) = e ∙ sym (var_after-sole p (joined Γ π) v i sole)
  memory-is c (returns none w e) = e ∙ sym (unwritten-is none true w)
  memory-is c (MemoryAfter.stays none w e) = e ∙ sym (unwritten-is none false w)

  unwritten_after : ((i : ℕ) → Sole p (joined Γ π) v i → ⊥) → MemoryAfter p Γ π v (var_after p (joined Γ π) v)
  unfolding when◌then◌else◌
  unwritten_after none =
      ⊎_elim (λ e. returns none e (unwritten-is none true e)) (λ e. MemoryAfter.stays none e (unwritten-is none false e))
      (tested (enters_waiting (move_of p (joined Γ π) (owner p v))))

  pub memory-after : MemoryAfter p Γ π v (var_after p (joined Γ π) v)
  memory-after =
      ⊎_elim (λ w. enters w.0 w.1 (var_after-sole p (joined Γ π) v w.0 w.1))
      (λ h. unwritten_after (λ i sole. h i sole.writer.within sole))
      (sole? p (joined Γ π) v (node_count p) (omega arith))
