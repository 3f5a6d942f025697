-- The pass over the children: after j nodes a row of flags has the answer of the nodes below j.
use Prim.Native.Nat.{ℕ, ◌+◌, ◌<◌, ◌≤◌}
use mathlib.Core.Path.{◌≡◌, refl, sym, ap, ◌∙◌}
use mathlib.Core.Logic.{⊎_elim}
use mathlib.Core.Bool.{Bool, true, false, not, ◌&&◌}
use mathlib.Core.List.{List, [], ◌∷◌}
use native.Mathlib.Omega.{arith}
use native.Mathlib.Numerals.{add-one}
use lib.Dec.{eqb}
use lib.ListN.{length, get_or, set, replicate, length-set, length-replicate, get_or-replicate}
use lib.Seq.{get_or-set_same, get_or-set_other}
use borrow.Author.Tests.{eq-eqb, ne_eqb}
use Rattle.plexil.specs.declared.State.{State}
use Rattle.plexil.specs.declared.Status.{Status}
use Rattle.plexil.specs.Lists.{some, all_below}
use Rattle.plexil.specs.Image.{Image, node_count, parent}
use Rattle.plexil.specs.Places.{state_of, status_of, status_at}
use Rattle.plexil.specs.Atomic.{children_by}
use Rattle.plexil.proofs.ListLaws.{same?, some-stop, some-cons, some_one}
use Rattle.plexil.proofs.LoopLaws.{all_below-more}

-- node j is no child of i, or passes
abbrev child_passes : Image → List ℕ → ℕ → (Status → Bool) → ℕ → Bool
child_passes p st i f j = some (not (eqb (parent p j) i) ∷ f (status_of (get_or st j 0)) ∷ [])

pub record Row (p : Image) (st : List ℕ) (f : Status → Bool) (j : ℕ) (l : List Bool) : Type 0 where
  pub long : length l ≡ 256
  pub right : (i : ℕ) → i < 256 → get_or l i false ≡ all_below j (child_passes p st i f)

and_comm : (a b : Bool) → (a && b) ≡ (b && a)
and_comm true true = refl
and_comm true false = refl
and_comm false true = refl
and_comm false false = refl

module _ (p : Image) (st : List ℕ) (f : Status → Bool) where
  pub row-start : Row p st f 0 (replicate 256 true)
  unfolding all_below
  row-start = record { long = length-replicate 256 true; right = λ i b. get_or-replicate 256 i true false b }

  -- a node that is no child of i changes nothing
  other : (j i : ℕ) → (parent p j ≡ i → ⊥) → all_below (j + 1) (child_passes p st i f) ≡ all_below j (child_passes p st i f)
  other j i h =
      rw (add-one, all_below-more) (ap (λ (b : Bool). b && all_below j (child_passes p st i f)) (some-stop _ _ (ap not (ne_eqb _ _ h))))

  own : (j i : ℕ) → parent p j ≡ i → all_below (j + 1) (child_passes p st i f) ≡ (all_below j (child_passes p st i f) && f (status_of (get_or st j 0)))
  own j i h =
      rw (add-one, all_below-more)
      (ap (λ (b : Bool). b && all_below j (child_passes p st i f)) (some-cons _ _ (ap not (eq-eqb _ _ h)) ∙ some_one _) ∙ and_comm (f (status_of (get_or st j 0))) (all_below j (child_passes p st i f)))

  pub row-skip : (j : ℕ) (l : List Bool) {q : ℕ} → q ≡ parent p j → 256 ≤ q → Row p st f j l → Row p st f (j + 1) l
  row-skip j l {q} e h r =
      record { long = r.long; right = λ i b. r.right i b ∙ sym (other j i (λ g. omega arith)) }

  pub row-set : (j : ℕ) (l : List Bool) {q : ℕ} {a : Status} {x : Bool} → q ≡ parent p j → q < 256 → ((s : State) → s.status ≡ st → a ≡ status_at s j) → x ≡ f a
      → Row p st f j l → Row p st f (j + 1) (set l q (get_or l q false && x))
  unfolding status_at
  row-set j l {q} {a} {x} e h w k r = record {
    long = length-set l q _ ∙ r.long;
    right = λ i b.
        ⊎_elim
        (λ (o : i ≡ q).
        rw (o, get_or-set_same l q (get_or l q false && x) false (rw r.long h), own j q (sym e), ← r.right q h)
        (ap (λ (y : Bool). get_or l q false && y) (k ∙ ap f (w (state_of st [] [] [] [] [] [] []) refl))))
        (λ o. get_or-set_other l q i _ false o ∙ (r.right i b ∙ sym (other j i (λ y. o (sym y ∙ sym e)))))
        (same? i q);
  }

  -- after the last node
  pub row-end : (l : List Bool) {k : ℕ} → k ≡ node_count p → Row p st f k l → (i : ℕ) → i < 256 → get_or l i false ≡ children_by p st i f
  unfolding children_by
  row-end l e r i b = r.right i b ∙ ap (λ (k : ℕ). all_below k (child_passes p st i f)) e
