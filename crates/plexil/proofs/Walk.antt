-- A whole walk: each node visited has its next place and told whether it wrote, and what is carried of each variable has met its writers among them.
use Prim.Native.Nat.{ℕ, suc, ◌≤◌, ◌<◌}
use mathlib.Core.Path.{◌≡◌, refl, sym, ◌∙◌, subst}
use mathlib.Core.Logic.{◌⊎◌, inl, inr, ⊎_elim}
use mathlib.Core.Bool.{Bool, true, false}
use mathlib.Core.List.{List, [], ◌∷◌}
use native.Mathlib.Omega.{arith}
use lib.Dec.{ltb}
use lib.ListN.{length, replicate, length-replicate, get_or-replicate}
use borrow.Author.Tests.{eq-eqb, ne_eqb, ltb-true, lt-ltb}
use Rattle.plexil.specs.declared.State.{State}
use Rattle.plexil.specs.Image.{Image, node_count}
use Rattle.plexil.specs.Records.{target}
use Rattle.plexil.specs.Micro.{writes, place}
use Rattle.plexil.specs.Order.{Carry, carry_nothing, visit, walk, count, NamesOnce}
use Rattle.plexil.specs.Promises.{Writer, Sized}
use Rattle.plexil.proofs.ListLaws.{tested, not-both, same?, if-true, if-false}
use Rattle.plexil.proofs.Meeting.{Best, Grows, Met, nobody, met-skip, met-more}
use Rattle.plexil.proofs.Visit.{place_at, wrote_at, best_at, Lengths, visit-lengths, visit-here, visit-there, wrote-here, wrote-there, visit-meets, visit-leaves}

-- ---- counts
pub count_same : (i : ℕ) (l : List ℕ) → count i (i ∷ l) ≡ suc (count i l)
unfolding count
count_same i l = if-true _ _ _ (eq-eqb i i refl)

pub count-other : (i j : ℕ) (l : List ℕ) → (j ≡ i → ⊥) → count j (i ∷ l) ≡ count j l
unfolding count
count-other i j l apart = if-false _ _ _ (ne_eqb j i apart)

count-tail : (i j : ℕ) (l : List ℕ) → count j l ≤ count j (i ∷ l)
count-tail i j l = ⊎_elim (λ (e : j ≡ i). rw (e, count_same i l) (omega arith)) (λ apart. omega (arith, count-other i j l apart)) (same? j i)

pub count-nil : (j : ℕ) → count j [] ≡ 0
unfolding count
count-nil j = refl

module _ (p : Image) (s : State) where
  -- what is still to be visited: nodes of the plan, each once
  record Ahead (l : List ℕ) : Type 0 where
    single : (j : ℕ) → count j l ≤ 1
    within : (j : ℕ) → 0 < count j l → j < node_count p

  pub record Walked (l : List ℕ) (c : Carry) : Type 0 where
    pub lengths : Lengths c
    pub done : (j : ℕ) → j < node_count p → count j l ≡ 0 → place_at c j ≡ place p s j
    pub told : (j : ℕ) → j < node_count p → count j l ≡ 0 → wrote_at c j ≡ writes p s j
    pub past : (j : ℕ) → node_count p ≤ j → place_at c j ≡ place_at (carry_nothing s) j
    pub met : (v : ℕ) → v < 128 → Met p s v (λ j. count j l ≡ 0) (best_at c v)

  ahead-tail : (i : ℕ) (l : List ℕ) → Ahead (i ∷ l) → Ahead l
  ahead-tail i l a = record {
    single = λ j. omega (arith, count-tail i j l, a.single j);
    within = λ j m. a.within j (omega (arith, count-tail i j l));
  }

  names-ahead : (l : List ℕ) → NamesOnce p l → Ahead l
  unfolding NamesOnce
  names-ahead l h = record {
    single = λ j. ⊎_elim (λ e. omega (arith, h j ∙ if-true _ 1 0 e)) (λ e. omega (arith, h j ∙ if-false _ 1 0 e)) (tested (ltb j (node_count p)));
    within = λ j m. ⊎_elim (λ e. ltb-true _ _ e) (λ e. absurd (omega (arith, h j ∙ if-false _ 1 0 e))) (tested (ltb j (node_count p)));
  }

  named : (l : List ℕ) → NamesOnce p l → (j : ℕ) → j < node_count p → count j l ≡ 0 → ⊥
  unfolding NamesOnce
  named l h j b e = omega (arith, h j ∙ if-true _ 1 0 (lt-ltb j (node_count p) b))

  pub start-lengths : Sized s → Lengths (carry_nothing s)
  unfolding carry_nothing
  start-lengths z =
      let long : length {A = ℕ} (replicate 128 0) ≡ 128 = length-replicate {A = ℕ} 128 0 in
      record { status = z.status; outcome = z.outcome; failure = z.failure; mark = z.mark; wrote = length-replicate {A = Bool} 256 false; top = long; node = long; tags = long; bits = long; tied = long }

  walked_start : (l : List ℕ) → NamesOnce p l → Sized s → Walked l (carry_nothing s)
  unfolding carry_nothing
  walked_start l h z = record {
    lengths = start-lengths z;
    done = λ j b e. absurd (named l h j b e);
    told = λ j b e. absurd (named l h j b e);
    past = λ j b. refl;
    met = λ v b. nobody (get_or-replicate 128 v 0 0 b) (λ j e w. named l h j w.within e);
  }

  module _ (small : node_count p ≤ 256) where
    -- a visit of i, the first of what is ahead
    module _ (i : ℕ) (l : List ℕ) (a : Ahead (i ∷ l)) where
      below : i < node_count p
      below = a.within i (omega (arith, count_same i l))

      once : count i l ≡ 0
      once = omega (arith, count_same i l, a.single i)

      grows : Grows (λ j. count j (i ∷ l) ≡ 0) (λ j. count j l ≡ 0) i
      grows = record {
        grow = λ j e. omega (arith, count-tail i j l);
        only = λ j e apart. count-other i j l apart ∙ e;
        here = once;
        new = λ e. omega (arith, count_same i l);
      }

      visit-met : (c : Carry) → Lengths c → (v : ℕ) → v < 128
          → Met p s v (λ j. count j (i ∷ l) ≡ 0) (best_at c v) → Met p s v (λ j. count j l ≡ 0) (best_at (visit p s c i) v)
      visit-met c z v b m = by (tested (writes p s i)) (same? (target p i) v)
        where
          After : Best → Type 0
          After = Met p s v (λ j. count j l ≡ 0)

          skip : (Writer p s v i → ⊥) → After (best_at (visit p s c i) v)
          skip idle =
              let same = visit-leaves p s c i v (λ w q. idle (record { within = below; target = q; writing = w })) in
              subst After (sym same) (met-skip p s v _ _ i grows (best_at c v) idle m)

          by : (writes p s i ≡ true) ⊎ (writes p s i ≡ false) → (target p i ≡ v) ⊎ (target p i ≡ v → ⊥) → After (best_at (visit p s c i) v)
          by (inl w) (inl q) =
              let writer : Writer p s v i = record { within = below; target = q; writing = w } in
              subst After (sym (visit-meets p s c i v z w q b)) (met-more p s v _ _ i grows writer (best_at c v) m)
          by (inl w) (inr apart) = skip (λ w'. apart w'.target)
          by (inr idle) q = skip (λ w'. not-both _ w'.writing idle)

      visit-walked : (c : Carry) → Walked (i ∷ l) c → Walked l (visit p s c i)
      visit-walked c k = record {
        lengths = visit-lengths p s c i k.lengths;
        done = λ j b e. ⊎_elim
            (λ (q : j ≡ i). rw q (visit-here p s c i k.lengths (omega (arith, below))))
            (λ apart. visit-there p s c i j apart ∙ k.done j b (count-other i j l apart ∙ e))
            (same? j i);
        told = λ j b e. ⊎_elim
            (λ (q : j ≡ i). rw q (wrote-here p s c i k.lengths (omega (arith, below))))
            (λ apart. wrote-there p s c i j apart ∙ k.told j b (count-other i j l apart ∙ e))
            (same? j i);
        past = λ j b. visit-there p s c i j (λ q. omega (arith, below)) ∙ k.past j b;
        met = λ v b. visit-met c k.lengths v b (k.met v b);
      }

    walk-walked : (l : List ℕ) (c : Carry) → Ahead l → Walked l c → Walked [] (walk p s l c)
    unfolding walk
    walk-walked [] c a k = k
    walk-walked (i ∷ l) c a k = walk-walked l (visit p s c i) (ahead-tail i l a) (visit-walked i l a c k)

    pub walked : (l : List ℕ) → NamesOnce p l → Sized s → Walked [] (walk p s l (carry_nothing s))
    walked l h z = walk-walked l (carry_nothing s) (names-ahead l h) (walked_start l h z)
