-- The way up from a node to node 0, where each parent is lower: two nodes on one way up are above one another.
use Prim.Native.Nat.{ℕ, zero, suc, ◌<◌}
use mathlib.Core.Path.{◌≡◌, refl, ◌∙◌}
use mathlib.Core.Bool.{Bool, true, false}
use mathlib.Core.Logic.{◌⊎◌, inl, inr}
use native.Mathlib.Omega.{arith}
use lib.Dec.{eqb}
use borrow.Author.Tests.{eqb-true}
use Rattle.plexil.specs.Image.{Image, node_count, parent}
use Rattle.plexil.specs.Scope.{is_above}

module _ (p : Image) (lower : (i : ℕ) → suc i < node_count p → parent p (suc i) < suc i) where
  -- a longer way finds no more
  pub as-far : (m n o i : ℕ) → i < m → i < n → i < node_count p → is_above p m o i ≡ is_above p n o i
  unfolding is_above
  as-far zero n o i h g b = absurd (omega arith)
  as-far (suc m) zero o i h g b = absurd (omega arith)
  as-far (suc m) (suc n) o zero h g b = refl
  as-far (suc m) (suc n) o (suc i) h g b =
      let l : parent p (suc i) < suc i = lower i b in
      by (eqb o (suc i)) refl (as-far m n o (parent p (suc i)) (omega arith) (omega arith) (omega arith))
    where
      by : (t : Bool) → eqb o (suc i) ≡ t → is_above p m o (parent p (suc i)) ≡ is_above p n o (parent p (suc i)) → is_above p (suc m) o (suc i) ≡ is_above p (suc n) o (suc i)
      by true t u = rw (t, is_above) refl
      by false t u = rw (t, is_above) u

  -- node o is node i or above it
  abbrev pub Above : ℕ → ℕ → Type 0
  Above o i = is_above p (suc i) o i ≡ true

  -- what is above b is above what b is above
  pub above-through : (a b m i : ℕ) → i < m → i < node_count p → Above a b → is_above p m b i ≡ true → is_above p m a i ≡ true
  unfolding is_above
  above-through a b zero i h k q r = absurd (omega arith)
  above-through a b (suc m) zero h k q r = as-far 1 (suc m) a 0 (omega arith) (omega arith) k ∙ (rw (eqb-true b 0 r) at q)
  above-through a b (suc m) (suc i) h k q r =
      let l : parent p (suc i) < suc i = lower i k in
      by (eqb b (suc i)) refl (eqb a (suc i)) refl (above-through a b m (parent p (suc i)) (omega arith) (omega arith) q)
    where
      by : (t : Bool) → eqb b (suc i) ≡ t → (u : Bool) → eqb a (suc i) ≡ u
          → (is_above p m b (parent p (suc i)) ≡ true → is_above p m a (parent p (suc i)) ≡ true) → is_above p (suc m) a (suc i) ≡ true
      by t et true eu f = rw (eu, is_above) refl
      by true et false eu f = as-far (suc m) (suc (suc i)) a (suc i) (omega arith) (omega arith) k ∙ (rw (eqb-true b (suc i) et) at q)
      by false et false eu f = rw (eu, is_above) (f (rw (et, is_above) at r))

  -- of two that are above i one is above the other
  pub above-each : (a b m i : ℕ) → i < m → i < node_count p → is_above p m a i ≡ true → is_above p m b i ≡ true → Above a b ⊎ Above b a
  unfolding is_above
  above-each a b zero i h k q r = absurd (omega arith)
  above-each a b (suc m) zero h k q r = inl (rw (eqb-true a 0 q, eqb-true b 0 r) refl)
  above-each a b (suc m) (suc i) h k q r =
      let l : parent p (suc i) < suc i = lower i k in
      by (eqb a (suc i)) refl (eqb b (suc i)) refl (above-each a b m (parent p (suc i)) (omega arith) (omega arith))
    where
      by : (t : Bool) → eqb a (suc i) ≡ t → (u : Bool) → eqb b (suc i) ≡ u
          → (is_above p m a (parent p (suc i)) ≡ true → is_above p m b (parent p (suc i)) ≡ true → Above a b ⊎ Above b a) → Above a b ⊎ Above b a
      by true et u eu f = inr (rw (eqb-true a (suc i) et) (as-far (suc (suc i)) (suc m) b (suc i) (omega arith) (omega arith) k ∙ r))
      by false et true eu f = inl (rw (eqb-true b (suc i) eu) (as-far (suc (suc i)) (suc m) a (suc i) (omega arith) (omega arith) k ∙ q))
      by false et false eu f = f (rw (et, is_above) at q) (rw (eu, is_above) at r)
