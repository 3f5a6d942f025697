-- The rows by position and class as the code finds them, and the bounds of the tables.
use Prim.Native.Nat.{ℕ, zero, suc, ◌+◌, ◌<◌, ◌≤◌}
use mathlib.Core.Path.{◌≡◌, refl}
use mathlib.Core.Bool.{Bool, true, false, ◌&&◌}
use mathlib.Core.List.{List, [], ◌∷◌}
use native.Mathlib.Omega.{arith}
use lib.ListN.{get_or}
use lib.Dec.{leb}
use borrow.Author.Tests.{eq-eqb, ne_eqb, lt-ltb, le-ltb, leb-true}
use Rattle.recognise.specs.Tables.{bases, owners, say_numbers, nexts, refusal, row_at, row_of}

-- each number of the list is at most n
unfoldable pub at_most : ℕ → List ℕ → Bool
at_most n [] = true
at_most n (x ∷ xs) = leb x n && at_most n xs

and_left : (a b : Bool) → a && b ≡ true → a ≡ true
and_left true b h = refl
and_left false b h = h

and_right : (a b : Bool) → a && b ≡ true → b ≡ true
and_right true b h = h
and_right false b h = cc

pub get_or-at_most : (n : ℕ) (l : List ℕ) → at_most n l ≡ true → (i : ℕ) → get_or l i 0 ≤ n
unfolding at_most
get_or-at_most n [] h i = omega arith
get_or-at_most n (x ∷ xs) h zero = leb-true x n (and_left (leb x n) (at_most n xs) h)
get_or-at_most n (x ∷ xs) h (suc i) = get_or-at_most n xs (and_right (leb x n) (at_most n xs) h) i

pub base-small : (p : ℕ) → get_or bases p 0 ≤ 194
unfolding bases at_most
base-small p = get_or-at_most 194 bases refl p

pub say-small : (i : ℕ) → get_or say_numbers i 0 ≤ 93
unfolding say_numbers at_most
say-small i = get_or-at_most 93 say_numbers refl i

module _ (p k : ℕ) where
  pub row-past : 78 ≤ p → refusal ≡ row_of p k
  unfolding row_of
  row-past h = simp (le-ltb p 78 h)

  pub row-unclassed : p < 78 → 76 ≤ k → refusal ≡ row_of p k
  unfolding row_of
  row-unclassed h g = simp (lt-ltb p 78 h, le-ltb k 76 g)

  pub row_other : p < 78 → k < 76 → {b o : ℕ} → b ≡ get_or bases p 0 → o ≡ get_or owners (b + k) 0 → (o ≡ p → ⊥) → refusal ≡ row_of p k
  unfolding row_of
  row_other h g {b} {o} e f n = simp (lt-ltb p 78 h, lt-ltb k 76 g, ← e, ← f, ne_eqb o p n)

  pub row-own : p < 78 → k < 76 → {b o : ℕ} → b ≡ get_or bases p 0 → o ≡ get_or owners (b + k) 0 → o ≡ p → row_at (b + k) ≡ row_of p k
  unfolding row_of
  row-own h g {b} {o} e f n = simp (lt-ltb p 78 h, lt-ltb k 76 g, ← e, ← f, eq-eqb o p n)

pub next_small : (i : ℕ) → get_or nexts i 0 ≤ 77
unfolding nexts at_most
next_small i = get_or-at_most 77 nexts refl i
