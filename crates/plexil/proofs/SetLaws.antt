-- What stands in a list after a set: the new at its place, the old elsewhere.
use Prim.Native.Nat.{ℕ, zero, suc}
use mathlib.Core.Path.{◌≡◌, refl, ap}
use mathlib.Core.List.{List, [], ◌∷◌}
use native.Mathlib.Omega.{arith}
use lib.ListN.{get_or, set, length}

pub set-either : (P : ℕ → Type 0) (l : List ℕ) (j i x : ℕ) → (i ≡ j → P x) → P (get_or l i 0) → P (get_or (set l j x) i 0)
set-either P [] j i x new old = old
set-either P (y ∷ ys) zero zero x new old = new refl
set-either P (y ∷ ys) zero (suc i) x new old = old
set-either P (y ∷ ys) (suc j) zero x new old = old
set-either P (y ∷ ys) (suc j) (suc i) x new old = set-either P ys j i x (λ e. new (ap suc e)) old

-- the same of two lists of one length
pub set_both : (P : ℕ → ℕ → Type 0) (l m : List ℕ) (j i x y : ℕ) → length l ≡ length m → (i ≡ j → P x y) → P (get_or l i 0) (get_or m i 0)
    → P (get_or (set l j x) i 0) (get_or (set m j y) i 0)
set_both P [] [] j i x y e new old = old
set_both P [] (w ∷ m) j i x y e new old = absurd (omega arith)
set_both P (v ∷ l) [] j i x y e new old = absurd (omega arith)
set_both P (v ∷ l) (w ∷ m) zero zero x y e new old = new refl
set_both P (v ∷ l) (w ∷ m) zero (suc i) x y e new old = old
set_both P (v ∷ l) (w ∷ m) (suc j) zero x y e new old = old
set_both P (v ∷ l) (w ∷ m) (suc j) (suc i) x y e new old = set_both P l m j i x y (omega arith) (λ e. new (ap suc e)) old
