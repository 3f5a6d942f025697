-- Laws of the tables' rows.
use Prim.Native.Nat.{ℕ, zero, suc, ◌+◌, ◌<◌, ◌≤◌, ◌-◌}
use mathlib.Core.Path.{◌≡◌, refl, ap, ◌∙◌}
use mathlib.Core.Logic.{◌⊎◌, inl, inr}
use mathlib.Core.Bool.{Bool, true, false}
use mathlib.Core.List.{List, [], ◌∷◌}
use native.Mathlib.Omega.{arith}
use native.Mathlib.Numerals.{add-one}
use lib.ListN.{length, get_or}
use Rattle.plexil.specs.Lists.{at, nowhere}
use Rattle.notation.specs.Names.{find_from}
use Rattle.names.specs.Tale.{Declared}
use Rattle.names.specs.Seek.{nobody}
use Rattle.names.specs.Tables.{row_at, rows, Fair}

-- what lies in the text lies nowhere outside it
pub outside : {a e n : ℕ} → (e < a) ⊎ (n < e) → a ≤ e → e ≤ n → ⊥
outside (inl h) x y = omega arith
outside (inr h) x y = omega arith

module _ (f : Declared → Bool) (i : ℕ) (e : Declared) (l : List Declared) where
  pub find-hit : f e ≡ true → find_from i f (e ∷ l) ≡ at i
  unfolding find_from
  find-hit z = rw (z, find_from)

  pub find-miss : f e ≡ false → find_from i f (e ∷ l) ≡ find_from (i + 1) f l
  unfolding find_from
  find-miss z = rw (z, find_from, add-one)

pub find_none : (f : Declared → Bool) (i : ℕ) → find_from i f [] ≡ nowhere
unfolding find_from
find_none f i = refl

module _ (u fs ts : List ℕ) where
  pub fair-on : (j n i : ℕ) → i < n → Fair u fs ts (j + i) (n - i) → (get_or fs (j + i) 0 ≤ get_or ts (j + i) 0) × (get_or ts (j + i) 0 ≤ length u) × Fair u fs ts (j + (i + 1)) (n - (i + 1))
  unfolding Fair
  fair-on j n i h c =
      let z : n - i ≡ suc (n - (i + 1)) = omega arith in
      let y : j + (i + 1) ≡ suc (j + i) = omega arith in
      rw y (rw z at c)

  pub fair-of : (j n i : ℕ) → i < n → Fair u fs ts j n → Fair u fs ts (j + i) 1
  unfolding Fair
  fair-of j zero i h c = absurd (omega arith)
  fair-of j (suc n) zero h c = let z : j + 0 ≡ j = omega arith in rw z (c.0, c.1, tt)
  fair-of j (suc n) (suc i) h c = let z : j + suc i ≡ suc j + i = omega arith in rw z (fair-of (suc j) n i (omega arith) c.2)

module _ (u fs ts os : List ℕ) where
  pub rows_on : (j n i : ℕ) → i < n → rows u fs ts os (j + i) (n - i) ≡ row_at u fs ts os (j + i) ∷ rows u fs ts os (j + (i + 1)) (n - (i + 1))
  unfolding rows
  rows_on j n i h =
      let z : n - i ≡ suc (n - (i + 1)) = omega arith in
      let y : j + (i + 1) ≡ suc (j + i) = omega arith in
      rw (z, y)

  pub rows_none : (j n : ℕ) → rows u fs ts os j (n - n) ≡ []
  unfolding rows
  rows_none j n = let z : n - n ≡ 0 = omega arith in rw z

  -- one row of them
  pub row_of : (j n i : ℕ) → i < n → get_or (rows u fs ts os j n) i nobody ≡ row_at u fs ts os (j + i)
  unfolding rows
  row_of j zero i h = absurd (omega arith)
  row_of j (suc n) zero h = let z : j + 0 ≡ j = omega arith in rw z
  row_of j (suc n) (suc i) h = let z : j + suc i ≡ suc j + i = omega arith in row_of (suc j) n i (omega arith) ∙ rw z

  pub rows-length : (j n : ℕ) → length (rows u fs ts os j n) ≡ n
  unfolding rows
  rows-length j zero = refl
  rows-length j (suc n) = ap suc (rows-length (suc j) n)

  pub row_zero : (f : Declared → Bool) (j n : ℕ) → Fair u fs ts j n → Fair u fs ts (j + 0) (n - 0) × (find_from 0 f (rows u fs ts os j n) ≡ find_from 0 f (rows u fs ts os (j + 0) (n - 0)))
  row_zero f j n h = let z : j + 0 ≡ j = omega arith in let y : n - 0 ≡ n = omega arith in rw (z, y) (h, refl)

  pub rows-over : (f : Declared → Bool) (j n i : ℕ) → i ≤ n → n ≤ i → find_from i f (rows u fs ts os (j + i) (n - i)) ≡ nowhere
  unfolding rows find_from
  rows-over f j n i h k = let z : n - i ≡ 0 = omega arith in rw z
