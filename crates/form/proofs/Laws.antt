-- Tests in two parts, and places from a count on.
use Prim.Native.Nat.{ℕ}
use mathlib.Core.Path.{◌≡◌, refl, sym, ap, ◌∙◌}
use mathlib.Core.Bool.{Bool, true, false}
use mathlib.Core.List.{List, [], ◌∷◌, ◌++◌}
use Rattle.plexil.specs.Lists.{when◌then◌else◌, every}
use Rattle.plexil.specs.Form.{zero_from}
use Rattle.plexil.proofs.ListLaws.{if-same, not-both, every-nil}

-- ---- tests one after the other in two parts
pub part-fails : (bs cs : List Bool) → every bs ≡ false → false ≡ every (bs ++ cs)
unfolding every when◌then◌else◌
part-fails [] cs h = absurd (not-both _ every-nil h)
part-fails (true ∷ bs) cs h = part-fails bs cs h
part-fails (false ∷ bs) cs h = refl

pub part_then : (bs cs : List Bool) {r : Bool} → every bs ≡ true → r ≡ every cs → r ≡ every (bs ++ cs)
unfolding every when◌then◌else◌
part_then [] cs e h = h
part_then (true ∷ bs) cs e h = part_then bs cs e h
part_then (false ∷ bs) cs e h = absurd (not-both _ e refl)

-- one test that decides, inside tests that pass
pub decides : (b : Bool) → b ≡ (when (when b then true else false) then true else false)
decides b = sym (if-same (when b then true else false) ∙ if-same b)

-- places from n on, n being the count m
pub nodes-at : (n m : ℕ) (a b c d : List ℕ) {r : Bool} → n ≡ m → r ≡ every (zero_from n a ∷ zero_from n b ∷ zero_from n c ∷ zero_from n d ∷ [])
    → r ≡ every (zero_from m a ∷ zero_from m b ∷ zero_from m c ∷ zero_from m d ∷ [])
nodes-at n m a b c d e h = h ∙ ap (λ (k : ℕ). every (zero_from k a ∷ zero_from k b ∷ zero_from k c ∷ zero_from k d ∷ [])) e

pub cells_at : (n m : ℕ) (a b : List ℕ) {r : Bool} → n ≡ m → r ≡ every (zero_from n a ∷ zero_from n b ∷ []) → r ≡ every (zero_from m a ∷ zero_from m b ∷ [])
cells_at n m a b e h = h ∙ ap (λ (k : ℕ). every (zero_from k a ∷ zero_from k b ∷ [])) e
