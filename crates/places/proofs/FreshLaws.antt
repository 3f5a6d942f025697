-- The cells of a fresh state, made one after the other.
use Prim.Native.Nat.{ℕ}
use mathlib.Core.Path.{◌≡◌, ap, ap₂, ◌∙◌}
use mathlib.Core.List.{List, ◌∷◌}
use lib.ListN.{replicate}
use Rattle.plexil.specs.Lists.{renew}
use Rattle.plexil.specs.Image.{Image, var_count}
use Rattle.plexil.specs.Places.{state_of, initial, fresh_state}

-- the first i cells are made, their tags and their bits
abbrev pub tags_to : Image → ℕ → List ℕ
tags_to p i = renew i (λ v. (initial p v).tag) (replicate 128 0)

abbrev pub bits_to : Image → ℕ → List ℕ
bits_to p i = renew i (λ v. (initial p v).bits) (replicate 128 0)

pub all_made : (p : Image) {i : ℕ} {tags bits : List ℕ} → i ≡ var_count p → tags ≡ tags_to p i → bits ≡ bits_to p i
    → state_of (1 ∷ replicate 255 0) (replicate 256 0) (replicate 256 0) (replicate 256 0) tags bits (replicate 64 0) (replicate 64 0) ≡ fresh_state p
unfolding fresh_state
all_made p e t b =
    ap₂ (λ (x y : List ℕ). state_of (1 ∷ replicate 255 0) (replicate 256 0) (replicate 256 0) (replicate 256 0) x y (replicate 64 0) (replicate 64 0))
    (t ∙ ap (tags_to p) e) (b ∙ ap (bits_to p) e)
