-- The limits and the length of an image, by the counts of a text.
use Rattle.std.specs.Prelude.{ℕ, ◌+◌, ◌*◌, Bool, [], ◌∷◌, leb}
use Rattle.plexil.specs.Lists.{every}
use Rattle.recognise.specs.declared.Recognised.{Recognised}

unfoldable pub fits : Recognised → Bool
fits r = every (leb r.nodes 256 ∷ leb r.entries 2048 ∷ leb r.variables 128 ∷ leb r.lookups 64 ∷ [])

unfoldable pub length_of : Recognised → ℕ
length_of r = 20 + 24 * r.nodes + 16 * r.entries + 16 * r.variables + 2 * r.lookups
