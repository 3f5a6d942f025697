-- The kinds of a draft's variables, in a table of declarations.
use Rattle.std.specs.Prelude.{ℕ, ◌+◌, ◌≤◌, ◌<◌, ◌≡◌, List, length, get_or}
use Rattle.notation.specs.Draft.{Draft}
use Rattle.notation.specs.Mapping.{kind_of_variable}

-- from place 320 on there are the kinds of the variables, where they are at most 128; the places before are as they were
pub record Kinded (d : Draft) (old new : List ℕ) : Type 0 where
  pub size : length new ≡ 704
  pub kept : (i : ℕ) → i < 320 → get_or new i 0 ≡ get_or old i 0
  pub kinds : length d.variables ≤ 128 → (i : ℕ) → i < length d.variables → get_or new (320 + i) 0 ≡ kind_of_variable d.variables i
