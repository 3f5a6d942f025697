-- The lowest record that breaks a rule, as the code answers it.
use Rattle.std.specs.Prelude.{ℕ, ◌≡◌, Option}
use Rattle.plexil.specs.declared.Rule.{Rule}
use Rattle.plexil.specs.Lists.{Found, first}
use Rattle.plexil.specs.Searches.{found_of}
use Rattle.plexil.specs.Image.{Image}
use Rattle.plexil.specs.Check.{records, breaks}

abbrev pub lowest_broken : Rule → Image → Found
lowest_broken r p = first (records r p) (breaks r p)

-- "Any two replies it permits are proved equal": the contract of each search is this equation
abbrev pub OneFound : Type 0
OneFound = (r : Rule) (p : Image) (a b : Option ℕ) → found_of a ≡ lowest_broken r p → found_of b ≡ lowest_broken r p → a ≡ b
