-- How the code's searches below n answer: Some of the lowest number that passes, None where none does.
use Rattle.std.specs.Prelude.{ℕ, Option, Some, None}
use Rattle.plexil.specs.Lists.{Found, at, nowhere}

abbrev pub found_of : Option ℕ → Found
found_of (Some k) = at k
found_of None = nowhere
