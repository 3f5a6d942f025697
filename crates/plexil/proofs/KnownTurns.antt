-- A turn's tests and answers: every case of the table passes, worked out by the definitions themselves.
use mathlib.Core.Path.{◌≡◌, refl}
use mathlib.Core.Bool.{true}
use Rattle.plexil.specs.Everything as Everything
use Rattle.plexil.specs.Play as Play
use Rattle.plexil.specs.KnownTurns as Table

pub known-turns : Play.all_pass Table.known_turns ≡ true
unfolding Everything.opened Table.opened
known-turns = refl
