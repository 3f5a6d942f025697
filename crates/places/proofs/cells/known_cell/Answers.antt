-- A kind below 3 gets the tag after it.
use mathlib.Core.Path.{sym}
use borrow.Author.Tests.{lt-ltb, le-ltb}
use Rattle.plexil.proofs.ListLaws.{if-true, if-false}
use Rattle.plexil.specs.Places.{known_cell}
use Rattle.places.proofs.cells.known_cell.Goals as goal

pub returns-then-kind-lt3 : goal.returns-then-kind-lt3
unfolding known_cell
returns-then-kind-lt3 c = sym (if-true _ _ _ (lt-ltb _ _ c.if-kind-lt3.true))

pub returns-else-kind-lt3 : goal.returns-else-kind-lt3
unfolding known_cell
returns-else-kind-lt3 c = sym (if-false _ _ _ (le-ltb _ _ c.if-kind-lt3.false))
