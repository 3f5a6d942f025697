-- The table of answers: for each entry the cell that keeps its value in a state.
use Rattle.std.specs.Prelude.{ℕ, ◌<◌, ◌≡◌, List, get_or}
use Rattle.plexil.specs.declared.Worked.{Worked}
use Rattle.plexil.specs.declared.Cell.{Cell}
use Rattle.plexil.specs.declared.State.{State}
use Rattle.plexil.specs.Values.{decode, encode}
use Rattle.plexil.specs.Image.{Image, expr_count}
use Rattle.plexil.specs.Places.{Seen, seen}
use Rattle.plexil.specs.Expressions.{value_of}
use Rattle.plexil.specs.Promises.{IsAdmitted, IsKept}

-- how entry e's value is kept
unfoldable pub answer : Image → Seen → ℕ → Cell
answer p r e = encode (value_of p r e)

-- what a table tells of entry e
abbrev pub told : List ℕ → List ℕ → ℕ → Worked
told tags bits e = decode (get_or tags e 0) (get_or bits e 0)

-- place e of a table holds the cell
pub record HasCell (tags bits : List ℕ) (e : ℕ) (c : Cell) : Type 0 where
  pub tag : get_or tags e 0 ≡ c.tag
  pub bit : get_or bits e 0 ≡ c.bits

-- the first n entries are answered
abbrev pub Below : Image → Seen → ℕ → List ℕ → List ℕ → Type 0
Below p r n tags bits = (e : ℕ) → e < n → HasCell tags bits e (answer p r e)

-- the table of a kept state of an admitted plan: all entries are answered
pub record IsTable (p : Image) (s : State) (tags bits : List ℕ) : Type 0 where
  pub admitted : IsAdmitted p
  pub kept : IsKept p s
  pub right : Below p (seen s) (expr_count p) tags bits

-- such a table tells each entry's value
abbrev pub TableTells : Type 0
TableTells =
    (p : Image) (s : State) (tags bits : List ℕ) → IsTable p s tags bits → (e : ℕ) → e < expr_count p → told tags bits e ≡ value_of p (seen s) e

-- opens every definition of this file
unfoldable pub opened : Unit {0}
unfolding answer
opened = tt
