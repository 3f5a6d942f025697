-- Tables of declarations: a row a declaration, the sorts one after another, in an array for each field.
use Rattle.std.specs.Prelude.{ℕ, zero, suc, ◌<◌, ◌≤◌, ◌≡◌, true, cond, List, [], ◌∷◌, eqb, length, get_or}
use Rattle.recognise.specs.Hears.{piece}
use Rattle.recognise.specs.Tape.{Tape}
use Rattle.grammar.specs.Table.{Said}
use Rattle.notation.specs.Sayings.{Saying}
use Rattle.names.specs.declared.table.Told.{Told}
use Rattle.names.specs.declared.table.Tables.{Tables}
use Rattle.names.specs.Answers.{tale_said}
use Rattle.names.specs.Judging.{count_no}
use Rattle.names.specs.Tale.{Declared, Tale, list_of}

-- where the rows of a sort begin, and how many there can be: 256 commands, 64 lookups, 128 variables, 256 nodes
unfoldable pub base_of : ℕ → ℕ
base_of k = cond (eqb k 0) 0 (cond (eqb k 1) 256 (cond (eqb k 2) 320 448))

unfoldable pub room_of : ℕ → ℕ
room_of k = cond (eqb k 0) 256 (cond (eqb k 1) 64 (cond (eqb k 2) 128 256))

unfoldable pub count_of : Told → ℕ → ℕ
count_of t k = cond (eqb k 0) t.commands (cond (eqb k 1) t.lookups (cond (eqb k 2) t.variables t.nodes))

-- the row at place j: from where to where the name stands, and its owner
unfoldable pub row_at : List ℕ → List ℕ → List ℕ → List ℕ → ℕ → Declared
row_at u fs ts os j = record { name = piece u (get_or fs j 0) (get_or ts j 0); owner = get_or os j 0 }

-- the n rows from place j on
unfoldable pub rows : List ℕ → List ℕ → List ℕ → List ℕ → ℕ → ℕ → List Declared
rows u fs ts os j zero = []
rows u fs ts os j (suc n) = row_at u fs ts os j ∷ rows u fs ts os (suc j) n

-- their names lie in the text
unfoldable pub Fair : List ℕ → List ℕ → List ℕ → ℕ → ℕ → Type 0
Fair u fs ts j zero = Unit {0}
Fair u fs ts j (suc n) = (get_or fs j 0 ≤ get_or ts j 0) × (get_or ts j 0 ≤ length u) × Fair u fs ts (suc j) n

-- the rows of the sort k are the tale's declarations
pub record TabledSort (u : List ℕ) (b : Tale) (fs ts os : List ℕ) (t : Told) (k : ℕ) : Type 0 where
  pub room : count_of t k ≤ room_of k
  pub fair : Fair u fs ts (base_of k) (count_of t k)
  pub same : rows u fs ts os (base_of k) (count_of t k) ≡ list_of k b

-- the tables have the whole tale b of the text u, if they say so; behind the owners lies the text's tape
pub record Ready (u : List ℕ) (b : Tale) (fs ts os : List ℕ) (t : Told) : Type 0 where
  pub tabled : t.whole ≡ true → (k : ℕ) → k < 4 → TabledSort u b fs ts os t k
  pub tape : Tape u os

-- the lent tables are those of their text, which says l
abbrev pub Prepared : Tables → List (Said Saying) → Type 0
Prepared t l = Ready t.text.now (tale_said l) t.from.now t.to.now t.owner.now t.told

-- the counts with one more of the sort
unfoldable pub more_of : Told → ℕ → Told
more_of t s = record { whole = t.whole; commands = count_no s 0 t.commands; lookups = count_no s 1 t.lookups; variables = count_no s 2 t.variables; nodes = count_no s 3 t.nodes }

-- no count is past its room
pub record Roomy (t : Told) : Type 0 where
  pub commands : t.commands ≤ 256
  pub lookups : t.lookups ≤ 64
  pub variables : t.variables ≤ 128
  pub nodes : t.nodes ≤ 256

-- the tale is within the limits
unfoldable pub Within : Tale → Type 0
Within b = (k : ℕ) → k < 4 → length (list_of k b) ≤ room_of k

-- what filling the tables answers for an accepted text
pub record Filled (u : List ℕ) (b : Tale) (fs ts os : List ℕ) (t : Told) : Type 0 where
  pub ready : Ready u b fs ts os t
  pub within : Within b → t.whole ≡ true

-- opens every definition of this file
unfoldable pub opened : Unit {0}
unfolding base_of room_of count_of row_at rows Fair more_of Within
opened = tt
