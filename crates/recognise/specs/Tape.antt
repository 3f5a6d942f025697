-- The tape: the sayings of a text in an array behind the owners of its declarations, a number for each, and what a cursor hears from it.
use Rattle.std.specs.Prelude.{ℕ, suc, ◌+◌, ◌*◌, ◌/◌, ◌%◌, ◌-◌, ◌<◌, ◌≤◌, ◌≡◌, ◌⊎◌, cond, List, [], ◌∷◌, eqb, ltb, length, drop, get_or, set}
use Rattle.std.proofs.Math.Option.{some}
use Rattle.grammar.specs.Table.{Said}
use Rattle.notation.specs.Sayings.{Saying}
use Rattle.notation.specs.Spoken.{spoken}
use Rattle.notation.specs.Reading.{plan_says}
use Rattle.recognise.specs.declared.Cursor.{Cursor}
use Rattle.recognise.specs.Codes.{say_of, over}
use Rattle.recognise.specs.Hears.{Brief, Hears, Heard, piece}

-- a saying's number, where its token begins and how long it is, in one number
abbrev pub packed : ℕ → ℕ → ℕ → ℕ
packed says i j = says + 128 * i + 33554432 * (j - i)

abbrev pub says_in : ℕ → ℕ
says_in v = v % 128

abbrev pub from_in : ℕ → ℕ
from_in v = v / 128 % 262144

abbrev pub to_in : ℕ → ℕ
to_in v = from_in v + v / 33554432

-- the saying i, as it is kept: a place has two
unfoldable pub held_in : List ℕ → ℕ → ℕ
held_in os i = cond (eqb (i % 2) 0) (get_or os (705 + i / 2) 0 % 4294967296) (get_or os (705 + i / 2) 0 / 4294967296)

-- v is kept as the saying i
unfoldable pub holding : List ℕ → ℕ → ℕ → List ℕ
holding os i v = set os (705 + i / 2) (cond (eqb (i % 2) 0) v (get_or os (705 + i / 2) 0 % 4294967296 + 4294967296 * v))

-- the number v tells of w, whose token lies in the text
pub record Tells (u : List ℕ) (v : ℕ) (w : Said Saying) : Type 0 where
  pub known : says_in v ≤ 93
  pub what : say_of (says_in v) ≡ w.what
  pub ordered : from_in v ≤ to_in v
  pub within : to_in v ≤ length u
  pub bytes : piece u (from_in v) (to_in v) ≡ w.token.bytes
  pub place : from_in v ≡ w.token.place

-- the array has the sayings l of the text u from place 705 on, two in a place
abbrev pub Has : List ℕ → List ℕ → List (Said Saying) → Type 0
Has u os l = (i : ℕ) (w : Said Saying) (k : List (Said Saying)) → drop i l ≡ w ∷ k → Tells u (held_in os i) w

-- the array tells how many sayings it has of a text that is of the notation, and has them
pub record Taped (u os : List ℕ) (l : List (Said Saying)) : Type 0 where
  pub count : (get_or os 704 0 ≡ 0) ⊎ ((get_or os 704 0 ≡ length l) × Brief l)
  pub has : Brief l → Has u os l

unfoldable pub Tape : List ℕ → List ℕ → Type 0
Tape u os = (l : List (Said Saying)) → plan_says u ≡ some l → Taped u os (spoken l)

-- the number that is told of the sayings of a text
unfoldable pub sealed : ℕ → ℕ
sealed i = cond (ltb 19640 i) 0 i

-- a token is kept after i sayings where there is room, and there are r then, or not all are kept
pub record Winds (os : List ℕ) (i says from to r : ℕ) (after : List ℕ) : Type 0 where
  pub silent : says ≡ 0 → (r ≡ i) × (after ≡ os)
  pub kept : (says ≡ 0 → ⊥) → i < 19640 → to < 262144 → to - from < 128 → (r ≡ suc i) × (after ≡ holding os i (packed says from to))
  pub room : (says ≡ 0 → ⊥) → r ≤ 19640 → (i < 19640) × (to < 262144) × (to - from < 128)
  pub size : length after ≡ length os

-- the cursor c has gone on to r
pub record Advanced (u os : List ℕ) (c r : Cursor) : Type 0 where
  pub more : Tape u os → (w : Said Saying) (l : List (Said Saying)) → Hears u c (w ∷ l) → Heard u r w × Hears u r l × (c.at < r.at)
  pub done : Hears u c [] → r.says ≡ over
  pub onward : c.at ≤ r.at
  pub known : r.says ≤ over
  pub ordered : r.from ≤ r.to
  pub within : r.to ≤ length u

-- at the beginning it hears what the text says
unfoldable pub Begun : List ℕ → Cursor → Type 0
Begun os c = (u : List ℕ) (l : List (Said Saying)) → plan_says u ≡ some l → Tape u os → Hears u c (spoken l)

-- opens every definition of this file
unfoldable pub opened : Unit {0}
unfolding held_in holding Tape sealed Begun
opened = tt
