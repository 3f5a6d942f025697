-- What is still to come, as a cursor tells it, and what a cursor hears: the sayings of the text that are still to come, silent tokens left out.
use Rattle.std.specs.Prelude.{ℕ, ◌+◌, ◌<◌, ◌≤◌, ◌-◌, ◌≡◌, not, cond, List, [], ◌∷◌, ◌++◌, length, take, drop, get_or, eqb}
use Rattle.std.proofs.Math.Option.{some}
use Rattle.grammar.specs.Table.{Item, lit, sort, Said}
use Rattle.grammar.specs.Scan.{says_from}
use Rattle.notation.specs.Sayings.{Saying}
use Rattle.notation.specs.Spoken.{spoken}
use Rattle.notation.specs.Rows.{Sort, attributes, met, notation}
use Rattle.notation.specs.Reading.{plan_says}
use Rattle.recognise.specs.declared.Ahead.{Ahead}
use Rattle.recognise.specs.declared.Cursor.{Cursor}
use Rattle.recognise.specs.Codes.{say_of, over}
use Rattle.recognise.specs.Positions.{Bottom, lists, body, expression, position_count, position_at, tower, closer, parentheses}

-- the marks are those of the attributes m
pub record Marks (m : List ℕ) (l : List ℕ) : Type 0 where
  pub size : length l ≡ 8
  pub each : (n : ℕ) → n < 8 → met n m ≡ not (eqb (get_or l n 0) 0)

-- what follows an expression: the rest of a node that has the attributes m, or the end of an assignment
unfoldable pub rear_item : List ℕ → ℕ → Item Sort
rear_item m r = cond (eqb r 0) (sort (attributes m)) (lit "}")

unfoldable pub below : List ℕ → Ahead → Bottom → List (Item Sort)
below m a lists = tower a.lists
below m a body = sort (attributes m) ∷ tower a.lists
below m a expression = parentheses a.parens ++ (rear_item m a.rear ∷ tower a.lists)

-- the items that are still to come, where the node at hand has the attributes m
unfoldable pub items_of : List ℕ → Ahead → List (Item Sort)
items_of m a = (position_at (closer a.parens) a.at).front ++ below m a (position_at (closer a.parens) a.at).bottom

-- a tells that the items s are still to come
pub record Stands (a : Ahead) (s : List (Item Sort)) : Type 0 where
  pub known : a.at < position_count
  pub had : List ℕ
  pub marked : Marks had a.met
  pub items : items_of had a ≡ s

-- at place n of the text u, with a to come, the sayings l are still to be heard, and then the text ends
pub record Hearing (u : List ℕ) (n : ℕ) (a : Ahead) (l : List (Said Saying)) : Type 0 where
  pub items : List (Item Sort)
  pub stands : Stands a items
  pub sayings : List (Said Saying)
  pub says : says_from notation items u n ≡ some sayings
  pub heard : spoken sayings ≡ l
  pub few_parens : a.parens ≤ n
  pub few_lists : a.lists ≤ n

-- sayings whose tokens end before place 262144 of the text, and are shorter than 128 bytes
abbrev pub Narrow : List (Said Saying) → Type 0
Narrow l = (i : ℕ) (w : Said Saying) (k : List (Said Saying)) → drop i l ≡ w ∷ k → (w.token.place + length w.token.bytes < 262144) × (length w.token.bytes < 128)

-- sayings that the tape has room for
pub record Brief (l : List (Said Saying)) : Type 0 where
  pub few : length l ≤ 19640
  pub narrow : Narrow l

-- of the text's sayings the cursor has heard as many as its place tells, and the sayings l are left
pub record Left (u : List ℕ) (c : Cursor) (l : List (Said Saying)) : Type 0 where
  pub whole : List (Said Saying)
  pub says : plan_says u ≡ some whole
  pub brief : Brief (spoken whole)
  pub count : c.sayings ≡ length (spoken whole)
  pub left : drop c.at (spoken whole) ≡ l

-- the cursor hears the sayings l, and then the text ends: in the text, or on the tape
unfoldable pub Hears : List ℕ → Cursor → List (Said Saying) → Type 0
Hears u c l = (c.sayings ≡ 0 → Hearing u c.at c.ahead l) × ((c.sayings ≡ 0 → ⊥) → Left u c l)

-- the bytes of u from place i up to place j
unfoldable pub piece : List ℕ → ℕ → ℕ → List ℕ
piece u i j = take (j - i) (drop i u)

-- the cursor has just heard w
pub record Heard (u : List ℕ) (c : Cursor) (w : Said Saying) : Type 0 where
  pub what : say_of c.says ≡ w.what
  pub bytes : piece u c.from c.to ≡ w.token.bytes
  pub place : c.from ≡ w.token.place

-- the cursor c has gone on to r in the text itself
pub record Scanned (u : List ℕ) (c r : Cursor) : Type 0 where
  pub more : (w : Said Saying) (l : List (Said Saying)) → Hearing u c.at c.ahead (w ∷ l) → Heard u r w × Hearing u r.at r.ahead l × (c.at < r.at)
  pub done : Hearing u c.at c.ahead [] → r.says ≡ over
  pub plain : r.sayings ≡ 0
  pub onward : c.at ≤ r.at
  pub known : r.says ≤ over
  pub ordered : r.from ≤ r.to
  pub within : r.to ≤ length u

-- opens every definition of this file
unfoldable pub opened : Unit {0}
unfolding rear_item below items_of Hears piece
opened = tt
