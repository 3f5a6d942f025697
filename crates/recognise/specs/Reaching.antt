-- What the end of the loop over a text's tokens tells.
use Rattle.std.specs.Prelude.{ℕ, zero, suc, ◌+◌, ◌<◌, ◌≤◌, Bool, true, false, ◌&&◌, cond, List, length, eqb, ltb}
use Rattle.grammar.specs.Spelling.{Token}
use Rattle.words.specs.Viable.{viable_class}
use Rattle.recognise.specs.declared.Ahead.{Ahead}
use Rattle.recognise.specs.declared.taking.Halt.{Halt}
use Rattle.recognise.specs.declared.taking.Halt.TheVariants as halt
use Rattle.recognise.specs.declared.Counts.{Counts}
use Rattle.recognise.specs.declared.Recognised.{Recognised}
use Rattle.recognise.specs.Steps.{step_of}
use Rattle.recognise.specs.Hears.{piece}

-- nothing is to come: no list is open after the end of a node
abbrev pub empty_at : Ahead → Bool
empty_at a = eqb a.at 1 && eqb a.lists 0

-- the text has no token more, and nothing is to come
unfoldable pub whole_at : Halt → Ahead → Bool
whole_at halt.Done a = empty_at a
whole_at (halt.Broken b) a = false
whole_at (halt.Refused t) a = false

abbrev pub tallied : Counts → Recognised
tallied c = record { accepted = true; reach = 0; deep = c.deep; place = c.place; nodes = c.nodes; entries = c.entries; variables = c.variables; lookups = c.lookups; commands = c.commands }

-- the more of n and of how much of t can begin a token of class k, where one can come
unfoldable pub more_of : Token → Ahead → ℕ → ℕ → ℕ
more_of t a n k = cond (step_of a k).ok (cond (ltb n (viable_class k t)) (viable_class k t) n) n

-- the most over the classes below k
unfoldable pub viable_from : Token → Ahead → ℕ → ℕ → ℕ
viable_from t a n zero = n
viable_from t a n (suc k) = viable_from t a (more_of t a n k) k

-- how far a text is viable that ends, breaks, or cannot go on with the token
unfoldable pub reached_by : List ℕ → Halt → Ahead → ℕ
reached_by u halt.Done a = length u
reached_by u (halt.Broken b) a = b.to
reached_by u (halt.Refused t) a = t.from + viable_from (piece u t.from t.to) a 0 76

-- the token lies in the text, and what is viable of it ends in a count
pub record Within (u : List ℕ) (from to : ℕ) (a : Ahead) : Type 0 where
  pub ordered : from ≤ to
  pub high : to ≤ length u
  pub counted : from + viable_from (piece u from to) a 0 76 < 18446744073709551616

unfoldable pub Lies : List ℕ → Halt → Ahead → Type 0
Lies u halt.Done a = Unit {0}
Lies u (halt.Broken b) a = Unit {0}
Lies u (halt.Refused t) a = Within u t.from t.to a

-- opens every definition of this file
unfoldable pub opened : Unit {0}
unfolding whole_at more_of viable_from reached_by Lies
opened = tt
