-- What a token of a plan's text can say, by the row that it begins.
use Rattle.std.specs.Prelude.{ℕ, Bool}

-- "Kinds: 0 Bool, 1 Int (64-bit signed), 2 Real"
pub data Kind : Type 0 where
  boolean integer float : Kind

-- what an expression can ask of a node
pub data What : Type 0 where
  status outcome failure : What

-- the operators that stand between two operands
pub data Operator : Type 0 where
  disjunction conjunction equal unequal less at_most greater at_least plus minus times : Operator

pub data Saying : Type 0 where
  -- nothing by itself
  silence : Saying
  -- declarations before the plan: the token is the name of a command, its number, the name of a lookup
  declares_command numbers_command : Saying
  declares_lookup : Kind → Saying
  -- a node begins, at its name or at its brace; what it is
  names begins opens_list closes_list calls assigns : Saying
  -- its condition of that number in the node record's order begins; its priority
  conditions : ℕ → Saying
  ranks : Saying
  -- a variable of the node, and its initial value; the Bool is the sign "-"
  declares_variable : Kind → Saying
  initial_truth initial_whole initial_decimal initial_bits : Bool → Saying
  -- a leaf of an expression; a name may turn out a variable's or the first of a path to a node
  truth whole decimal bits : Bool → Saying
  unknown : Kind → Saying
  reads mentions descends : Saying
  asks : What → Bool → ℕ → Saying
  -- NOT; an operator; parentheses; the end of the expression
  negates : Saying
  operates : Operator → Saying
  parenthesis closes ends : Saying
