-- The order in which a text's tokens speak, those that say nothing left out: `X l k` says that the sayings l begin with a phrase X and go on with k.
use Rattle.std.specs.Prelude.{ℕ, ◌≡◌, Bool, List, [], ◌∷◌}
use Rattle.grammar.specs.Table.{Said}
use Rattle.notation.specs.Sayings.{Kind, What, Operator, Saying, declares_command, numbers_command, declares_lookup, names, begins, opens_list, closes_list, calls, assigns, conditions, ranks, declares_variable, initial_truth, initial_whole, initial_decimal, initial_bits, truth, whole, decimal, bits, unknown, reads, mentions, descends, asks, negates, operates, parenthesis, closes, ends}

abbrev pub Sayings : Type 0
Sayings = List (Said Saying)

-- the first token says x
abbrev pub Says : Said Saying → Saying → Type 0
Says w x = w.what ≡ x

-- a leaf that is one token
pub data Leaf : Saying → Type 0 where
  is-truth : (b : Bool) → Leaf (truth b)
  is_whole : (b : Bool) → Leaf (whole b)
  is-decimal : (b : Bool) → Leaf (decimal b)
  is-bits : (b : Bool) → Leaf (bits b)
  is-unknown : (k : Kind) → Leaf (unknown k)
  is-lookup : Leaf reads

-- the parts of a path after its first, and the question that ends it
pub data Path : Sayings → Sayings → Type 0 where
  asked : {w : Said Saying} {k : Sayings} (a : What) (n : Bool) (c : ℕ) → Says w (asks a n c) → Path (w ∷ k) k
  part : {w : Said Saying} {l k : Sayings} → Says w descends → Path l k → Path (w ∷ l) k

mutual
  pub data Operand : Sayings → Sayings → Type 0 where
    leaf : {w : Said Saying} {k : Sayings} → Leaf w.what → Operand (w ∷ k) k
    variable : {w : Said Saying} {k : Sayings} → Says w mentions → Operand (w ∷ k) k
    path : {w : Said Saying} {l k : Sayings} → Says w mentions → Path l k → Operand (w ∷ l) k
    not : {w : Said Saying} {l k : Sayings} → Says w negates → Operand l k → Operand (w ∷ l) k
    group : {w c : Said Saying} {l k : Sayings} → Says w parenthesis → Chain l (c ∷ k) → Says c closes → Operand (w ∷ l) k

  -- operands with operators between them
  pub data Chain : Sayings → Sayings → Type 0 where
    one : {l k : Sayings} → Operand l k → Chain l k
    more : {w : Said Saying} {l m k : Sayings} (o : Operator) → Operand l (w ∷ m) → Says w (operates o) → Chain m k → Chain l k

-- an expression with its end
pub data Expression : Sayings → Sayings → Type 0 where
  ended : {w : Said Saying} {l k : Sayings} → Chain l (w ∷ k) → Says w ends → Expression l k

-- an initial value
pub data Initial : Saying → Type 0 where
  is-truth : (b : Bool) → Initial (initial_truth b)
  is_whole : (b : Bool) → Initial (initial_whole b)
  is-decimal : (b : Bool) → Initial (initial_decimal b)
  is-bits : (b : Bool) → Initial (initial_bits b)

-- how a node begins
pub data Opening : Saying → Type 0 where
  named : Opening names
  unnamed : Opening begins

mutual
  pub data Node : Sayings → Sayings → Type 0 where
    node : {w : Said Saying} {l k : Sayings} → Opening w.what → Attributes l k → Node (w ∷ l) k

  -- what a node says of itself, and at last what it is
  pub data Attributes : Sayings → Sayings → Type 0 where
    condition : {w : Said Saying} {l m k : Sayings} (i : ℕ) → Says w (conditions i) → Expression l m → Attributes m k → Attributes (w ∷ l) k
    rank : {w : Said Saying} {l k : Sayings} → Says w ranks → Attributes l k → Attributes (w ∷ l) k
    variable : {w : Said Saying} {l k : Sayings} (a : Kind) → Says w (declares_variable a) → Attributes l k → Attributes (w ∷ l) k
    initial : {w : Said Saying} {l k : Sayings} → Initial w.what → Attributes l k → Attributes (w ∷ l) k
    list : {w : Said Saying} {l k : Sayings} → Says w opens_list → Nodes l k → Attributes (w ∷ l) k
    command : {w : Said Saying} {k : Sayings} → Says w calls → Attributes (w ∷ k) k
    assignment : {w : Said Saying} {l k : Sayings} → Says w assigns → Expression l k → Attributes (w ∷ l) k

  -- the nodes of a list, and its end
  pub data Nodes : Sayings → Sayings → Type 0 where
    closed : {w : Said Saying} {k : Sayings} → Says w closes_list → Nodes (w ∷ k) k
    also : {l m k : Sayings} → Node l m → Nodes m k → Nodes l k

-- declarations, and the plan's node
pub data Plan : Sayings → Type 0 where
  root : {l : Sayings} → Node l [] → Plan l
  lookup : {w : Said Saying} {l : Sayings} (a : Kind) → Says w (declares_lookup a) → Plan l → Plan (w ∷ l)
  command : {w v : Said Saying} {l : Sayings} → Says w declares_command → Says v numbers_command → Plan l → Plan (w ∷ (v ∷ l))
