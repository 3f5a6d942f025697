-- The draft of a plan: what a text has said so far, names still as they are written.
use Rattle.std.specs.Prelude.{ℕ, List, []}
use Rattle.grammar.specs.Spelling.{Token, Placed}
use Rattle.notation.specs.Sayings.{Kind, What, Operator}

pub record Command : Type 0 where
  pub name : Token
  pub number : ℕ

pub record Lookup : Type 0 where
  pub name : Token
  pub kind : Kind

pub record Variable : Type 0 where
  pub name : Token
  pub kind : Kind
  pub owner : ℕ
  pub known : ℕ
  pub initial : ℕ

-- what a node is; an assignment's value is an entry's number
pub data Body : Type 0 where
  list : Body
  command : Token → Body
  assignment : Token → ℕ → Body

-- a node: its name, empty if it has none, where it begins in the text, and "65535 for default"
pub record Node : Type 0 where
  pub name : Token
  pub place : ℕ
  pub parent : ℕ
  pub level : ℕ
  pub priority : ℕ
  pub given : List ℕ
  pub body : Body

-- the operators of document 01 that take two operands
pub data Binary : Type 0 where
  or and eq lt le add sub mul : Binary

-- an expression's entry; operands are entries' numbers, the variables and nodes that a node names are found later
pub data Entry : Type 0 where
  constant : Kind → ℕ → Entry
  unknown_of : Kind → Entry
  variable : ℕ → Token → Entry
  lookup : Token → Entry
  about : What → ℕ → List Token → ℕ → Entry
  negation : ℕ → Entry
  two : Binary → ℕ → ℕ → Entry

-- a name in the text: a declaration by its number, or a use, by the node that uses it
pub data Mention : Type 0 where
  command lookup variable node : ℕ → Mention
  use_of_command use_of_lookup : Token → Mention
  use_of_variable : ℕ → Token → Mention
  use_of_node : ℕ → List Token → Mention

pub record Mentioned : Type 0 where
  pub mention : Mention
  pub place : ℕ

-- an operator whose right operand has not ended: NOT, or one with its left operand's entry; or an open parenthesis
pub data Pending : Type 0 where
  prefix paren : Pending
  infix' : Operator → ℕ → Pending

-- where the entry of an expression goes: the condition of that number, or an assignment's value
pub data Slot : Type 0 where
  condition : ℕ → Slot
  value : Slot

-- `above` is the list that is open, the parent of a node that begins, and `depth` how many lists are open; `held` is a name that may be
-- a variable's or begin a path
pub record Draft : Type 0 where
  pub commands : List Command
  pub lookups : List Lookup
  pub nodes : List Node
  pub variables : List Variable
  pub entries : List Entry
  pub mentions : List Mentioned
  pub above : ℕ
  pub depth : ℕ
  pub slot : Slot
  pub pending : List Pending
  pub held : List Placed

-- nothing said
abbrev pub blank : Draft
blank = record { commands = []; lookups = []; nodes = []; variables = []; entries = []; mentions = []; above = 65535; depth = 0; slot = value; pending = []; held = [] }

-- a draft with one part changed
abbrev pub with_commands : List Command → Draft → Draft
with_commands x d = record { commands = x; lookups = d.lookups; nodes = d.nodes; variables = d.variables; entries = d.entries; mentions = d.mentions; above = d.above; depth = d.depth; slot = d.slot; pending = d.pending; held = d.held }

abbrev pub with_lookups : List Lookup → Draft → Draft
with_lookups x d = record { commands = d.commands; lookups = x; nodes = d.nodes; variables = d.variables; entries = d.entries; mentions = d.mentions; above = d.above; depth = d.depth; slot = d.slot; pending = d.pending; held = d.held }

abbrev pub with_nodes : List Node → Draft → Draft
with_nodes x d = record { commands = d.commands; lookups = d.lookups; nodes = x; variables = d.variables; entries = d.entries; mentions = d.mentions; above = d.above; depth = d.depth; slot = d.slot; pending = d.pending; held = d.held }

abbrev pub with_variables : List Variable → Draft → Draft
with_variables x d = record { commands = d.commands; lookups = d.lookups; nodes = d.nodes; variables = x; entries = d.entries; mentions = d.mentions; above = d.above; depth = d.depth; slot = d.slot; pending = d.pending; held = d.held }

abbrev pub with_entries : List Entry → Draft → Draft
with_entries x d = record { commands = d.commands; lookups = d.lookups; nodes = d.nodes; variables = d.variables; entries = x; mentions = d.mentions; above = d.above; depth = d.depth; slot = d.slot; pending = d.pending; held = d.held }

abbrev pub with_mentions : List Mentioned → Draft → Draft
with_mentions x d = record { commands = d.commands; lookups = d.lookups; nodes = d.nodes; variables = d.variables; entries = d.entries; mentions = x; above = d.above; depth = d.depth; slot = d.slot; pending = d.pending; held = d.held }

abbrev pub with_lists : ℕ → ℕ → Draft → Draft
with_lists a n d = record { commands = d.commands; lookups = d.lookups; nodes = d.nodes; variables = d.variables; entries = d.entries; mentions = d.mentions; above = a; depth = n; slot = d.slot; pending = d.pending; held = d.held }

abbrev pub with_slot : Slot → Draft → Draft
with_slot x d = record { commands = d.commands; lookups = d.lookups; nodes = d.nodes; variables = d.variables; entries = d.entries; mentions = d.mentions; above = d.above; depth = d.depth; slot = x; pending = d.pending; held = d.held }

abbrev pub with_pending : List Pending → Draft → Draft
with_pending x d = record { commands = d.commands; lookups = d.lookups; nodes = d.nodes; variables = d.variables; entries = d.entries; mentions = d.mentions; above = d.above; depth = d.depth; slot = d.slot; pending = x; held = d.held }

abbrev pub with_held : List Placed → Draft → Draft
with_held x d = record { commands = d.commands; lookups = d.lookups; nodes = d.nodes; variables = d.variables; entries = d.entries; mentions = d.mentions; above = d.above; depth = d.depth; slot = d.slot; pending = d.pending; held = x }

-- a node with its priority, a condition or its body changed; a variable with its initial value; a command with its number
abbrev pub with_priority : ℕ → Node → Node
with_priority x n = record { name = n.name; place = n.place; parent = n.parent; level = n.level; priority = x; given = n.given; body = n.body }

abbrev pub with_given : List ℕ → Node → Node
with_given x n = record { name = n.name; place = n.place; parent = n.parent; level = n.level; priority = n.priority; given = x; body = n.body }

abbrev pub with_body : Body → Node → Node
with_body x n = record { name = n.name; place = n.place; parent = n.parent; level = n.level; priority = n.priority; given = n.given; body = x }

abbrev pub with_initial : ℕ → Variable → Variable
with_initial x v = record { name = v.name; kind = v.kind; owner = v.owner; known = 1; initial = x }

abbrev pub with_number : ℕ → Command → Command
with_number x c = record { name = c.name; number = x }
