-- The image of a draft whose names are in order: its records, nodes, variables and lookups in text order, entries as their operators end.
use Rattle.std.specs.Prelude.{ℕ, zero, suc, ◌+◌, ◌*◌, Bool, List, [], ◌∷◌, ◌++◌, length, get_or, leb}
use Rattle.plexil.specs.Lists.{every, Found, at, nowhere}
use Rattle.plexil.specs.Assemble as Assemble
use Rattle.notation.specs.Sayings.{Kind, boolean, integer, float, What, status, outcome, failure}
use Rattle.notation.specs.Draft.{Command, Lookup, Variable, Body, list, assignment, Node, Binary, or, and, eq, lt, le, add, sub, mul, Entry, constant, unknown_of, about, negation, two, Draft}
use Rattle.notation.specs.Names.{command_of, lookup_of, variable_of, node_of}

-- "0 Bool, 1 Int .., 2 Real"
unfoldable pub kind_code : Kind → ℕ
kind_code boolean = 0
kind_code integer = 1
kind_code float = 2

-- "3 status of node a is b; 4 outcome ..; 5 failure"
unfoldable pub what_code : What → ℕ
what_code status = 3
what_code outcome = 4
what_code failure = 5

-- "7 AND; 8 OR; 9 EQ; 10 LT; 11 LE; 12 ADD; 13 SUB; 14 MUL"
unfoldable pub binary_code : Binary → ℕ
binary_code or = 8
binary_code and = 7
binary_code eq = 9
binary_code lt = 10
binary_code le = 11
binary_code add = 12
binary_code sub = 13
binary_code mul = 14

-- a name's number; a name that is not in order has none, and no image is made then
unfoldable pub number_of : Found → ℕ
number_of (at i) = i
number_of nowhere = 0

unfoldable pub kind_of_variable : List Variable → ℕ → ℕ
kind_of_variable [] i = 0
kind_of_variable (v ∷ vs) zero = kind_code v.kind
kind_of_variable (v ∷ vs) (suc i) = kind_of_variable vs i

unfoldable pub kind_of_lookup : List Lookup → ℕ → ℕ
kind_of_lookup [] i = 0
kind_of_lookup (l ∷ ls) zero = kind_code l.kind
kind_of_lookup (l ∷ ls) (suc i) = kind_of_lookup ls i

unfoldable pub number_of_command : List Command → ℕ → ℕ
number_of_command [] i = 0
number_of_command (c ∷ cs) zero = c.number
number_of_command (c ∷ cs) (suc i) = number_of_command cs i

-- "12 to 14 keep that kind, 3 to 11 give Bool": the kind of the operand a, where the operator keeps it
unfoldable pub kind_of_binary : Binary → ℕ → ℕ
kind_of_binary or k = 0
kind_of_binary and k = 0
kind_of_binary eq k = 0
kind_of_binary lt k = 0
kind_of_binary le k = 0
kind_of_binary add k = k
kind_of_binary sub k = k
kind_of_binary mul k = k

-- an entry's kind, after those of the entries before it
unfoldable pub kind_of_entry : Draft → List ℕ → Entry → ℕ
kind_of_entry d ks (constant k c) = kind_code k
kind_of_entry d ks (unknown_of k) = kind_code k
kind_of_entry d ks (Entry.variable n x) = kind_of_variable d.variables (number_of (variable_of d n x))
kind_of_entry d ks (Entry.lookup x) = kind_of_lookup d.lookups (number_of (lookup_of d x))
kind_of_entry d ks (about w n xs k) = 0
kind_of_entry d ks (negation a) = 0
kind_of_entry d ks (two o a b) = kind_of_binary o (get_or ks a 0)

-- "Expression, 16 bytes"
unfoldable pub entry_bytes : Draft → List ℕ → Entry → List ℕ
entry_bytes d ks (constant k c) = Assemble.expr 0 (kind_code k) 0 1 c
entry_bytes d ks (unknown_of k) = Assemble.expr 0 (kind_code k) 0 0 0
entry_bytes d ks (Entry.variable n x) = let v = number_of (variable_of d n x) in Assemble.expr 1 (kind_of_variable d.variables v) v 0 0
entry_bytes d ks (Entry.lookup x) = let l = number_of (lookup_of d x) in Assemble.expr 2 (kind_of_lookup d.lookups l) l 0 0
entry_bytes d ks (about w n xs k) = Assemble.expr (what_code w) 0 (number_of (node_of d n xs)) k 0
entry_bytes d ks (negation a) = Assemble.expr 6 0 a 0 0
entry_bytes d ks (two o a b) = Assemble.expr (binary_code o) (kind_of_binary o (get_or ks a 0)) a b 0

unfoldable pub all_entries : Draft → List ℕ → List Entry → List (List ℕ)
all_entries d ks [] = []
all_entries d ks (e ∷ es) = entry_bytes d ks e ∷ all_entries d (ks ++ (kind_of_entry d ks e ∷ [])) es

-- "Node, 24 bytes"; the node has the number i
unfoldable pub node_bytes : Draft → ℕ → Node → Body → List ℕ
node_bytes d i n list = Assemble.node n.parent 0 n.priority n.given 65535 65535
node_bytes d i n (Body.command c) = Assemble.node n.parent 1 n.priority n.given (number_of_command d.commands (number_of (command_of d c))) 65535
node_bytes d i n (assignment x e) = Assemble.node n.parent 2 n.priority n.given (number_of (variable_of d i x)) e

unfoldable pub all_nodes : Draft → ℕ → List Node → List (List ℕ)
all_nodes d i [] = []
all_nodes d i (n ∷ ns) = node_bytes d i n n.body ∷ all_nodes d (suc i) ns

-- "Variable, 16 bytes"
unfoldable pub all_variables : List Variable → List (List ℕ)
all_variables [] = []
all_variables (v ∷ vs) = Assemble.variable (kind_code v.kind) v.known v.owner v.initial ∷ all_variables vs

-- "Lookup, 2 bytes"
unfoldable pub all_lookups : List Lookup → List (List ℕ)
all_lookups [] = []
all_lookups (l ∷ ls) = Assemble.lookup (kind_code l.kind) ∷ all_lookups ls

-- the image
unfoldable pub image_of : Draft → List ℕ
image_of d = Assemble.plan (all_nodes d 0 d.nodes) (all_entries d [] d.entries) (all_variables d.variables) (all_lookups d.lookups)

-- "N (1..256), .. E (0..2048), .. V (0..128), .. L (0..64)"
unfoldable pub within_counts : Draft → Bool
within_counts d = every (leb (length d.nodes) 256 ∷ leb (length d.entries) 2048 ∷ leb (length d.variables) 128 ∷ leb (length d.lookups) 64 ∷ [])

-- how long the image is
unfoldable pub image_length : Draft → ℕ
image_length d = 20 + 24 * length d.nodes + 16 * length d.entries + 16 * length d.variables + 2 * length d.lookups

-- opens every definition of this file
unfoldable pub opened : Unit {0}
unfolding kind_code what_code binary_code number_of kind_of_variable kind_of_lookup number_of_command kind_of_binary kind_of_entry entry_bytes all_entries node_bytes all_nodes all_variables all_lookups image_of within_counts image_length
opened = tt
