-- Plans apart from any text: expressions over document 01's operators, nodes of each type with any conditions, priority and variables; and the records that they are.
use Rattle.std.specs.Prelude.{ℕ, suc, ◌≤◌, ◌<◌, ◌≡◌, Bool, true, ◌||◌, ◌&&◌, List, [], ◌∷◌, length, set, leb}
use Rattle.std.proofs.Math.Option.{Option, none, some}
use Rattle.grammar.specs.Spelling.{Token}
use Rattle.grammar.specs.Leads.{name, accepts}
use Rattle.notation.specs.Sayings.{Kind, boolean, integer, float, What}
use Rattle.notation.specs.Rows.{reserved, code_words}
use Rattle.notation.specs.Draft.{Command, Lookup, Variable, Body, Node, Binary, Entry, negation, about}
use Rattle.notation.specs.Hearing.{◌▸◌, last, no_conditions}

-- an expression; a node is asked by a path of names, its first and the others
pub data Expr : Type 0 where
  constant : Kind → ℕ → Expr
  unknown : Kind → Expr
  variable lookup : Token → Expr
  asks : What → Token → List Token → ℕ → Expr
  not : Expr → Expr
  both : Binary → Expr → Expr → Expr

-- a variable of a node, with its initial value where it is known
pub record Own : Type 0 where
  pub name : Token
  pub kind : Kind
  pub initial : Option ℕ

-- a node: its name, empty if it has none; its variables; its priority; its seven conditions; what it is
mutual
  pub data Tree : Type 0 where
    node : Token → List Own → ℕ → List (Option Expr) → Task → Tree

  pub data Task : Type 0 where
    list : Forest → Task
    command : Token → Task
    assignment : Token → Expr → Task

  pub data Forest : Type 0 where
    bare : Forest
    also : Tree → Forest → Forest

pub record Abstract : Type 0 where
  pub commands : List Command
  pub lookups : List Lookup
  pub root : Tree

-- ---- what is asked of it: names are names, constants are of their kind, codes are listed, numbers are in range
abbrev pub IsName : Token → Type 0
IsName x = accepts reserved name x ≡ true

-- "Bool 0 or 1, Int two's complement, finite Real's bits"
unfoldable pub is_constant : Kind → ℕ → Bool
is_constant boolean w = leb w 1
is_constant integer w = leb w 18446744073709551615
is_constant float w = leb w 9218868437227405311 || (leb 9223372036854775808 w && leb w 18442240474082181119)

abbrev pub AreNames : List Token → Type 0
AreNames [] = Unit {0}
AreNames (x ∷ xs) = IsName x × AreNames xs

abbrev pub FineExpr : Expr → Type 0
FineExpr (constant k w) = is_constant k w ≡ true
FineExpr (unknown k) = Unit {0}
FineExpr (variable x) = IsName x
FineExpr (lookup x) = IsName x
FineExpr (asks w x xs k) = IsName x × AreNames xs × (k < length (code_words w))
FineExpr (not e) = FineExpr e
FineExpr (both o a b) = FineExpr a × FineExpr b

abbrev pub FineInitial : Kind → Option ℕ → Type 0
FineInitial k none = Unit {0}
FineInitial k (some w) = is_constant k w ≡ true

abbrev pub FineOwned : List Own → Type 0
FineOwned [] = Unit {0}
FineOwned (o ∷ os) = IsName o.name × FineInitial o.kind o.initial × FineOwned os

abbrev pub FineConditions : List (Option Expr) → Type 0
FineConditions [] = Unit {0}
FineConditions (none ∷ cs) = FineConditions cs
FineConditions (some e ∷ cs) = FineExpr e × FineConditions cs

abbrev pub FineName : Token → Type 0
FineName [] = Unit {0}
FineName (b ∷ x) = IsName (b ∷ x)

abbrev mutual
  pub FineTree : Tree → Type 0
  FineTree (node x os p cs t) = FineName x × FineOwned os × (p ≤ 65535) × (length cs ≡ 7) × FineConditions cs × FineTask t

  pub FineTask : Task → Type 0
  FineTask (list ts) = FineForest ts
  FineTask (command c) = IsName c
  FineTask (assignment x e) = IsName x × FineExpr e

  pub FineForest : Forest → Type 0
  FineForest bare = Unit {0}
  FineForest (also t ts) = FineTree t × FineForest ts

abbrev pub FineCommands : List Command → Type 0
FineCommands [] = Unit {0}
FineCommands (c ∷ cs) = IsName c.name × (c.number ≤ 65534) × FineCommands cs

abbrev pub FineLookups : List Lookup → Type 0
FineLookups [] = Unit {0}
FineLookups (l ∷ ls) = IsName l.name × FineLookups ls

abbrev pub FineAbstract : Abstract → Type 0
FineAbstract p = FineCommands p.commands × FineLookups p.lookups × FineTree p.root

-- ---- its records
-- the entries with those of an expression of node h after them: each operand before its operator, which has the numbers of their last entries
unfoldable pub grown : ℕ → Expr → List Entry → List Entry
grown h (constant k w) es = es ▸ Entry.constant k w
grown h (unknown k) es = es ▸ Entry.unknown_of k
grown h (variable x) es = es ▸ Entry.variable h x
grown h (lookup x) es = es ▸ Entry.lookup x
grown h (asks w x xs k) es = es ▸ about w h (x ∷ xs) k
grown h (not e) es = let l = grown h e es in l ▸ negation (last l)
grown h (both o a b) es = let l = grown h a es in let r = grown h b l in r ▸ Entry.two o (last l) (last r)

-- entries, and the numbers of a node's conditions, "65535 for default"
pub record Given : Type 0 where
  pub entries : List Entry
  pub numbers : List ℕ

-- the conditions from the one of number i on
unfoldable pub all_given : ℕ → ℕ → List (Option Expr) → Given → Given
all_given h i [] g = g
all_given h i (none ∷ cs) g = all_given h (suc i) cs g
all_given h i (some e ∷ cs) g = let l = grown h e g.entries in all_given h (suc i) cs (record { entries = l; numbers = set g.numbers i (last l) })

unfoldable pub own_variable : ℕ → Token → Kind → Option ℕ → Variable
own_variable h x k none = record { name = x; kind = k; owner = h; known = 0; initial = 0 }
own_variable h x k (some w) = record { name = x; kind = k; owner = h; known = 1; initial = w }

unfoldable pub all_owned : ℕ → List Own → List Variable → List Variable
all_owned h [] vs = vs
all_owned h (o ∷ os) vs = all_owned h os (vs ▸ own_variable h o.name o.kind o.initial)

-- nodes in text order, entries and variables in the order in which they are told
pub record Laid : Type 0 where
  pub nodes : List Node
  pub entries : List Entry
  pub variables : List Variable

-- the value of an assignment by node h is the last entry
unfoldable pub value_entries : ℕ → Task → List Entry → List Entry
value_entries h (list ts) es = es
value_entries h (command c) es = es
value_entries h (assignment x e) es = grown h e es

unfoldable pub body_of : Task → List Entry → Body
body_of (list ts) es = Body.list
body_of (command c) es = Body.command c
body_of (assignment x e) es = Body.assignment x (last es)

-- the node itself, below the list `above`, at a level
unfoldable pub lay_one : ℕ → ℕ → Token → List Own → ℕ → List (Option Expr) → Task → Laid → Laid
lay_one above level x os p cs t s =
    let h = length s.nodes in
    let g = all_given h 0 cs (record { entries = s.entries; numbers = no_conditions }) in
    let es = value_entries h t g.entries in
    record {
      nodes = s.nodes ▸ record { name = x; place = 0; parent = above; level = level; priority = p; given = g.numbers; body = body_of t es };
      entries = es;
      variables = all_owned h os s.variables;
    }

unfoldable mutual
  pub lay_tree : Tree → ℕ → ℕ → Laid → Laid
  lay_tree (node x os p cs t) above level s = lay_task t (length s.nodes) (suc level) (lay_one above level x os p cs t s)

  -- the nodes of a list after the list's own
  pub lay_task : Task → ℕ → ℕ → Laid → Laid
  lay_task (list ts) h level s = lay_forest ts h level s
  lay_task (command c) h level s = s
  lay_task (assignment x e) h level s = s

  pub lay_forest : Forest → ℕ → ℕ → Laid → Laid
  lay_forest bare h level s = s
  lay_forest (also t ts) h level s = lay_forest ts h level (lay_tree t h level s)

-- the records of a plan
unfoldable pub lay_plan : Abstract → Laid
lay_plan p = lay_tree p.root 65535 1 (record { nodes = []; entries = []; variables = [] })

-- nodes without their places in a text
abbrev pub nowhere : Node → Node
nowhere n = record { name = n.name; place = 0; parent = n.parent; level = n.level; priority = n.priority; given = n.given; body = n.body }

unfoldable pub unplaced : List Node → List Node
unplaced [] = []
unplaced (n ∷ ns) = nowhere n ∷ unplaced ns

-- opens every definition of this file
unfoldable pub opened : Unit {0}
unfolding is_constant grown all_given own_variable all_owned value_entries body_of lay_one lay_tree lay_plan unplaced
opened = tt
