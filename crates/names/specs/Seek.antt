-- Declarations sought by name: the first of a sort, an owner and a name; and what is declared under a number.
use Rattle.std.specs.Prelude.{ℕ, zero, suc, ◌≤◌, Bool, ◌&&◌, List, [], ◌∷◌, eqb, get_or}
use Rattle.plexil.specs.Lists.{Found}
use Rattle.grammar.specs.Spelling.{Token}
use Rattle.grammar.specs.Leads.{same}
use Rattle.notation.specs.Names.{find}
use Rattle.names.specs.Tale.{Declared, Tale, list_of}

-- the declaration is of the owner m and the name x
unfoldable pub is_called : ℕ → Token → Declared → Bool
is_called m x e = eqb e.owner m && same e.name x

-- the first declaration of sort k, owner m and name x
unfoldable pub seek : ℕ → ℕ → Token → Tale → Found
seek k m x b = find (is_called m x) (list_of k b)

abbrev pub nobody : Declared
nobody = record { name = []; owner = 0 }

-- the node of a number
abbrev pub node_in : Tale → ℕ → Declared
node_in b n = get_or b.nodes n nobody

-- the parent of a node, by its owner; 65535 of the root
unfoldable pub parent_by : ℕ → ℕ
parent_by zero = 65535
parent_by (suc p) = p

-- no level is past 16
unfoldable pub Shallow : List ℕ → Type 0
Shallow [] = Unit {0}
Shallow (n ∷ ns) = (n ≤ 16) × Shallow ns

-- opens every definition of this file
unfoldable pub opened : Unit {0}
unfolding is_called seek parent_by Shallow
opened = tt
