-- The names of a draft: which variable, node, lookup or command a name means, and the names that are not in order (42).
use Rattle.std.specs.Prelude.{ℕ, zero, suc, Bool, true, false, ◌&&◌, List, [], ◌∷◌, eqb, ltb}
use Rattle.plexil.specs.Lists.{Found, at, nowhere}
use Rattle.grammar.specs.Spelling.{Token}
use Rattle.grammar.specs.Leads.{same}
use Rattle.notation.specs.Draft.{Command, Lookup, Variable, Node, Mention, Mentioned, node, use_of_command, use_of_lookup, use_of_variable, use_of_node, Draft}
use Rattle.notation.specs.Hearing.{parent_in}

-- the number of the first that passes; the list's first has the number i
unfoldable pub find_from {ℓ} : {A : Type ℓ} → ℕ → (A → Bool) → List A → Found
find_from i f [] = nowhere
find_from i f (a ∷ l) = elim (f a) [ true ↦ at i | false ↦ find_from (suc i) f l ]

unfoldable pub find {ℓ} : {A : Type ℓ} → (A → Bool) → List A → Found
find f l = find_from 0 f l

unfoldable pub is_found : Found → Bool
is_found (at i) = true
is_found nowhere = false

unfoldable pub is_at : ℕ → Found → Bool
is_at n (at i) = eqb n i
is_at n nowhere = false

-- "the first counts"
unfoldable pub command_of : Draft → Token → Found
command_of d x = find (λ c. same c.name x) d.commands

unfoldable pub lookup_of : Draft → Token → Found
lookup_of d x = find (λ l. same l.name x) d.lookups

-- the variable x that node n declares
unfoldable pub own_variable : Draft → ℕ → Token → Found
own_variable d n x = find (λ v. eqb v.owner n && same v.name x) d.variables

-- "A variable is the one of the node itself or of the nearest node above that declares it"; the walk goes up at most k nodes
unfoldable pub variable_up : Draft → ℕ → ℕ → Token → Found
variable_up d zero n x = nowhere
variable_up d (suc k) zero x = own_variable d 0 x
variable_up d (suc k) (suc n) x = elim (own_variable d (suc n) x) [ at v ↦ at v | nowhere ↦ variable_up d k (parent_in d.nodes (suc n)) x ]

unfoldable pub variable_of : Draft → ℕ → Token → Found
variable_of d n x = variable_up d (suc n) n x

-- the name of a node
unfoldable pub name_in : List Node → ℕ → Token
name_in [] i = []
name_in (n ∷ ns) zero = n.name
name_in (n ∷ ns) (suc i) = name_in ns i

-- the first child of node m that is named x; node 0 is nobody's child
unfoldable pub child_among : List Node → ℕ → Token → Found
child_among [] m x = nowhere
child_among (r ∷ ns) m x = find_from 1 (λ n. eqb n.parent m && same n.name x) ns

unfoldable pub child_of : Draft → ℕ → Token → Found
child_of d m x = child_among d.nodes m x

-- node n if it is named x, else its child
unfoldable pub node_at : Draft → ℕ → Token → Found
node_at d n x = elim (same (name_in d.nodes n) x) [ true ↦ at n | false ↦ child_of d n x ]

-- "for the node itself, then its parent, and so on up: that node, else a child of it"
unfoldable pub node_up : Draft → ℕ → ℕ → Token → Found
node_up d zero n x = nowhere
node_up d (suc k) zero x = node_at d 0 x
node_up d (suc k) (suc n) x = elim (node_at d (suc n) x) [ at m ↦ at m | nowhere ↦ node_up d k (parent_in d.nodes (suc n)) x ]

-- "`A.B.state` then goes strictly down from A"
unfoldable pub node_down : Draft → Found → List Token → Found
node_down d f [] = f
node_down d nowhere (x ∷ xs) = nowhere
node_down d (at m) (x ∷ xs) = node_down d (child_of d m x) xs

unfoldable pub node_of : Draft → ℕ → List Token → Found
node_of d n [] = nowhere
node_of d n (x ∷ xs) = node_down d (node_up d (suc n) n x) xs

-- a declaration is the first of its name: among the commands, the lookups, the variables of one node, the children of one list
unfoldable pub first_command : Draft → List Command → ℕ → ℕ → Bool
first_command d [] i k = true
first_command d (c ∷ cs) i zero = is_at i (command_of d c.name)
first_command d (c ∷ cs) i (suc k) = first_command d cs i k

unfoldable pub first_lookup : Draft → List Lookup → ℕ → ℕ → Bool
first_lookup d [] i k = true
first_lookup d (l ∷ ls) i zero = is_at i (lookup_of d l.name)
first_lookup d (l ∷ ls) i (suc k) = first_lookup d ls i k

unfoldable pub first_variable : Draft → List Variable → ℕ → ℕ → Bool
first_variable d [] i k = true
first_variable d (v ∷ vs) i zero = is_at i (own_variable d v.owner v.name)
first_variable d (v ∷ vs) i (suc k) = first_variable d vs i k

unfoldable pub first_child : Draft → ℕ → Bool
first_child d zero = true
first_child d (suc i) = is_at (suc i) (child_of d (parent_in d.nodes (suc i)) (name_in d.nodes (suc i)))

-- the mention is in order
unfoldable pub in_order : Draft → Mention → Bool
in_order d (Mention.command i) = first_command d d.commands i i
in_order d (Mention.lookup i) = first_lookup d d.lookups i i
in_order d (Mention.variable i) = first_variable d d.variables i i
in_order d (node i) = first_child d i
in_order d (use_of_command x) = is_found (command_of d x)
in_order d (use_of_lookup x) = is_found (lookup_of d x)
in_order d (use_of_variable n x) = is_found (variable_of d n x)
in_order d (use_of_node n xs) = is_found (node_of d n xs)

-- "42 with the place of the first name, in text order, that is undeclared or a second declaration"
unfoldable pub bad_mention : Draft → List Mentioned → Found
bad_mention d [] = nowhere
bad_mention d (m ∷ ms) = elim (in_order d m.mention) [ true ↦ bad_mention d ms | false ↦ at m.place ]

unfoldable pub bad_name : Draft → Found
bad_name d = bad_mention d d.mentions

-- "41 with the place of the first node past level 16 (its name, else its brace)"
unfoldable pub too_deep : List Node → Found
too_deep [] = nowhere
too_deep (n ∷ ns) = elim (ltb 16 n.level) [ true ↦ at n.place | false ↦ too_deep ns ]

-- opens every definition of this file
unfoldable pub opened : Unit {0}
unfolding find_from find is_found is_at command_of lookup_of own_variable variable_up variable_of name_in child_among child_of node_at node_up node_down node_of first_command first_lookup first_variable first_child in_order bad_mention bad_name too_deep
opened = tt
