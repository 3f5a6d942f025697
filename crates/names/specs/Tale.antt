-- The tale of a text: of all that it says the names alone, declared and mentioned, in the order in which they are told.
use Rattle.std.specs.Prelude.{ℕ, zero, suc, ◌-◌, List, [], ◌∷◌, ◌++◌, length}
use Rattle.grammar.specs.Spelling.{Token, Placed}
use Rattle.grammar.specs.Table.{Said}
use Rattle.notation.specs.Sayings.{Saying}
use Rattle.notation.specs.Draft.{Mention, Mentioned, node, use_of_command, use_of_lookup, use_of_variable, use_of_node}
use Rattle.notation.specs.Hearing.{◌▸◌, at_last}
use Rattle.names.specs.Roles.{Role, other, number, command, lookup, variable, named, unnamed, opens, shuts, call, assign, read, mention, descend, ask, settle, role_of, detail_of}

-- a declared name; a variable's owner is its node, a node's owner is one more than its parent and 0 at the root
pub record Declared : Type 0 where
  pub name : Token
  pub owner : ℕ

-- `lists` holds one more than the number of each open list's node, the innermost first
pub record Tale : Type 0 where
  pub commands : List Declared
  pub lookups : List Declared
  pub variables : List Declared
  pub nodes : List Declared
  pub numbers : List ℕ
  pub variable_kinds : List ℕ
  pub levels : List ℕ
  pub lists : List ℕ
  pub mentions : List Mentioned
  pub held : List Placed

abbrev pub untold : Tale
untold = record { commands = []; lookups = []; variables = []; nodes = []; numbers = []; variable_kinds = []; levels = []; lists = []; mentions = []; held = [] }

-- the declarations of a sort, by its number
unfoldable pub list_of : ℕ → Tale → List Declared
list_of zero b = b.commands
list_of (suc zero) b = b.lookups
list_of (suc (suc zero)) b = b.variables
list_of (suc (suc (suc k))) b = b.nodes

-- the node that is being told of
abbrev pub here_in : Tale → ℕ
here_in b = length b.nodes - 1

unfoldable pub top : List ℕ → ℕ
top [] = 0
top (x ∷ xs) = x

unfoldable pub under : List ℕ → List ℕ
under [] = []
under (x ∷ xs) = xs

-- the mentions of a path's parts, of which q has been told
unfoldable pub parts : ℕ → List Token → List Placed → List Mentioned
parts n q [] = []
parts n q (t ∷ ts) = record { mention = use_of_node n (q ▸ t.bytes); place = t.place } ∷ parts n (q ▸ t.bytes) ts

abbrev pub with_mention : Mention → ℕ → Tale → Tale
with_mention m n b = record { commands = b.commands; lookups = b.lookups; variables = b.variables; nodes = b.nodes; numbers = b.numbers; variable_kinds = b.variable_kinds; levels = b.levels; lists = b.lists; mentions = b.mentions ▸ record { mention = m; place = n }; held = b.held }

abbrev pub with_lists : List ℕ → Tale → Tale
with_lists s b = record { commands = b.commands; lookups = b.lookups; variables = b.variables; nodes = b.nodes; numbers = b.numbers; variable_kinds = b.variable_kinds; levels = b.levels; lists = s; mentions = b.mentions; held = b.held }

abbrev pub with_parts : List Mentioned → List Placed → Tale → Tale
with_parts m h b = record { commands = b.commands; lookups = b.lookups; variables = b.variables; nodes = b.nodes; numbers = b.numbers; variable_kinds = b.variable_kinds; levels = b.levels; lists = b.lists; mentions = b.mentions ++ m; held = h }

abbrev pub with_held : List Placed → Tale → Tale
with_held h b = record { commands = b.commands; lookups = b.lookups; variables = b.variables; nodes = b.nodes; numbers = b.numbers; variable_kinds = b.variable_kinds; levels = b.levels; lists = b.lists; mentions = b.mentions; held = h }

abbrev pub with_node : Token → Tale → Tale
with_node x b = record { commands = b.commands; lookups = b.lookups; variables = b.variables; nodes = b.nodes ▸ record { name = x; owner = top b.lists }; numbers = b.numbers; variable_kinds = b.variable_kinds; levels = b.levels ▸ suc (length b.lists); lists = b.lists; mentions = b.mentions; held = b.held }

-- a held name was a variable's
unfoldable pub settling : List Placed → Tale → Tale
settling [] b = b
settling (t ∷ ts) b = with_held [] (with_mention (use_of_variable (here_in b) t.bytes) t.place b)

-- what a token of the role, with its detail k, adds
unfoldable pub tell_of : Role → ℕ → Placed → Tale → Tale
tell_of other k t b = b
tell_of number k t b = record { commands = b.commands; lookups = b.lookups; variables = b.variables; nodes = b.nodes; numbers = at_last (λ n. k) b.numbers; variable_kinds = b.variable_kinds; levels = b.levels; lists = b.lists; mentions = b.mentions; held = b.held }
tell_of command k t b = with_mention (Mention.command (length b.commands)) t.place (record { commands = b.commands ▸ record { name = t.bytes; owner = 0 }; lookups = b.lookups; variables = b.variables; nodes = b.nodes; numbers = b.numbers ▸ 0; variable_kinds = b.variable_kinds; levels = b.levels; lists = b.lists; mentions = b.mentions; held = b.held })
tell_of lookup k t b = with_mention (Mention.lookup (length b.lookups)) t.place (record { commands = b.commands; lookups = b.lookups ▸ record { name = t.bytes; owner = 0 }; variables = b.variables; nodes = b.nodes; numbers = b.numbers; variable_kinds = b.variable_kinds; levels = b.levels; lists = b.lists; mentions = b.mentions; held = b.held })
tell_of variable k t b = with_mention (Mention.variable (length b.variables)) t.place (record { commands = b.commands; lookups = b.lookups; variables = b.variables ▸ record { name = t.bytes; owner = here_in b }; nodes = b.nodes; numbers = b.numbers; variable_kinds = b.variable_kinds ▸ k; levels = b.levels; lists = b.lists; mentions = b.mentions; held = b.held })
tell_of named k t b = with_mention (node (length b.nodes)) t.place (with_node t.bytes b)
tell_of unnamed k t b = with_node [] b
tell_of opens k t b = with_lists (length b.nodes ∷ b.lists) b
tell_of shuts k t b = with_lists (under b.lists) b
tell_of call k t b = with_mention (use_of_command t.bytes) t.place b
tell_of assign k t b = with_mention (use_of_variable (here_in b) t.bytes) t.place b
tell_of read k t b = with_mention (use_of_lookup t.bytes) t.place b
tell_of mention k t b = with_held (t ∷ []) b
tell_of descend k t b = with_held (b.held ▸ t) b
tell_of ask k t b = with_parts (parts (here_in b) [] b.held) [] b
tell_of settle k t b = settling b.held b

unfoldable pub tell : Said Saying → Tale → Tale
tell w b = tell_of (role_of w.what) (detail_of w.what w.token.bytes) w.token b

unfoldable pub tell_all : List (Said Saying) → Tale → Tale
tell_all [] b = b
tell_all (w ∷ l) b = tell_all l (tell w b)

-- the tale of what a text says
unfoldable pub tale_of : List (Said Saying) → Tale
tale_of l = tell_all l untold

-- opens every definition of this file
unfoldable pub opened : Unit {0}
unfolding list_of top under parts settling tell_of tell tell_all tale_of
opened = tt
