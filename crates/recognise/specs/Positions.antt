-- Where the machine can stand in a text: what comes next there, and what lies below it.
use Rattle.std.specs.Prelude.{ℕ, zero, suc, true, false, List, [], ◌∷◌, get_or}
use Rattle.grammar.specs.Table.{Item, lit, sort}
use Rattle.notation.specs.Sayings.{boolean, integer, float, status, outcome, failure}
use Rattle.notation.specs.Rows.{Close, semicolon, bracket, Sort, plan, nodes, command_name, command_number, called_name, target_name, lookup_used, priority, negated_integer, negated_real, lookup_name, variables, initial, value, initial_pattern, pattern, operand, operator, after_name, after_path, negative, property, compared, code}

-- what lies below: the open lists; the rest of a node and these; the open parentheses of an expression, what follows it, and these
pub data Bottom : Type 0 where
  lists body expression : Bottom

pub record Position : Type 0 where
  pub front : List (Item Sort)
  pub bottom : Bottom

abbrev pub at : List (Item Sort) → Bottom → Position
at f b = record { front = f; bottom = b }

-- how many positions there are
abbrev pub position_count : ℕ
position_count = 78

-- the positions in the order of their numbers; c is what ends the expression at hand
unfoldable pub positions : Close → List Position
positions c =
    at (sort plan ∷ []) lists
    ∷ at [] lists
    ∷ at [] body
    ∷ at (lit "}" ∷ []) lists
    ∷ at (sort (operator c) ∷ []) expression
    ∷ at (sort command_name ∷ lit "=" ∷ sort command_number ∷ lit ";" ∷ sort plan ∷ []) lists
    ∷ at (lit "Lookup" ∷ sort (lookup_name boolean) ∷ lit ";" ∷ sort plan ∷ []) lists
    ∷ at (lit "Lookup" ∷ sort (lookup_name integer) ∷ lit ";" ∷ sort plan ∷ []) lists
    ∷ at (lit "Lookup" ∷ sort (lookup_name float) ∷ lit ";" ∷ sort plan ∷ []) lists
    ∷ at (lit ":" ∷ lit "{" ∷ []) lists
    ∷ at (lit ":" ∷ sort called_name ∷ lit "(" ∷ lit ")" ∷ lit ";" ∷ lit "}" ∷ []) lists
    ∷ at (lit "=" ∷ sort command_number ∷ lit ";" ∷ sort plan ∷ []) lists
    ∷ at (sort (lookup_name boolean) ∷ lit ";" ∷ sort plan ∷ []) lists
    ∷ at (sort (lookup_name integer) ∷ lit ";" ∷ sort plan ∷ []) lists
    ∷ at (sort (lookup_name float) ∷ lit ";" ∷ sort plan ∷ []) lists
    ∷ at (lit "{" ∷ []) lists
    ∷ at (sort called_name ∷ lit "(" ∷ lit ")" ∷ lit ";" ∷ lit "}" ∷ []) lists
    ∷ at (sort command_number ∷ lit ";" ∷ sort plan ∷ []) lists
    ∷ at (lit ";" ∷ sort plan ∷ []) lists
    ∷ at (lit "(" ∷ lit ")" ∷ lit ";" ∷ lit "}" ∷ []) lists
    ∷ at (lit ")" ∷ lit ";" ∷ lit "}" ∷ []) lists
    ∷ at (lit ";" ∷ lit "}" ∷ []) lists
    ∷ at (lit ":" ∷ lit "{" ∷ []) body
    ∷ at (lit ":" ∷ lit "{" ∷ sort (variables boolean) ∷ []) body
    ∷ at (lit ":" ∷ lit "{" ∷ sort (variables integer) ∷ []) body
    ∷ at (lit ":" ∷ lit "{" ∷ sort (variables float) ∷ []) body
    ∷ at (lit ":" ∷ sort priority ∷ lit ";" ∷ []) body
    ∷ at (lit "{" ∷ []) body
    ∷ at (lit "{" ∷ sort (variables boolean) ∷ []) body
    ∷ at (lit "{" ∷ sort (variables integer) ∷ []) body
    ∷ at (lit "{" ∷ sort (variables float) ∷ []) body
    ∷ at (sort priority ∷ lit ";" ∷ []) body
    ∷ at (sort (variables boolean) ∷ []) body
    ∷ at (sort (variables integer) ∷ []) body
    ∷ at (sort (variables float) ∷ []) body
    ∷ at (lit ";" ∷ []) body
    ∷ at (sort (initial boolean) ∷ []) body
    ∷ at (sort (initial integer) ∷ []) body
    ∷ at (sort (initial float) ∷ []) body
    ∷ at (sort (value boolean) ∷ []) body
    ∷ at (sort (value integer) ∷ []) body
    ∷ at (sort (value float) ∷ []) body
    ∷ at (lit ";" ∷ sort (variables boolean) ∷ []) body
    ∷ at (lit ";" ∷ sort (variables integer) ∷ []) body
    ∷ at (sort negated_integer ∷ []) body
    ∷ at (lit ";" ∷ sort (variables float) ∷ []) body
    ∷ at (lit "(" ∷ sort (initial_pattern false) ∷ lit ")" ∷ lit ";" ∷ sort (variables float) ∷ []) body
    ∷ at (sort negated_real ∷ []) body
    ∷ at (sort (initial_pattern false) ∷ lit ")" ∷ lit ";" ∷ sort (variables float) ∷ []) body
    ∷ at (lit "(" ∷ sort (initial_pattern true) ∷ lit ")" ∷ lit ";" ∷ sort (variables float) ∷ []) body
    ∷ at (lit ")" ∷ lit ";" ∷ sort (variables float) ∷ []) body
    ∷ at (sort (initial_pattern true) ∷ lit ")" ∷ lit ";" ∷ sort (variables float) ∷ []) body
    ∷ at (lit ":" ∷ sort target_name ∷ lit "=" ∷ sort (operand c) ∷ []) expression
    ∷ at (lit ":" ∷ sort (operand c) ∷ []) expression
    ∷ at (sort (operand c) ∷ []) expression
    ∷ at (sort target_name ∷ lit "=" ∷ sort (operand c) ∷ []) expression
    ∷ at (sort (after_name c) ∷ []) expression
    ∷ at (lit "(" ∷ sort (pattern false) ∷ lit ")" ∷ sort (operator c) ∷ []) expression
    ∷ at (sort (negative c) ∷ []) expression
    ∷ at (lit "(" ∷ sort lookup_used ∷ lit ")" ∷ sort (operator c) ∷ []) expression
    ∷ at (lit "UNKNOWN" ∷ sort (operator c) ∷ []) expression
    ∷ at (lit "=" ∷ sort (operand c) ∷ []) expression
    ∷ at (sort (property c) ∷ []) expression
    ∷ at (sort (pattern false) ∷ lit ")" ∷ sort (operator c) ∷ []) expression
    ∷ at (lit "(" ∷ sort (pattern true) ∷ lit ")" ∷ sort (operator c) ∷ []) expression
    ∷ at (sort lookup_used ∷ lit ")" ∷ sort (operator c) ∷ []) expression
    ∷ at (sort (compared status c) ∷ []) expression
    ∷ at (sort (compared outcome c) ∷ []) expression
    ∷ at (sort (compared failure c) ∷ []) expression
    ∷ at (sort (after_path c) ∷ []) expression
    ∷ at (lit ")" ∷ sort (operator c) ∷ []) expression
    ∷ at (sort (pattern true) ∷ lit ")" ∷ sort (operator c) ∷ []) expression
    ∷ at (sort (code status false c) ∷ []) expression
    ∷ at (sort (code status true c) ∷ []) expression
    ∷ at (sort (code outcome false c) ∷ []) expression
    ∷ at (sort (code outcome true c) ∷ []) expression
    ∷ at (sort (code failure false c) ∷ []) expression
    ∷ at (sort (code failure true c) ∷ []) expression
    ∷ []

-- those that the code names
abbrev pub lists_at : ℕ
lists_at = 1

abbrev pub body_at : ℕ
body_at = 2

abbrev pub brace_at : ℕ
brace_at = 3

abbrev pub operator_at : ℕ
operator_at = 4

unfoldable pub position_at : Close → ℕ → Position
position_at c p = get_or (positions c) p (at [] lists)

-- d lists are open: each closes its own node
unfoldable pub tower : ℕ → List (Item Sort)
tower zero = []
tower (suc d) = sort nodes ∷ tower d

-- what ends an expression within k parentheses
unfoldable pub closer : ℕ → Close
closer zero = semicolon
closer (suc k) = bracket

-- k parentheses are open
unfoldable pub parentheses : ℕ → List (Item Sort)
parentheses zero = []
parentheses (suc k) = sort (operator (closer k)) ∷ parentheses k

-- opens every definition of this file
unfoldable pub opened : Unit {0}
unfolding positions position_at tower closer parentheses
opened = tt
