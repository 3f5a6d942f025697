-- How an abstract plan is written as text: each operator in parentheses, whole numbers with twenty digits, Reals by their bits, a blank after each token.
use Rattle.std.specs.Prelude.{ℕ, zero, suc, ◌+◌, ◌-◌, ◌/◌, ◌%◌, Bool, true, false, List, [], ◌∷◌, ◌++◌, ltb}
use Prim.Native.String.{String}
use Rattle.std.proofs.Math.Option.{Option, none, some}
use Rattle.grammar.specs.Spelling.{Token}
use Rattle.grammar.specs.Leads.{bytes}
use Rattle.notation.specs.Sayings.{Kind, boolean, integer, float, What, status, outcome, failure, Operator, disjunction, conjunction, equal, less, at_most, plus, minus, times, Saying, silence}
use Rattle.notation.specs.Sayings as Sayings
use Rattle.notation.specs.Rows.{kind_word, code_words}
use Rattle.notation.specs.Draft.{Command, Lookup, Binary, or, and, eq, lt, le, add, sub, mul}
use Rattle.notation.specs.Abstract.{Expr, Own, Tree, node, Task, Forest, Abstract}

-- a token and what it says
pub record Word : Type 0 where
  pub says : Saying
  pub token : Token

abbrev pub silent : String → Word
silent w = record { says = silence; token = bytes w }

abbrev pub saying : Saying → String → Word
saying x w = record { says = x; token = bytes w }

abbrev pub named : Saying → Token → Word
named x t = record { says = x; token = t }

-- the last k digits of n before the digits t
unfoldable pub digits_of : ℕ → ℕ → Token → Token
digits_of zero n t = t
digits_of (suc k) n t = digits_of k (n / 10) ((48 + n % 10) ∷ t)

unfoldable pub numeral : ℕ → Token
numeral n = digits_of 20 n []

-- a constant's words, by what they say: of an expression, or of an initial value
unfoldable pub constant_words : (Bool → Saying) → (Bool → Saying) → (Bool → Saying) → Kind → ℕ → List Word
constant_words t w b boolean zero = saying (t false) "false" ∷ []
constant_words t w b boolean (suc n) = saying (t true) "true" ∷ []
constant_words t w b integer n =
    elim (ltb n 9223372036854775808) [ true ↦ named (w false) (numeral n) ∷ [] | false ↦ silent "-" ∷ named (w true) (numeral (18446744073709551616 - n)) ∷ [] ]
constant_words t w b float n =
    elim (ltb n 9223372036854775808) [
      | true ↦ silent "RealBits" ∷ silent "(" ∷ named (b false) (numeral n) ∷ silent ")" ∷ []
      | false ↦ silent "-" ∷ silent "RealBits" ∷ silent "(" ∷ named (b true) (numeral (n - 9223372036854775808)) ∷ silent ")" ∷ []
    ]

-- the operator of the notation for one of document 01
unfoldable pub operator_of : Binary → Operator
operator_of or = disjunction
operator_of and = conjunction
operator_of eq = equal
operator_of lt = less
operator_of le = at_most
operator_of add = plus
operator_of sub = minus
operator_of mul = times

unfoldable pub operator_sign : Binary → String
operator_sign or = "OR"
operator_sign and = "AND"
operator_sign eq = "=="
operator_sign lt = "<"
operator_sign le = "<="
operator_sign add = "+"
operator_sign sub = "-"
operator_sign mul = "*"

unfoldable pub what_word : What → String
what_word status = "state"
what_word outcome = "outcome"
what_word failure = "failure"

-- the word at a place
unfoldable pub word_at : List String → ℕ → Token
word_at [] k = []
word_at (w ∷ ws) zero = bytes w
word_at (w ∷ ws) (suc k) = word_at ws k

unfoldable pub part_words : List Token → List Word
part_words [] = []
part_words (x ∷ xs) = silent "." ∷ named Sayings.descends x ∷ part_words xs

unfoldable pub question_words : What → ℕ → List Word
question_words w k = silent "." ∷ silent (what_word w) ∷ silent "==" ∷ named (Sayings.asks w false k) (word_at (code_words w) k) ∷ []

unfoldable pub expr_words : Expr → List Word
expr_words (Expr.constant k w) = constant_words Sayings.truth Sayings.whole Sayings.bits k w
expr_words (Expr.unknown k) = saying (Sayings.unknown k) (kind_word k) ∷ silent "UNKNOWN" ∷ []
expr_words (Expr.variable x) = named Sayings.mentions x ∷ []
expr_words (Expr.lookup x) = silent "LookupNow" ∷ silent "(" ∷ named Sayings.reads x ∷ silent ")" ∷ []
expr_words (Expr.asks w x xs k) = named Sayings.mentions x ∷ (part_words xs ++ question_words w k)
expr_words (Expr.not e) = saying Sayings.parenthesis "(" ∷ saying Sayings.negates "NOT" ∷ (expr_words e ++ (saying Sayings.closes ")" ∷ []))
expr_words (Expr.both o a b) =
    saying Sayings.parenthesis "(" ∷ (expr_words a ++ (saying (Sayings.operates (operator_of o)) (operator_sign o) ∷ (expr_words b ++ (saying Sayings.closes ")" ∷ []))))

unfoldable pub initial_words : Kind → Option ℕ → List Word
initial_words k none = silent ";" ∷ []
initial_words k (some w) = silent "=" ∷ (constant_words Sayings.initial_truth Sayings.initial_whole Sayings.initial_bits k w ++ (silent ";" ∷ []))

unfoldable pub owned_words : List Own → List Word
owned_words [] = []
owned_words (o ∷ os) =
    silent (kind_word o.kind) ∷ silent ":" ∷ silent "{" ∷ named (Sayings.declares_variable o.kind) o.name
    ∷ (initial_words o.kind o.initial ++ (silent "}" ∷ owned_words os))

unfoldable pub priority_words : ℕ → List Word
priority_words p = silent "Priority" ∷ silent ":" ∷ named Sayings.ranks (numeral p) ∷ silent ";" ∷ []

-- "Skip, Start, Pre, Inv, End, Post, Repeat"
unfoldable pub condition_word : ℕ → String
condition_word zero = "SkipCondition"
condition_word (suc zero) = "StartCondition"
condition_word (suc (suc zero)) = "PreCondition"
condition_word (suc (suc (suc zero))) = "InvariantCondition"
condition_word (suc (suc (suc (suc zero)))) = "EndCondition"
condition_word (suc (suc (suc (suc (suc zero))))) = "PostCondition"
condition_word (suc (suc (suc (suc (suc (suc k)))))) = "RepeatCondition"

-- the conditions from the one of number i on
unfoldable pub condition_words : ℕ → List (Option Expr) → List Word
condition_words i [] = []
condition_words i (none ∷ cs) = condition_words (suc i) cs
condition_words i (some e ∷ cs) = saying (Sayings.conditions i) (condition_word i) ∷ silent ":" ∷ (expr_words e ++ (saying Sayings.ends ";" ∷ condition_words (suc i) cs))

-- how a node begins
unfoldable pub opening_words : Token → List Word
opening_words [] = saying Sayings.begins "{" ∷ []
opening_words (b ∷ x) = named Sayings.names (b ∷ x) ∷ silent ":" ∷ silent "{" ∷ []

unfoldable mutual
  pub tree_words : Tree → List Word
  tree_words (node x os p cs t) = opening_words x ++ (owned_words os ++ (priority_words p ++ (condition_words 0 cs ++ task_words t)))

  pub task_words : Task → List Word
  task_words (Task.list ts) = saying Sayings.opens_list "NodeList" ∷ silent ":" ∷ silent "{" ∷ forest_words ts
  task_words (Task.command c) = silent "Command" ∷ silent ":" ∷ named Sayings.calls c ∷ silent "(" ∷ silent ")" ∷ silent ";" ∷ silent "}" ∷ []
  task_words (Task.assignment x e) = silent "Assignment" ∷ silent ":" ∷ named Sayings.assigns x ∷ silent "=" ∷ (expr_words e ++ (saying Sayings.ends ";" ∷ silent "}" ∷ []))

  pub forest_words : Forest → List Word
  forest_words Forest.bare = saying Sayings.closes_list "}" ∷ silent "}" ∷ []
  forest_words (Forest.also t ts) = tree_words t ++ forest_words ts

unfoldable pub command_words : List Command → List Word
command_words [] = []
command_words (c ∷ cs) =
    silent "Command" ∷ named Sayings.declares_command c.name ∷ silent "=" ∷ named Sayings.numbers_command (numeral c.number) ∷ silent ";" ∷ command_words cs

unfoldable pub lookup_words : List Lookup → List Word
lookup_words [] = []
lookup_words (l ∷ ls) = silent (kind_word l.kind) ∷ silent "Lookup" ∷ named (Sayings.declares_lookup l.kind) l.name ∷ silent ";" ∷ lookup_words ls

unfoldable pub plan_words : Abstract → List Word
plan_words p = command_words p.commands ++ (lookup_words p.lookups ++ tree_words p.root)

-- the words as text
unfoldable pub spelt : List Word → List ℕ
spelt [] = []
spelt (w ∷ ws) = w.token ++ (32 ∷ spelt ws)

unfoldable pub write : Abstract → List ℕ
write p = spelt (plan_words p)

-- opens every definition of this file
unfoldable pub opened : Unit {0}
unfolding digits_of numeral constant_words operator_of operator_sign what_word word_at part_words question_words expr_words initial_words owned_words priority_words condition_word condition_words opening_words tree_words command_words lookup_words plan_words spelt write
opened = tt
