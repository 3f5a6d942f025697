-- The grammar of plans as text: for each sort of phrase its rows. `X ↣ Y says Z`: a phrase begins with X, goes on with Y, and X says Z.
use Rattle.std.specs.Prelude.{ℕ, suc, Bool, true, false, cond, ◌||◌, List, [], ◌∷◌, ◌++◌, eqb}
use Prim.Native.String.{String}
use Rattle.grammar.specs.Leads.{Lead, the, name, up_to, real}
use Rattle.grammar.specs.Table.{Item, lit, sort, Row, Table}
use Rattle.notation.specs.Sayings.{Kind, boolean, integer, float, What, status, outcome, failure, Operator, disjunction, conjunction, equal, unequal, less, at_most, greater, at_least, plus, minus, times, Saying, silence, declares_command, numbers_command, declares_lookup, names, begins, opens_list, closes_list, calls, assigns, conditions, ranks, declares_variable, initial_truth, initial_whole, initial_decimal, initial_bits, truth, whole, decimal, bits, unknown, reads, mentions, descends, asks, negates, operates, parenthesis, closes, ends}

-- the words of the notation: no names. ExitCondition and INTERRUPTED are kept for edition 2 of the plan image
unfoldable pub reserved : List String
reserved =
    "Command" ∷ "Lookup" ∷ "Boolean" ∷ "Integer" ∷ "Real" ∷ "RealBits" ∷ "NodeList" ∷ "Assignment" ∷ "Priority"
    ∷ "SkipCondition" ∷ "StartCondition" ∷ "PreCondition" ∷ "InvariantCondition" ∷ "EndCondition" ∷ "PostCondition" ∷ "RepeatCondition" ∷ "RepeatUntilCondition" ∷ "ExitCondition"
    ∷ "NOT" ∷ "AND" ∷ "OR" ∷ "true" ∷ "false" ∷ "UNKNOWN" ∷ "LookupNow" ∷ "LookupOnChange" ∷ "state" ∷ "outcome" ∷ "failure" ∷ "failureType"
    ∷ "INACTIVE" ∷ "WAITING" ∷ "EXECUTING" ∷ "FINISHING" ∷ "FAILING" ∷ "ITERATION_ENDED" ∷ "FINISHED"
    ∷ "NONE" ∷ "SUCCESS" ∷ "FAILURE" ∷ "SKIPPED" ∷ "INTERRUPTED" ∷ "PRE" ∷ "POST" ∷ "INVARIANT" ∷ "PARENT" ∷ "WRITE_LOST" ∷ []

-- what ends an expression
pub data Close : Type 0 where
  semicolon bracket : Close

pub data Sort : Type 0 where
  plan nodes command_name command_number called_name target_name lookup_used priority negated_integer negated_real : Sort
  lookup_name : Kind → Sort
  attributes : List ℕ → Sort
  variables initial value : Kind → Sort
  initial_pattern pattern : Bool → Sort
  operand operator after_name after_path negative property : Close → Sort
  compared : What → Close → Sort
  code : What → Bool → Close → Sort

abbrev pub Rows : Type 0
Rows = List (Row Sort Saying)

infixr 20 ◌↣◌says◌
abbrev pub ◌↣◌says◌ : Lead → List (Item Sort) → Saying → Row Sort Saying
◌↣◌says◌ l s w = record { lead = l; rest = s; says = w }

abbrev pub kind_word : Kind → String
kind_word boolean = "Boolean"
kind_word integer = "Integer"
kind_word float = "Real"

-- the sign that ends an expression, and what it says
abbrev pub closing : Close → Row Sort Saying
closing semicolon = the ";" ↣ [] says ends
closing bracket = the ")" ↣ [] says closes

-- after an operand: the end of the expression, or an operator and the next operand
abbrev pub operation : Close → String → Operator → Row Sort Saying
operation c w o = the w ↣ sort (operand c) ∷ [] says operates o

unfoldable pub operations : Close → Rows
operations c =
    closing c
    ∷ operation c "||" disjunction ∷ operation c "OR" disjunction ∷ operation c "&&" conjunction ∷ operation c "AND" conjunction
    ∷ operation c "==" equal ∷ operation c "!=" unequal ∷ operation c "<" less ∷ operation c "<=" at_most ∷ operation c ">" greater ∷ operation c ">=" at_least
    ∷ operation c "+" plus ∷ operation c "-" minus ∷ operation c "*" times ∷ []

-- the words for a status, an outcome and a failure, by their codes
unfoldable pub code_words : What → List String
code_words status = "INACTIVE" ∷ "WAITING" ∷ "EXECUTING" ∷ "FINISHING" ∷ "FAILING" ∷ "ITERATION_ENDED" ∷ "FINISHED" ∷ []
code_words outcome = "NONE" ∷ "SUCCESS" ∷ "FAILURE" ∷ "SKIPPED" ∷ []
code_words failure = "NONE" ∷ "PRE" ∷ "POST" ∷ "INVARIANT" ∷ "PARENT" ∷ "WRITE_LOST" ∷ []

unfoldable pub codes : What → Bool → Close → ℕ → List String → Rows
codes w n c k [] = []
codes w n c k (word ∷ later) = (the word ↣ sort (operator c) ∷ [] says asks w n k) ∷ codes w n c (suc k) later

-- n is in the list
unfoldable pub met : ℕ → List ℕ → Bool
met n [] = false
met n (x ∷ m) = eqb n x || met n m

-- a row for what the node does not have yet; m is what it has
unfoldable pub once : List ℕ → ℕ → Row Sort Saying → Rows
once m n r = cond (met n m) [] (r ∷ [])

abbrev pub condition : List ℕ → ℕ → String → Row Sort Saying
condition m n w = the w ↣ lit ":" ∷ sort (operand semicolon) ∷ sort (attributes (n ∷ m)) ∷ [] says conditions n

abbrev pub prioritized : List ℕ → Row Sort Saying
prioritized m = the "Priority" ↣ lit ":" ∷ sort priority ∷ lit ";" ∷ sort (attributes (7 ∷ m)) ∷ [] says silence

-- "Skip, Start, Pre, Inv, End, Post, Repeat", numbered from 0, and the priority: each once at most
abbrev pub onces : List ℕ → Rows
onces m =
    once m 0 (condition m 0 "SkipCondition") ++ (once m 1 (condition m 1 "StartCondition") ++ (once m 2 (condition m 2 "PreCondition")
    ++ (once m 3 (condition m 3 "InvariantCondition") ++ (once m 4 (condition m 4 "EndCondition") ++ (once m 5 (condition m 5 "PostCondition")
    ++ (once m 6 (condition m 6 "RepeatCondition") ++ (once m 6 (condition m 6 "RepeatUntilCondition") ++ once m 7 (prioritized m))))))))

abbrev pub owned : List ℕ → Kind → Row Sort Saying
owned m k = the (kind_word k) ↣ lit ":" ∷ lit "{" ∷ sort (variables k) ∷ sort (attributes m) ∷ [] says silence

-- an initial value of a variable of kind k
abbrev pub valued : Kind → Lead → Saying → Row Sort Saying
valued k l w = l ↣ lit ";" ∷ sort (variables k) ∷ [] says w

-- a Real's bits
abbrev pub initial_exactly : Bool → Row Sort Saying
initial_exactly s = the "RealBits" ↣ lit "(" ∷ sort (initial_pattern s) ∷ lit ")" ∷ lit ";" ∷ sort (variables float) ∷ [] says silence

abbrev pub exactly : Bool → Close → Row Sort Saying
exactly s c = the "RealBits" ↣ lit "(" ∷ sort (pattern s) ∷ lit ")" ∷ sort (operator c) ∷ [] says silence

abbrev pub lookup : Close → String → Row Sort Saying
lookup c w = the w ↣ lit "(" ∷ sort lookup_used ∷ lit ")" ∷ sort (operator c) ∷ [] says silence

abbrev pub declared : Kind → Row Sort Saying
declared k = the (kind_word k) ↣ lit "Lookup" ∷ sort (lookup_name k) ∷ lit ";" ∷ sort plan ∷ [] says silence

abbrev pub unknown_of : Close → Kind → Row Sort Saying
unknown_of c k = the (kind_word k) ↣ lit "UNKNOWN" ∷ sort (operator c) ∷ [] says unknown k

unfoldable pub rows : Sort → Rows
rows plan =
    (the "{" ↣ sort (attributes []) ∷ [] says begins)
    ∷ (name ↣ lit ":" ∷ lit "{" ∷ sort (attributes []) ∷ [] says names)
    ∷ (the "Command" ↣ sort command_name ∷ lit "=" ∷ sort command_number ∷ lit ";" ∷ sort plan ∷ [] says silence)
    ∷ declared boolean ∷ declared integer ∷ declared float ∷ []
rows command_name = (name ↣ [] says declares_command) ∷ []
rows command_number = (up_to 65534 ↣ [] says numbers_command) ∷ []
rows (lookup_name k) = (name ↣ [] says declares_lookup k) ∷ []
rows nodes =
    (the "}" ↣ lit "}" ∷ [] says closes_list)
    ∷ (the "{" ↣ sort (attributes []) ∷ sort nodes ∷ [] says begins)
    ∷ (name ↣ lit ":" ∷ lit "{" ∷ sort (attributes []) ∷ sort nodes ∷ [] says names)
    ∷ []
rows (attributes m) =
    (the "NodeList" ↣ lit ":" ∷ lit "{" ∷ sort nodes ∷ [] says opens_list)
    ∷ (the "Command" ↣ lit ":" ∷ sort called_name ∷ lit "(" ∷ lit ")" ∷ lit ";" ∷ lit "}" ∷ [] says silence)
    ∷ (the "Assignment" ↣ lit ":" ∷ sort target_name ∷ lit "=" ∷ sort (operand semicolon) ∷ lit "}" ∷ [] says silence)
    ∷ owned m boolean ∷ owned m integer ∷ owned m float ∷ onces m
rows called_name = (name ↣ [] says calls) ∷ []
rows target_name = (name ↣ [] says assigns) ∷ []
rows priority = (up_to 65535 ↣ [] says ranks) ∷ []
rows (variables k) = (the "}" ↣ [] says silence) ∷ (name ↣ sort (initial k) ∷ [] says declares_variable k) ∷ []
rows (initial k) = (the ";" ↣ sort (variables k) ∷ [] says silence) ∷ (the "=" ↣ sort (value k) ∷ [] says silence) ∷ []
rows (value boolean) =
    valued boolean (the "UNKNOWN") silence ∷ valued boolean (the "true") (initial_truth true) ∷ valued boolean (the "false") (initial_truth false) ∷ []
rows (value integer) =
    valued integer (the "UNKNOWN") silence ∷ valued integer (up_to 9223372036854775807) (initial_whole false)
    ∷ (the "-" ↣ sort negated_integer ∷ [] says silence) ∷ []
rows (value float) =
    valued float (the "UNKNOWN") silence ∷ valued float real (initial_decimal false) ∷ valued float (up_to 999999999999999) (initial_decimal false)
    ∷ initial_exactly false ∷ (the "-" ↣ sort negated_real ∷ [] says silence) ∷ []
rows negated_integer = valued integer (up_to 9223372036854775808) (initial_whole true) ∷ []
rows negated_real = valued float real (initial_decimal true) ∷ valued float (up_to 999999999999999) (initial_decimal true) ∷ initial_exactly true ∷ []
rows (initial_pattern s) = (up_to 9218868437227405311 ↣ [] says initial_bits s) ∷ []
rows (pattern s) = (up_to 9218868437227405311 ↣ [] says bits s) ∷ []
rows (operand c) =
    (the "true" ↣ sort (operator c) ∷ [] says truth true) ∷ (the "false" ↣ sort (operator c) ∷ [] says truth false)
    ∷ (name ↣ sort (after_name c) ∷ [] says mentions)
    ∷ (the "(" ↣ sort (operand bracket) ∷ sort (operator c) ∷ [] says parenthesis)
    ∷ (the "!" ↣ sort (operand c) ∷ [] says negates) ∷ (the "NOT" ↣ sort (operand c) ∷ [] says negates)
    ∷ (up_to 9223372036854775807 ↣ sort (operator c) ∷ [] says whole false) ∷ (real ↣ sort (operator c) ∷ [] says decimal false) ∷ exactly false c
    ∷ (the "-" ↣ sort (negative c) ∷ [] says silence)
    ∷ lookup c "LookupNow" ∷ lookup c "LookupOnChange"
    ∷ unknown_of c boolean ∷ unknown_of c integer ∷ unknown_of c float ∷ []
rows (negative c) =
    (up_to 9223372036854775808 ↣ sort (operator c) ∷ [] says whole true) ∷ (real ↣ sort (operator c) ∷ [] says decimal true) ∷ exactly true c ∷ []
rows lookup_used = (name ↣ [] says reads) ∷ []
rows (operator c) = operations c
rows (after_name c) = (the "." ↣ sort (property c) ∷ [] says silence) ∷ operations c
rows (property c) =
    (the "state" ↣ sort (compared status c) ∷ [] says silence) ∷ (the "outcome" ↣ sort (compared outcome c) ∷ [] says silence)
    ∷ (the "failure" ↣ sort (compared failure c) ∷ [] says silence) ∷ (the "failureType" ↣ sort (compared failure c) ∷ [] says silence)
    ∷ (name ↣ sort (after_path c) ∷ [] says descends) ∷ []
rows (after_path c) = (the "." ↣ sort (property c) ∷ [] says silence) ∷ []
rows (compared w c) = (the "==" ↣ sort (code w false c) ∷ [] says silence) ∷ (the "!=" ↣ sort (code w true c) ∷ [] says silence) ∷ []
rows (code w n c) = codes w n c 0 (code_words w)

-- the notation of plans
abbrev pub notation : Table
notation = record { Sort = Sort; Saying = Saying; reserved = reserved; silence = silence; rows = rows }

-- opens every definition of this file
unfoldable pub opened : Unit {0}
unfolding reserved operations code_words codes met once rows
opened = tt
