-- The rows as the page docs/NOTATION.md shows them: a line for each row, `Sort : first then then ..`, words and signs in quotes.
use Rattle.std.specs.Prelude.{ℕ, zero, suc, ◌/◌, ◌%◌, true, false, List, [], ◌∷◌, ◌++◌, ltb}
use Prim.Native.String as Str
use Prim.Native.String.{String}
use Rattle.grammar.specs.Leads.{Lead, the, name, up_to, real}
use Rattle.grammar.specs.Table.{Item, lit, sort, Row}
use Rattle.notation.specs.Sayings.{Saying, boolean, integer, float, What, status, outcome, failure}
use Rattle.notation.specs.Rows.{semicolon, bracket, Sort, plan, nodes, command_name, command_number, called_name, target_name, lookup_used, priority, negated_integer, negated_real, lookup_name, attributes, variables, initial, value, initial_pattern, pattern, operand, operator, after_name, after_path, negative, property, compared, code, Rows, rows, closing, kind_word}

-- one text after another
infixr 40 ◌&◌
unfoldable pub ◌&◌ : String → String → String
◌&◌ Str.[] t = t
◌&◌ (Str.◌∷◌ c s) t = Str.◌∷◌ c (s & t)

unfoldable pub digit : ℕ → String
digit zero = "0"
digit (suc zero) = "1"
digit (suc (suc zero)) = "2"
digit (suc (suc (suc zero))) = "3"
digit (suc (suc (suc (suc zero)))) = "4"
digit (suc (suc (suc (suc (suc zero))))) = "5"
digit (suc (suc (suc (suc (suc (suc zero)))))) = "6"
digit (suc (suc (suc (suc (suc (suc (suc zero))))))) = "7"
digit (suc (suc (suc (suc (suc (suc (suc (suc zero)))))))) = "8"
digit (suc (suc (suc (suc (suc (suc (suc (suc (suc k))))))))) = "9"

-- a number of at most k digits more, before the digits t
unfoldable pub decimal_from : ℕ → ℕ → String → String
decimal_from zero n t = t
decimal_from (suc k) n t = elim (ltb n 10) [ true ↦ digit n & t | false ↦ decimal_from k (n / 10) (digit (n % 10) & t) ]

unfoldable pub quoted : String → String
quoted w = "\"" & (w & "\"")

unfoldable pub lead_text : Lead → String
lead_text (the w) = quoted w
lead_text name = "name"
lead_text (up_to n) = "0.." & decimal_from 20 n ""
lead_text real = "decimal"

unfoldable pub what_word : What → String
what_word status = "State"
what_word outcome = "Outcome"
what_word failure = "Failure"

-- a sort's name on the page; what ends an expression, and what a node has already, are not shown
unfoldable pub name_of : Sort → String
name_of plan = "Plan"
name_of nodes = "Nodes"
name_of command_name = "CommandName"
name_of command_number = "CommandNumber"
name_of called_name = "CalledName"
name_of target_name = "TargetName"
name_of lookup_used = "LookupUsed"
name_of priority = "PriorityNumber"
name_of negated_integer = "NegatedInteger"
name_of negated_real = "NegatedReal"
name_of (lookup_name k) = "LookupName"
name_of (attributes m) = "Attributes"
name_of (variables k) = kind_word k & "Variables"
name_of (initial k) = kind_word k & "Initial"
name_of (value k) = kind_word k & "Value"
name_of (initial_pattern s) = "InitialBits"
name_of (pattern s) = "Bits"
name_of (operand c) = "Operand"
name_of (operator c) = "Operator"
name_of (after_name c) = "AfterName"
name_of (after_path c) = "AfterPath"
name_of (negative c) = "Negative"
name_of (property c) = "Property"
name_of (compared w c) = "Compared" & what_word w
name_of (code w n c) = what_word w & "Code"

unfoldable pub item_text : Item Sort → String
item_text (lit w) = quoted w
item_text (sort x) = name_of x

unfoldable pub rest_text : List (Item Sort) → String
rest_text [] = ""
rest_text (i ∷ s) = " " & (item_text i & rest_text s)

unfoldable pub line : String → Row Sort Saying → String
line x r = x & (" : " & (lead_text r.lead & rest_text r.rest))

unfoldable pub lines : String → Rows → List String
lines x [] = []
lines x (r ∷ rs) = line x r ∷ lines x rs

-- the lines of a sort
unfoldable pub lines_of : Sort → List String
lines_of x = lines (name_of x) (rows x)

unfoldable pub all_lines : List Sort → List String
all_lines [] = []
all_lines (x ∷ xs) = lines_of x ++ all_lines xs

-- the sorts in the order of the page, an expression as it stands before ";"
unfoldable pub shown : List Sort
shown =
    plan ∷ command_name ∷ command_number ∷ lookup_name boolean ∷ nodes ∷ attributes [] ∷ called_name ∷ target_name ∷ priority
    ∷ variables boolean ∷ initial boolean ∷ value boolean ∷ variables integer ∷ initial integer ∷ value integer ∷ negated_integer
    ∷ variables float ∷ initial float ∷ value float ∷ negated_real ∷ initial_pattern false
    ∷ operand semicolon ∷ negative semicolon ∷ pattern false ∷ lookup_used ∷ operator semicolon ∷ after_name semicolon ∷ property semicolon ∷ after_path semicolon
    ∷ compared status semicolon ∷ compared outcome semicolon ∷ compared failure semicolon ∷ code status false semicolon ∷ code outcome false semicolon ∷ code failure false semicolon ∷ []

-- the page's block: the lines of these sorts; within parentheses ")" ends an expression
unfoldable pub page_of : List String
page_of = all_lines shown ++ (line "Operator" (closing bracket) ∷ line "AfterName" (closing bracket) ∷ [])

-- opens every definition of this file
unfoldable pub opened : Unit {0}
unfolding ◌&◌ digit decimal_from quoted lead_text what_word name_of item_text rest_text line lines lines_of all_lines shown page_of
opened = tt
