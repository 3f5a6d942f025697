-- The lines of docs/NOTATION.md's block, as the rows say them: the page and the rows cannot drift.
use mathlib.Core.Path.{◌≡◌, refl}
use mathlib.Core.Bool.{Bool, false}
use mathlib.Core.List.{List, [], ◌∷◌}
use Prim.Native.String.{String}
use lib.ListN.{drop}
use Rattle.notation.specs.Sayings.{Kind, boolean, What, status, outcome, failure}
use Rattle.notation.specs.Rows.{Close, semicolon, bracket, lookup_name, operand, operator, after_name, negative, property, compared, code}
use Rattle.notation.specs.Rows as Rows
use Rattle.notation.specs.Page as Page

-- the page's block, line for line
unfoldable pub page_lines : List String
page_lines =
    "Plan : \"{\" Attributes"
    ∷ "Plan : name \":\" \"{\" Attributes"
    ∷ "Plan : \"Command\" CommandName \"=\" CommandNumber \";\" Plan"
    ∷ "Plan : \"Boolean\" \"Lookup\" LookupName \";\" Plan"
    ∷ "Plan : \"Integer\" \"Lookup\" LookupName \";\" Plan"
    ∷ "Plan : \"Real\" \"Lookup\" LookupName \";\" Plan"
    ∷ "CommandName : name"
    ∷ "CommandNumber : 0..65534"
    ∷ "LookupName : name"
    ∷ "Nodes : \"}\" \"}\""
    ∷ "Nodes : \"{\" Attributes Nodes"
    ∷ "Nodes : name \":\" \"{\" Attributes Nodes"
    ∷ "Attributes : \"NodeList\" \":\" \"{\" Nodes"
    ∷ "Attributes : \"Command\" \":\" CalledName \"(\" \")\" \";\" \"}\""
    ∷ "Attributes : \"Assignment\" \":\" TargetName \"=\" Operand \"}\""
    ∷ "Attributes : \"Boolean\" \":\" \"{\" BooleanVariables Attributes"
    ∷ "Attributes : \"Integer\" \":\" \"{\" IntegerVariables Attributes"
    ∷ "Attributes : \"Real\" \":\" \"{\" RealVariables Attributes"
    ∷ "Attributes : \"SkipCondition\" \":\" Operand Attributes"
    ∷ "Attributes : \"StartCondition\" \":\" Operand Attributes"
    ∷ "Attributes : \"PreCondition\" \":\" Operand Attributes"
    ∷ "Attributes : \"InvariantCondition\" \":\" Operand Attributes"
    ∷ "Attributes : \"EndCondition\" \":\" Operand Attributes"
    ∷ "Attributes : \"PostCondition\" \":\" Operand Attributes"
    ∷ "Attributes : \"RepeatCondition\" \":\" Operand Attributes"
    ∷ "Attributes : \"RepeatUntilCondition\" \":\" Operand Attributes"
    ∷ "Attributes : \"Priority\" \":\" PriorityNumber \";\" Attributes"
    ∷ "CalledName : name"
    ∷ "TargetName : name"
    ∷ "PriorityNumber : 0..65535"
    ∷ "BooleanVariables : \"}\""
    ∷ "BooleanVariables : name BooleanInitial"
    ∷ "BooleanInitial : \";\" BooleanVariables"
    ∷ "BooleanInitial : \"=\" BooleanValue"
    ∷ "BooleanValue : \"UNKNOWN\" \";\" BooleanVariables"
    ∷ "BooleanValue : \"true\" \";\" BooleanVariables"
    ∷ "BooleanValue : \"false\" \";\" BooleanVariables"
    ∷ "IntegerVariables : \"}\""
    ∷ "IntegerVariables : name IntegerInitial"
    ∷ "IntegerInitial : \";\" IntegerVariables"
    ∷ "IntegerInitial : \"=\" IntegerValue"
    ∷ "IntegerValue : \"UNKNOWN\" \";\" IntegerVariables"
    ∷ "IntegerValue : 0..9223372036854775807 \";\" IntegerVariables"
    ∷ "IntegerValue : \"-\" NegatedInteger"
    ∷ "NegatedInteger : 0..9223372036854775808 \";\" IntegerVariables"
    ∷ "RealVariables : \"}\""
    ∷ "RealVariables : name RealInitial"
    ∷ "RealInitial : \";\" RealVariables"
    ∷ "RealInitial : \"=\" RealValue"
    ∷ "RealValue : \"UNKNOWN\" \";\" RealVariables"
    ∷ "RealValue : decimal \";\" RealVariables"
    ∷ "RealValue : 0..999999999999999 \";\" RealVariables"
    ∷ "RealValue : \"RealBits\" \"(\" InitialBits \")\" \";\" RealVariables"
    ∷ "RealValue : \"-\" NegatedReal"
    ∷ "NegatedReal : decimal \";\" RealVariables"
    ∷ "NegatedReal : 0..999999999999999 \";\" RealVariables"
    ∷ "NegatedReal : \"RealBits\" \"(\" InitialBits \")\" \";\" RealVariables"
    ∷ "InitialBits : 0..9218868437227405311"
    ∷ "Operand : \"true\" Operator"
    ∷ "Operand : \"false\" Operator"
    ∷ "Operand : name AfterName"
    ∷ "Operand : \"(\" Operand Operator"
    ∷ "Operand : \"!\" Operand"
    ∷ "Operand : \"NOT\" Operand"
    ∷ "Operand : 0..9223372036854775807 Operator"
    ∷ "Operand : decimal Operator"
    ∷ "Operand : \"RealBits\" \"(\" Bits \")\" Operator"
    ∷ "Operand : \"-\" Negative"
    ∷ "Operand : \"LookupNow\" \"(\" LookupUsed \")\" Operator"
    ∷ "Operand : \"LookupOnChange\" \"(\" LookupUsed \")\" Operator"
    ∷ "Operand : \"Boolean\" \"UNKNOWN\" Operator"
    ∷ "Operand : \"Integer\" \"UNKNOWN\" Operator"
    ∷ "Operand : \"Real\" \"UNKNOWN\" Operator"
    ∷ "Negative : 0..9223372036854775808 Operator"
    ∷ "Negative : decimal Operator"
    ∷ "Negative : \"RealBits\" \"(\" Bits \")\" Operator"
    ∷ "Bits : 0..9218868437227405311"
    ∷ "LookupUsed : name"
    ∷ "Operator : \";\""
    ∷ "Operator : \"||\" Operand"
    ∷ "Operator : \"OR\" Operand"
    ∷ "Operator : \"&&\" Operand"
    ∷ "Operator : \"AND\" Operand"
    ∷ "Operator : \"==\" Operand"
    ∷ "Operator : \"!=\" Operand"
    ∷ "Operator : \"<\" Operand"
    ∷ "Operator : \"<=\" Operand"
    ∷ "Operator : \">\" Operand"
    ∷ "Operator : \">=\" Operand"
    ∷ "Operator : \"+\" Operand"
    ∷ "Operator : \"-\" Operand"
    ∷ "Operator : \"*\" Operand"
    ∷ "AfterName : \".\" Property"
    ∷ "AfterName : \";\""
    ∷ "AfterName : \"||\" Operand"
    ∷ "AfterName : \"OR\" Operand"
    ∷ "AfterName : \"&&\" Operand"
    ∷ "AfterName : \"AND\" Operand"
    ∷ "AfterName : \"==\" Operand"
    ∷ "AfterName : \"!=\" Operand"
    ∷ "AfterName : \"<\" Operand"
    ∷ "AfterName : \"<=\" Operand"
    ∷ "AfterName : \">\" Operand"
    ∷ "AfterName : \">=\" Operand"
    ∷ "AfterName : \"+\" Operand"
    ∷ "AfterName : \"-\" Operand"
    ∷ "AfterName : \"*\" Operand"
    ∷ "Property : \"state\" ComparedState"
    ∷ "Property : \"outcome\" ComparedOutcome"
    ∷ "Property : \"failure\" ComparedFailure"
    ∷ "Property : \"failureType\" ComparedFailure"
    ∷ "Property : name AfterPath"
    ∷ "AfterPath : \".\" Property"
    ∷ "ComparedState : \"==\" StateCode"
    ∷ "ComparedState : \"!=\" StateCode"
    ∷ "ComparedOutcome : \"==\" OutcomeCode"
    ∷ "ComparedOutcome : \"!=\" OutcomeCode"
    ∷ "ComparedFailure : \"==\" FailureCode"
    ∷ "ComparedFailure : \"!=\" FailureCode"
    ∷ "StateCode : \"INACTIVE\" Operator"
    ∷ "StateCode : \"WAITING\" Operator"
    ∷ "StateCode : \"EXECUTING\" Operator"
    ∷ "StateCode : \"FINISHING\" Operator"
    ∷ "StateCode : \"FAILING\" Operator"
    ∷ "StateCode : \"ITERATION_ENDED\" Operator"
    ∷ "StateCode : \"FINISHED\" Operator"
    ∷ "OutcomeCode : \"NONE\" Operator"
    ∷ "OutcomeCode : \"SUCCESS\" Operator"
    ∷ "OutcomeCode : \"FAILURE\" Operator"
    ∷ "OutcomeCode : \"SKIPPED\" Operator"
    ∷ "FailureCode : \"NONE\" Operator"
    ∷ "FailureCode : \"PRE\" Operator"
    ∷ "FailureCode : \"POST\" Operator"
    ∷ "FailureCode : \"INVARIANT\" Operator"
    ∷ "FailureCode : \"PARENT\" Operator"
    ∷ "FailureCode : \"WRITE_LOST\" Operator"
    ∷ "Operator : \")\""
    ∷ "AfterName : \")\""
    ∷ []

pub page-lines : Page.page_of ≡ page_lines
unfolding Rows.opened Page.opened page_lines
page-lines = refl

-- the sorts that the page leaves out have the lines of one that it shows: within parentheses, but for the sign that ends; whatever the kind or the sign of a "!="
pub operands-alike : Page.lines_of (operand bracket) ≡ Page.lines_of (operand semicolon)
unfolding Rows.opened Page.opened
operands-alike = refl

pub operators-alike : drop 1 (Page.lines_of (operator bracket)) ≡ drop 1 (Page.lines_of (operator semicolon))
unfolding Rows.opened Page.opened
operators-alike = refl

pub after-names-alike : drop 2 (Page.lines_of (after_name bracket)) ≡ drop 2 (Page.lines_of (after_name semicolon))
unfolding Rows.opened Page.opened
after-names-alike = refl

pub negatives-alike : Page.lines_of (negative bracket) ≡ Page.lines_of (negative semicolon)
unfolding Rows.opened Page.opened
negatives-alike = refl

pub properties-alike : Page.lines_of (property bracket) ≡ Page.lines_of (property semicolon)
unfolding Rows.opened Page.opened
properties-alike = refl

pub codes-alike : (w : What) (n : Bool) (c : Close) → Page.lines_of (code w n c) ≡ Page.lines_of (code w false semicolon)
unfolding Rows.opened Page.opened
codes-alike status n c = refl
codes-alike outcome n c = refl
codes-alike failure n c = refl

pub compared-alike : (w : What) (c : Close) → Page.lines_of (compared w c) ≡ Page.lines_of (compared w semicolon)
unfolding Rows.opened Page.opened
compared-alike w c = refl

pub lookups-alike : (k : Kind) → Page.lines_of (lookup_name k) ≡ Page.lines_of (lookup_name boolean)
unfolding Rows.opened Page.opened
lookups-alike k = refl
