-- Texts with what reading them answers: refusals with their places, how operators bind, literals, and texts that say the same.
use Rattle.std.specs.Prelude.{ℕ, zero, suc, Bool, true, false, List, [], ◌∷◌, ◌++◌, replicate, take, eqb}
use Prim.Native.String.{String}
use Rattle.std.proofs.Math.Option.{Option, none, some}
use Rattle.plexil.specs.Lists.{every}
use Rattle.grammar.specs.Leads.{bytes, same}
use Rattle.grammar.specs.Table.{Said}
use Rattle.notation.specs.Sayings.{Saying, boolean, integer, float, status, outcome}
use Rattle.notation.specs.Draft.{Entry, constant, unknown_of, about, negation, two, or, and, eq, lt, le, add, sub, mul}
use Rattle.notation.specs.Hearing.{draft_of}
use Rattle.notation.specs.Abstract as Abstract
use Rattle.notation.specs.Abstract.{Abstract, Expr, node, Task, Forest}
use Rattle.notation.specs.Writing as Writing
use Rattle.notation.specs.Writing.{write}
use Rattle.notation.specs.Reading.{Reading, plan_says, read_reply}

-- ---- the number and the place that a text is answered with
pub record Answered : Type 0 where
  pub text : List ℕ
  pub room : ℕ
  pub number : ℕ
  pub place : ℕ

-- a text, with room for every image of the table
abbrev pub answers : String → ℕ → ℕ → Answered
answers t n k = record { text = bytes t; room = 600; number = n; place = k }

unfoldable pub is_answered : Answered → Reading → Bool
is_answered a r = every (eqb r.number a.number ∷ eqb r.place a.place ∷ [])

unfoldable pub all_answered : List Answered → Bool
all_answered [] = true
all_answered (a ∷ later) = elim (is_answered a (read_reply a.text (replicate a.room 0))) [ true ↦ all_answered later | false ↦ false ]

-- 40: "the length of the longest prefix that some text of the grammar begins with"
unfoldable pub not_of_the_grammar : List Answered
not_of_the_grammar =
    answers "" 40 0
    -- the end of the text is its beginning's end: in a comment, in a word, before the last brace
    ∷ answers "/* cut" 40 6 ∷ answers "// cut" 40 6 ∷ answers "{ NodeLi" 40 8 ∷ answers "{ NodeList: { }" 40 15
    -- a second Priority is refused after "Pr": PreCondition begins so. ExitCondition is kept for a later edition: EndCondition begins with its "E"
    ∷ answers "{ Priority: 1; Priority: 2; NodeList: { } }" 40 17 ∷ answers "{ PreCondition: true; PreCondition: true; NodeList: { } }" 40 24
    ∷ answers "{ RepeatUntilCondition: true; RepeatCondition: true; NodeList: { } }" 40 32 ∷ answers "{ ExitCondition: true; NodeList: { } }" 40 3 ∷ answers "{ Skipp" 40 6
    -- a word of the notation is no name, but a longer word may begin with it
    ∷ answers "state: { NodeList: { } }" 40 5 ∷ answers "Command outcome = 1; { NodeList: { } }" 40 15 ∷ answers "ExitCondition: { NodeList: { } }" 40 13 ∷ answers "INTERRUPTED: { NodeList: { } }" 40 11
    -- numbers out of range, decimals of more than 15 digits, no exponents
    ∷ answers "{ Priority: 65536; NodeList: { } }" 40 16 ∷ answers "Command go = 65535; { NodeList: { } }" 40 17 ∷ answers "{ SkipCondition: 1.234567890123456 == 1.0; NodeList: { } }" 40 33
    ∷ answers "{ SkipCondition: 1e5 == 1; NodeList: { } }" 40 18 ∷ answers "{ SkipCondition: 1. == 1.0; NodeList: { } }" 40 19
    -- a parenthesis too many, a name of two parts that asks nothing, a slash, a second plan
    ∷ answers "{ SkipCondition: (true)); NodeList: { } }" 40 23 ∷ answers "{ SkipCondition: A.B == 1; NodeList: { } }" 40 21 ∷ answers "{ NodeList: { } } /x" 40 19 ∷ answers "{ NodeList: { } } { NodeList: { } }" 40 18
    -- a node without a body
    ∷ answers "{ Priority: 1; }" 40 15 ∷ []

-- a node with k lists around it
unfoldable pub within : ℕ → List ℕ → List ℕ
within zero u = u
within (suc k) u = bytes "{NodeList:{" ++ (within k u ++ bytes "}}")

abbrev pub deep : ℕ → String → ℕ → ℕ → Answered
deep k t n place = record { text = within k (bytes t); room = 600; number = n; place = place }

-- 41: "the place of the first node past level 16 (its name, else its brace)"; after 40 and before 42
unfoldable pub too_deeps : List Answered
too_deeps =
    deep 15 "{NodeList:{}}" 0 0 ∷ deep 16 "{NodeList:{}}" 41 176 ∷ deep 16 "Deep:{NodeList:{}}" 41 176 ∷ deep 15 "{NodeList:{{NodeList:{}} Deep:{NodeList:{}}}}" 41 176
    ∷ deep 16 "{NodeList:{}" 40 220 ∷ deep 16 "{Command:go();}" 41 176 ∷ []

-- 42: "the place of the first name, in text order, that is undeclared or a second declaration (of a path the first part that is not found)"
unfoldable pub bad_names : List Answered
bad_names =
    answers "{ Assignment: x = 1; }" 42 14 ∷ answers "{ SkipCondition: x; NodeList: { } }" 42 17 ∷ answers "{ Command: go(); }" 42 11
    ∷ answers "{ SkipCondition: LookupNow(power); NodeList: { } }" 42 27 ∷ answers "{ SkipCondition: A.state == FINISHED; NodeList: { } }" 42 17
    -- the parts of a path: strictly down from the first
    ∷ answers "R: { SkipCondition: R.A.state == WAITING; NodeList: { } }" 42 22 ∷ answers "R: { SkipCondition: R.R.state == WAITING; NodeList: { } }" 42 22
    ∷ answers "R: { SkipCondition: R.A.B.outcome == SKIPPED; NodeList: { A: { NodeList: { } } B: { NodeList: { } } } }" 42 24
    -- second declarations
    ∷ answers "Command go = 1; Command go = 2; { NodeList: { } }" 42 24 ∷ answers "Integer Lookup a; Real Lookup a; { NodeList: { } }" 42 30
    ∷ answers "{ Integer: { x; x; } NodeList: { } }" 42 16 ∷ answers "{ Integer: { x; } Real: { x; } NodeList: { } }" 42 26
    ∷ answers "{ NodeList: { A: { NodeList: { } } A: { NodeList: { } } } }" 42 35
    -- a sibling's variable is not in reach, nor a child's
    ∷ answers "{ NodeList: { { Boolean: { x; } NodeList: { } } { SkipCondition: x; NodeList: { } } } }" 42 65
    -- the first in text order, whatever it is
    ∷ answers "{ SkipCondition: y; Integer: { x; x; } NodeList: { } }" 42 17
    -- in order: four name spaces, one name in two nodes, a use before the declaration, a node by its parent's child
    ∷ answers "Command a = 1; Boolean Lookup a; a: { Boolean: { a; } SkipCondition: a AND LookupNow(a) AND a.state == WAITING; NodeList: { { Command: a(); } } }" 0 0
    ∷ answers "{ SkipCondition: x; Boolean: { x; } NodeList: { { Boolean: { x; } Assignment: x = x; } } }" 0 0
    ∷ answers "{ NodeList: { A: { SkipCondition: B.state == WAITING; NodeList: { } } B: { SkipCondition: A.state == WAITING; NodeList: { } } } }" 0 0
    ∷ answers "R: { NodeList: { { SkipCondition: R.B.state == WAITING AND B.failureType == PRE; NodeList: { } } B: { NodeList: { } } } }" 0 0 ∷ []

-- the text between a beginning and an end, k times
unfoldable pub many : ℕ → String → List ℕ
many zero t = []
many (suc k) t = bytes t ++ many k t

abbrev pub counted : String → ℕ → String → String → ℕ → ℕ → ℕ → Answered
counted front k t back room n place = record { text = bytes front ++ (many k t ++ bytes back); room = room; number = n; place = place }

-- 3 Count after 42 and before 43
unfoldable pub counts : List Answered
counts =
    counted "{ NodeList: { " 256 "{NodeList:{}}" "} }" 10 3 0 ∷ counted "{ NodeList: { " 255 "{NodeList:{}}" "} }" 10 43 0
    ∷ counted "{ NodeList: { " 256 "{NodeList:{}}" "{ Command: go(); } } }" 10 42 3353 ∷ []

-- 43, and then the check's own
unfoldable pub checks : List Answered
checks =
    record { text = bytes "{NodeList:{}}"; room = 43; number = 43; place = 0 } ∷ record { text = bytes "{NodeList:{}}"; room = 44; number = 0; place = 0 }
    -- "Kinds are no matter of the grammar: `x + true` is 9"; an Integer beside a Real; 10 with the entry; 11 with the node
    ∷ answers "{ Integer: { x; } Assignment: x = x + true; }" 9 2 ∷ answers "{ SkipCondition: 1 == 1.0; NodeList: { } }" 9 2
    ∷ counted "{ SkipCondition: " 11 "NOT " "true; NodeList: { } }" 300 0 0 ∷ counted "{ SkipCondition: " 12 "NOT " "true; NodeList: { } }" 300 10 12
    ∷ answers "{ SkipCondition: 1; NodeList: { } }" 11 0 ∷ answers "{ NodeList: { { Integer: { x; } Assignment: x = true; } } }" 11 1 ∷ []

-- ---- the entries of an expression
unfoldable pub entries_of : Option (List (Said Saying)) → List Entry
entries_of none = []
entries_of (some l) = (draft_of l).entries

-- the entries of a condition of the plan's node
unfoldable pub formula : String → List Entry
formula t = entries_of (plan_says (bytes "{SkipCondition:" ++ (bytes t ++ bytes ";NodeList:{}}")))

abbrev pub v : String → Entry
v x = Entry.variable 0 (bytes x)

unfoldable pub formulas : List (List Entry)
formulas =
    formula "NOT LookupNow(humidity) > 60.0" ∷ formula "a OR b AND c" ∷ formula "a && b || c" ∷ formula "a - b - c" ∷ formula "a != b" ∷ formula "a > b" ∷ formula "a >= b"
    ∷ formula "a + b * c" ∷ formula "(a + b) * c" ∷ formula "a * b + c" ∷ formula "!a AND b" ∷ formula "NOT NOT a" ∷ formula "a < b == c" ∷ formula "((((a))))" ∷ formula "NOT (a OR b)"
    ∷ formula "A.state != WAITING" ∷ formula "A.B.outcome == SKIPPED OR a" ∷ formula "Boolean UNKNOWN == Boolean UNKNOWN" ∷ []

unfoldable pub formulas_expected : List (List Entry)
formulas_expected =
    (Entry.lookup (bytes "humidity") ∷ constant float 4633641066610819072 ∷ two lt 1 0 ∷ negation 2 ∷ [])
    ∷ (v "a" ∷ v "b" ∷ v "c" ∷ two and 1 2 ∷ two or 0 3 ∷ [])
    ∷ (v "a" ∷ v "b" ∷ two and 0 1 ∷ v "c" ∷ two or 2 3 ∷ [])
    ∷ (v "a" ∷ v "b" ∷ two sub 0 1 ∷ v "c" ∷ two sub 2 3 ∷ [])
    ∷ (v "a" ∷ v "b" ∷ two eq 0 1 ∷ negation 2 ∷ [])
    ∷ (v "a" ∷ v "b" ∷ two lt 1 0 ∷ [])
    ∷ (v "a" ∷ v "b" ∷ two le 1 0 ∷ [])
    ∷ (v "a" ∷ v "b" ∷ v "c" ∷ two mul 1 2 ∷ two add 0 3 ∷ [])
    ∷ (v "a" ∷ v "b" ∷ two add 0 1 ∷ v "c" ∷ two mul 2 3 ∷ [])
    ∷ (v "a" ∷ v "b" ∷ two mul 0 1 ∷ v "c" ∷ two add 2 3 ∷ [])
    ∷ (v "a" ∷ negation 0 ∷ v "b" ∷ two and 1 2 ∷ [])
    ∷ (v "a" ∷ negation 0 ∷ negation 1 ∷ [])
    ∷ (v "a" ∷ v "b" ∷ two lt 0 1 ∷ v "c" ∷ two eq 2 3 ∷ [])
    ∷ (v "a" ∷ [])
    ∷ (v "a" ∷ v "b" ∷ two or 0 1 ∷ negation 2 ∷ [])
    ∷ (about status 0 (bytes "A" ∷ []) 1 ∷ negation 0 ∷ [])
    ∷ (about outcome 0 (bytes "A" ∷ bytes "B" ∷ []) 3 ∷ v "a" ∷ two or 0 1 ∷ [])
    ∷ (unknown_of boolean ∷ unknown_of boolean ∷ two eq 0 1 ∷ [])
    ∷ []

-- ---- literals: a decimal rounded once, the sign of a zero, the exact form, the ends of the ranges
unfoldable pub literals : List (List Entry)
literals =
    formula "0.1" ∷ formula "RealBits(4591870180066957722)" ∷ formula "-0.0" ∷ formula "0.0" ∷ formula "-RealBits(0)" ∷ formula "123456789.012345" ∷ formula "0.00000000000001" ∷ formula "999999999999.999"
    ∷ formula "RealBits(9218868437227405311)" ∷ formula "9223372036854775807" ∷ formula "-9223372036854775808" ∷ formula "-1" ∷ formula "007" ∷ formula "true" ∷ formula "false" ∷ []

abbrev pub one : Entry → List Entry
one e = e ∷ []

unfoldable pub literals_expected : List (List Entry)
literals_expected =
    one (constant float 4591870180066957722) ∷ one (constant float 4591870180066957722) ∷ one (constant float 9223372036854775808) ∷ one (constant float 0) ∷ one (constant float 9223372036854775808)
    ∷ one (constant float 4728057454347985963) ∷ one (constant float 4397347889687374747) ∷ one (constant float 4786511204640096248)
    ∷ one (constant float 9218868437227405311) ∷ one (constant integer 9223372036854775807) ∷ one (constant integer 9223372036854775808) ∷ one (constant integer 18446744073709551615)
    ∷ one (constant integer 7) ∷ one (constant boolean 1) ∷ one (constant boolean 0) ∷ []

-- ---- two texts with one image
pub record Alike : Type 0 where
  pub text : List ℕ
  pub other : List ℕ

unfoldable pub same_reading : Reading → Reading → Bool
same_reading r q = every (eqb r.number 0 ∷ eqb q.number 0 ∷ same (take r.made r.image) (take q.made q.image) ∷ [])

unfoldable pub all_alike : List Alike → Bool
all_alike [] = true
all_alike (a ∷ later) = elim (same_reading (read_reply a.text (replicate 600 0)) (read_reply a.other (replicate 600 0))) [ true ↦ all_alike later | false ↦ false ]

abbrev pub alike : String → String → Alike
alike a b = record { text = bytes a; other = bytes b }

-- comments of both sorts, no blanks, a sign for each word, parentheses, RepeatUntilCondition "as document 01 decides (True means run again)", a whole number for a Real
unfoldable pub alikes : List Alike
alikes =
    record { text = bytes "// to the line's end: */ /* \"" ++ (10 ∷ bytes "{/**/NodeList/* * / */:{}}// }"); other = bytes "{NodeList:{}}" }
    ∷ record { text = bytes "{" ++ (13 ∷ 10 ∷ 9 ∷ bytes "NodeList : { } } // end"); other = bytes "{NodeList:{}}" }
    ∷ alike "{SkipCondition:true OR NOT false AND true;NodeList:{}}" "{SkipCondition:true||!false&&true;NodeList:{}}"
    ∷ alike "{SkipCondition:(true)==(((false)));NodeList:{}}" "{SkipCondition:true==false;NodeList:{}}"
    ∷ alike "{RepeatUntilCondition:false;NodeList:{}}" "{RepeatCondition:false;NodeList:{}}"
    ∷ alike "{Real:{x=-2;}NodeList:{}}" "{Real:{x=-2.0;}NodeList:{}}" ∷ alike "{Integer:{x=-0;y=UNKNOWN;}NodeList:{}}" "{Integer:{x=0;y;}NodeList:{}}"
    ∷ alike "{SkipCondition:x.failure==PARENT;NodeList:{x:{NodeList:{}}}}" "A:{SkipCondition:A.x.failureType==PARENT;NodeList:{x:{NodeList:{}}}}"
    ∷ alike "Real Lookup h;{SkipCondition:LookupOnChange(h)>1.5;NodeList:{}}" "Real Lookup h;{SkipCondition:LookupNow(h)>1.5;NodeList:{}}" ∷ []

-- ---- an abstract plan, and the small plan K6 that it is
abbrev pub x : Expr
x = Expr.variable (bytes "x")

abbrev pub whole : ℕ → Expr
whole n = Expr.constant integer n

-- no condition but the last
abbrev pub repeats : Option Expr → List (Option Expr)
repeats e = none ∷ none ∷ none ∷ none ∷ none ∷ none ∷ e ∷ []

unfoldable pub k6 : Abstract
k6 = record {
  commands = [];
  lookups = [];
  root = node [] (record { name = bytes "x"; kind = integer; initial = some 0 } ∷ []) 0 (repeats none)
      (Task.list (Forest.also (node [] [] 0 (repeats (some (Expr.both lt x (whole 3)))) (Task.assignment (bytes "x") (Expr.both add x (whole 1)))) Forest.bare));
}

unfoldable pub written_k6 : List Alike
written_k6 = record { text = write k6; other = bytes "{ Integer: { x = 0; } NodeList: { { RepeatCondition: x < 3; Assignment: x = x + 1; } } }" } ∷ []

-- opens every definition of this file
unfoldable pub opened : Unit {0}
unfolding is_answered all_answered not_of_the_grammar within too_deeps bad_names many counts checks entries_of formula formulas formulas_expected literals literals_expected same_reading all_alike alikes k6 written_k6 Abstract.opened Writing.opened
opened = tt
