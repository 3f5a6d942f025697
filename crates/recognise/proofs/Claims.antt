-- The tables are the rows of the grammar: one test, worked out over every position and every class of tokens.
use Prim.Native.Nat.{ℕ, zero, suc}
use mathlib.Core.Bool.{Bool, true, false, cond}
use mathlib.Core.List.{List, [], ◌∷◌, ◌++◌}
use mathlib.Core.Option.{Option, none, some}
use lib.Dec.{eqb, ltb}
use Rattle.plexil.specs.Lists.{Found}
use Rattle.grammar.specs.Leads.{Lead, the, name, up_to, real, bytes}
use Rattle.grammar.specs.Table.{Item, lit, sort, Row, rows_of}
use Rattle.notation.specs.Sayings.{Saying, boolean, integer, float, silence, opens_list as opensList'}
use Rattle.notation.specs.Rows.{Close, semicolon, bracket, Sort, nodes, called_name, target_name, attributes, operand, operator, ◌↣◌says◌, rows, met, condition, prioritized, owned, notation}
use Rattle.notation.specs.Classes.{literals, literal_from, bound_from, bounds, within_bound, is_literal, a_name, a_real}
use Rattle.recognise.specs.Codes.{say_of}
use Rattle.recognise.specs.Positions.{Bottom, lists, body, expression, Position, position_at, operator_at}
use Rattle.recognise.specs.Tables.{Move, row_of}
use Rattle.recognise.specs.Steps.{Effect, refuses, goes_on, begins_node, begins_in_list, closes_list, opens_list, assigns, opens_paren, ends, closes_paren, marks, effect_of}

-- what a token of a class says, and the items that stand in place of the first
pub record Outcome : Type 0 where
  pub word : Saying
  pub items : List (Item Sort)

-- a row, and the attribute that it may give to a node only once
pub record Guarded : Type 0 where
  pub guard : Option ℕ
  pub row : Row Sort Saying

-- the classes of a lead, found once for each row
pub data Reach : Type 0 where
  only : Found → Reach
  named : Reach
  numbers : ℕ → Reach
  decimals : Reach

unfoldable pub reach_of : Lead → Reach
reach_of (the w) = only (literal_from 0 literals (bytes w))
reach_of name = named
reach_of (up_to n) = numbers n
reach_of real = decimals

unfoldable pub within : Reach → ℕ → Bool
within (only f) k = is_literal f k
within named k = eqb k a_name
within (numbers n) k = within_bound (bound_from 68 bounds k) n
within decimals k = eqb k a_real

-- what a row makes, with the items that follow the first
unfoldable pub made : List (Item Sort) → Row Sort Saying → Outcome
made s r = record { word = r.says; items = r.rest ++ s }

pub record Reached : Type 0 where
  pub reach : Reach
  pub guard : Option ℕ
  pub outcome : Outcome

unfoldable pub reached_of : List (Item Sort) → List Guarded → List Reached
reached_of s [] = []
reached_of s (g ∷ gs) = record { reach = reach_of g.row.lead; guard = g.guard; outcome = made s g.row } ∷ reached_of s gs

-- where the node has the attributes m
unfoldable pub allowed : List ℕ → Option ℕ → Outcome → Option Outcome
allowed m none o = some o
allowed m (some n) o = cond (met n m) none (some o)

unfoldable pub found : List ℕ → List Reached → ℕ → Option Outcome
found m [] k = none
found m (r ∷ rs) k = elim (within r.reach k) [ true ↦ allowed m r.guard r.outcome | false ↦ found m rs k ]

unfoldable pub free : List (Row Sort Saying) → List Guarded
free [] = []
free (r ∷ rs) = record { guard = none; row = r } ∷ free rs

unfoldable pub oncely : ℕ → Row Sort Saying → Guarded
oncely n r = record { guard = some n; row = r }

-- the rows of a node's attributes, each with its guard
unfoldable pub attributes_of : List ℕ → List Guarded
attributes_of m =
    free (
    (the "NodeList" ↣ lit ":" ∷ lit "{" ∷ sort nodes ∷ [] says opensList')
    ∷ (the "Command" ↣ lit ":" ∷ sort called_name ∷ lit "(" ∷ lit ")" ∷ lit ";" ∷ lit "}" ∷ [] says silence)
    ∷ (the "Assignment" ↣ lit ":" ∷ sort target_name ∷ lit "=" ∷ sort (operand semicolon) ∷ lit "}" ∷ [] says silence)
    ∷ owned m boolean ∷ owned m integer ∷ owned m float ∷ []
    )
    ++ (oncely 0 (condition m 0 "SkipCondition") ∷ oncely 1 (condition m 1 "StartCondition") ∷ oncely 2 (condition m 2 "PreCondition")
    ∷ oncely 3 (condition m 3 "InvariantCondition") ∷ oncely 4 (condition m 4 "EndCondition") ∷ oncely 5 (condition m 5 "PostCondition")
    ∷ oncely 6 (condition m 6 "RepeatCondition") ∷ oncely 6 (condition m 6 "RepeatUntilCondition") ∷ oncely 7 (prioritized m) ∷ [])

-- what lies between the front of a position and what a token leaves as it is
unfoldable pub stub : List ℕ → Bottom → List (Item Sort)
stub m lists = []
stub m body = sort (attributes m) ∷ []
stub m expression = []

unfoldable pub shown : List ℕ → Position → List (Item Sort)
shown m p = p.front ++ stub m p.bottom

-- the rows at a position with the front f and the bottom b
unfoldable pub reached_at : List ℕ → List (Item Sort) → Bottom → List Reached
reached_at m (f ∷ fs) b = reached_of (fs ++ stub m b) (free (rows_of notation f))
reached_at m [] lists = reached_of [] (free (rows nodes))
reached_at m [] body = reached_of [] (attributes_of m)
reached_at m [] expression = []

-- which effects a position can have
pub data Where : Type 0 where
  in_front in_lists in_body never : Where

unfoldable pub where_of : List (Item Sort) → Bottom → Where
where_of (f ∷ fs) b = in_front
where_of [] lists = in_lists
where_of [] body = in_body
where_of [] expression = never

unfoldable pub as_lists : Bottom → Option (List (Item Sort)) → Option (Option (List (Item Sort)))
as_lists lists x = some x
as_lists body x = none
as_lists expression x = none

unfoldable pub as_body : Bottom → Option (List (Item Sort)) → Option (Option (List (Item Sort)))
as_body lists x = none
as_body body x = some x
as_body expression x = none

unfoldable pub as_expression : Bottom → Option (List (Item Sort)) → Option (Option (List (Item Sort)))
as_expression lists x = none
as_expression body x = none
as_expression expression x = some x

unfoldable pub in_lists' : Bottom → Option (Option (List (Item Sort))) → Option (Option (List (Item Sort)))
in_lists' lists x = x
in_lists' body x = none
in_lists' expression x = none

unfoldable pub in_expression : Bottom → Option (Option (List (Item Sort))) → Option (Option (List (Item Sort)))
in_expression lists x = none
in_expression body x = none
in_expression expression x = x

-- the bottoms b and q leave the same as it is
unfoldable pub alike : Bottom → Bottom → Option (List (Item Sort)) → Option (Option (List (Item Sort)))
alike lists lists x = some x
alike lists body x = some x
alike lists expression x = none
alike body lists x = some x
alike body body x = some x
alike body expression x = none
alike expression lists x = none
alike expression body x = none
alike expression expression x = some x

unfoldable pub ends_by : Close → Option (List (Item Sort))
ends_by semicolon = some []
ends_by bracket = none

unfoldable pub closes_by : Close → Option (List (Item Sort))
closes_by semicolon = none
closes_by bracket = some []

-- what follows an attribute: an expression, or the rest of the node
unfoldable pub given : List ℕ → ℕ → Bottom → Option (Option (List (Item Sort)))
given m q lists = none
given m q body = some (some (shown m (position_at semicolon q)))
given m q expression = some (some ((position_at semicolon q).front ++ (sort (attributes m) ∷ [])))

-- what a row's effect leaves in place of the first item: none where the effect has no place here
unfoldable pub expected_in_front : List ℕ → Close → Bottom → ℕ → Effect → Option (Option (List (Item Sort)))
expected_in_front m c b q refuses = some none
expected_in_front m c b q goes_on = alike b (position_at c q).bottom (some (shown m (position_at c q)))
expected_in_front m c b q begins_node = in_lists' b (as_body (position_at c q).bottom (some (shown [] (position_at c q))))
expected_in_front m c b q begins_in_list = none
expected_in_front m c b q closes_list = none
expected_in_front m c b q opens_list = none
expected_in_front m c b q assigns = none
expected_in_front m c b q opens_paren =
    in_expression b (as_expression (position_at bracket q).bottom (some ((position_at bracket q).front ++ (sort (operator c) ∷ []))))
expected_in_front m c b q ends = as_expression b (ends_by c)
expected_in_front m c b q closes_paren = cond (eqb q operator_at) (as_expression b (closes_by c)) none
expected_in_front m c b q (marks n) = none

unfoldable pub expected_in_lists : Close → ℕ → Effect → Option (Option (List (Item Sort)))
expected_in_lists c q refuses = some none
expected_in_lists c q goes_on = none
expected_in_lists c q begins_node = none
expected_in_lists c q begins_in_list = as_body (position_at c q).bottom (some (shown [] (position_at c q) ++ (sort nodes ∷ [])))
expected_in_lists c q closes_list = as_lists (position_at c q).bottom (some (position_at c q).front)
expected_in_lists c q opens_list = none
expected_in_lists c q assigns = none
expected_in_lists c q opens_paren = none
expected_in_lists c q ends = none
expected_in_lists c q closes_paren = none
expected_in_lists c q (marks n) = none

unfoldable pub expected_in_body : List ℕ → Close → ℕ → Effect → Option (Option (List (Item Sort)))
expected_in_body m c q refuses = some none
expected_in_body m c q goes_on = alike body (position_at c q).bottom (some (shown m (position_at c q)))
expected_in_body m c q begins_node = none
expected_in_body m c q begins_in_list = none
expected_in_body m c q closes_list = none
expected_in_body m c q opens_list = as_lists (position_at c q).bottom (some ((position_at c q).front ++ (sort nodes ∷ [])))
expected_in_body m c q assigns = as_expression (position_at semicolon q).bottom (some ((position_at semicolon q).front ++ (lit "}" ∷ [])))
expected_in_body m c q opens_paren = none
expected_in_body m c q ends = none
expected_in_body m c q closes_paren = none
expected_in_body m c q (marks n) = cond (ltb n 8) (given (n ∷ m) q (position_at semicolon q).bottom) none

unfoldable pub expected : List ℕ → Close → Where → Bottom → ℕ → Effect → Option (Option (List (Item Sort)))
expected m c in_front b q e = expected_in_front m c b q e
expected m c in_lists b q e = expected_in_lists c q e
expected m c in_body b q e = expected_in_body m c q e
expected m c never b q e = none

-- with what the token says
unfoldable pub saying : Saying → Option (Option (List (Item Sort))) → Option (Option Outcome)
saying w none = none
saying w (some none) = some none
saying w (some (some s)) = some (some (record { word = w; items = s }))

-- an attribute comes only once
unfoldable pub unless : Bool → Option (Option Outcome) → Option (Option Outcome)
unless b none = none
unless b (some x) = some (cond b none x)

unfoldable pub only_once : List ℕ → Effect → Option (Option Outcome) → Option (Option Outcome)
only_once m refuses x = x
only_once m goes_on x = x
only_once m begins_node x = x
only_once m begins_in_list x = x
only_once m closes_list x = x
only_once m opens_list x = x
only_once m assigns x = x
only_once m opens_paren x = x
only_once m ends x = x
only_once m closes_paren x = x
only_once m (marks n) x = unless (met n m) x

unfoldable pub tabled : List ℕ → Close → Where → Bottom → Move → Option (Option Outcome)
tabled m c w b r = only_once m (effect_of r.effect) (saying (say_of r.says) (expected m c w b r.next (effect_of r.effect)))

-- a list of what a function makes of the numbers i, i + 1, ..
unfoldable pub listing {ℓ} : {A : Type ℓ} → (ℕ → A) → ℕ → ℕ → List A
listing f i zero = []
listing f i (suc n) = f i ∷ listing f (suc i) n

unfoldable pub rowed_at : List ℕ → List (Item Sort) → Bottom → List (Option (Option Outcome))
rowed_at m f b = let rs = reached_at m f b in listing (λ k. some (found m rs k)) 0 76

unfoldable pub tabled_at : List ℕ → Close → ℕ → List (Item Sort) → Bottom → List (Option (Option Outcome))
tabled_at m c p f b = let w = where_of f b in listing (λ k. tabled m c w b (row_of p k)) 0 76

unfoldable pub all_rowed : List ℕ → Close → List (List (Option (Option Outcome)))
all_rowed m c = listing (λ p. rowed_at m (position_at c p).front (position_at c p).bottom) 0 78

unfoldable pub all_tabled : List ℕ → Close → List (List (Option (Option Outcome)))
all_tabled m c = listing (λ p. tabled_at m c p (position_at c p).front (position_at c p).bottom) 0 78

-- opens every definition of this file
unfoldable pub opened : Unit {0}
unfolding reach_of within made reached_of allowed found free oncely attributes_of stub shown reached_at where_of as_lists as_body as_expression in_lists' in_expression alike ends_by closes_by given expected_in_front expected_in_lists expected_in_body expected saying unless only_once tabled listing rowed_at tabled_at all_rowed all_tabled
opened = tt
