-- The code's replies for a row and a step, and the effects as the code has them.
use Rattle.std.specs.Prelude.{ℕ, ◌≡◌, ◌-◌, ◌<◌, cond, List, [], ◌∷◌, get_or, ltb, Option, Some, None}
use Rattle.recognise.specs.declared.Ahead.{Ahead}
use Rattle.recognise.specs.declared.tables.Move.{Move}
use Rattle.recognise.specs.declared.tables.Effect.{Effect}
use Rattle.recognise.specs.declared.tables.Effect.TheVariants as code
use Rattle.recognise.specs.declared.steps.Went.{Went}
use Rattle.recognise.specs.declared.counting.Change.{Change}
use Rattle.recognise.specs.declared.counting.Change.TheVariants as change
use Rattle.recognise.specs.Counting as counting
use Rattle.recognise.specs.Counting.{adds, command, lookup, node, opens, closes_one, variable, holds, answers, settles}
use Rattle.recognise.specs.Tables as rows
use Rattle.recognise.specs.Steps as plan
use Rattle.recognise.specs.Steps.{Stepped, goes_on, begins_node, begins_in_list, closes_list, opens_list, assigns, opens_paren, ends, closes_paren, marks}

unfoldable pub effect_is : Effect → plan.Effect
effect_is code.GoesOn = goes_on
effect_is code.BeginsNode = begins_node
effect_is code.BeginsInList = begins_in_list
effect_is code.ClosesList = closes_list
effect_is code.OpensList = opens_list
effect_is code.Assigns = assigns
effect_is code.OpensParen = opens_paren
effect_is code.Ends = ends
effect_is code.ClosesParen = closes_paren
effect_is (code.Marks n) = marks n

-- an attribute is one of eight
unfoldable pub Lawful : Effect → Type 0
Lawful e = (n : ℕ) → e ≡ code.Marks n → n < 8

unfoldable pub plain_effects : List (Option Effect)
plain_effects =
    None ∷ Some code.GoesOn ∷ Some code.BeginsNode ∷ Some code.BeginsInList ∷ Some code.ClosesList ∷ Some code.OpensList ∷ Some code.Assigns
    ∷ Some code.OpensParen ∷ Some code.Ends ∷ Some code.ClosesParen ∷ []

-- the effect of a number, none for that of no row
unfoldable pub effect_code : ℕ → Option Effect
effect_code e = cond (ltb e 10) (get_or plain_effects e None) (cond (ltb e 18) (Some (code.Marks (e - 10))) None)

-- the row, none where it has no effect
unfoldable pub row_with : Option Effect → rows.Move → Option Move
row_with None m = None
row_with (Some e) m = Some (record { effect = e; says = m.says; next = m.next })

unfoldable pub row_told : rows.Move → Option Move
row_told m = row_with (effect_code m.effect) m

-- a row to a position
abbrev pub to_position : ℕ → rows.Move
to_position at = record { effect = 0; says = 0; next = at }

unfoldable pub ahead_of : Stepped → Option Ahead
ahead_of s = cond s.ok (Some s.next) None

unfoldable pub came : Stepped → Option Went
came s = cond s.ok (Some (record { says = s.says; next = s.next })) None

-- a change as the code has it
unfoldable pub change_is : Change → counting.Change
change_is change.Adds = adds
change_is change.Command = command
change_is change.Lookup = lookup
change_is change.Node = node
change_is change.Opens = opens
change_is change.ClosesOne = closes_one
change_is change.Variable = variable
change_is change.Holds = holds
change_is change.Answers = answers
change_is change.Settles = settles

-- opens every definition of this file
unfoldable pub opened : Unit {0}
unfolding change_is effect_is Lawful plain_effects effect_code row_with row_told ahead_of came
opened = tt
