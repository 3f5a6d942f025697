-- Single definitions in vectors, on images and states that every call refuses earlier: what each says by itself.
use Rattle.std.specs.Prelude.{ℕ, false, List, [], ◌∷◌, get_or, set}
use mir.Val.{bool_byte}
use Rattle.plexil.specs.Image.{operand_b, owner, look_kind}
use Rattle.plexil.specs.Places.{status_of, status_code, fresh_state}
use Rattle.plexil.specs.Records.{kind_of_a}
use Rattle.plexil.specs.Scope.{shallow, given_pass, is_above, good_reach}
use Rattle.plexil.specs.Atomic.{settled}
use Rattle.plexil.specs.Micro.{step, sent}
use Rattle.plexil.specs.Macro.{entry_count, form}
use Rattle.plexil.specs.Assemble.{no, plain, only, a_list, a_command, an_assignment, expr, const, variable, plan, entry, event}
use Rattle.plexil.specs.Play.{statuses, marks, state_kept}
use Rattle.vectors.specs.Expressions.{nothing, nots}
use Rattle.vectors.specs.Records.{smallest, variables}

-- a condition and a value 13 deep
unfoldable pub too_deep : List ℕ
too_deep = plan (a_list no (only 0 12) ∷ an_assignment 0 0 plain 0 12 ∷ []) (const 0 1 ∷ nots 0 12) (variable 0 1 0 1 ∷ []) []

-- an entry of no operator, which has no operand and reads no variable
unfoldable pub no_operator : List ℕ
no_operator = plan (a_list no (only 0 0) ∷ []) (expr 15 0 0 0 0 ∷ []) [] []

-- 5 = 1.5, the one of another kind than the other
unfoldable pub two_kinds : List ℕ
two_kinds = plan (a_list no plain ∷ []) (const 1 5 ∷ const 2 4609434218613702656 ∷ expr 9 0 0 1 0 ∷ []) [] []

-- no reach at 13 levels; above no node after no steps; every condition that is given passes where none is given
unfoldable pub reaches : List ℕ
reaches =
    bool_byte (good_reach too_deep 0) ∷ bool_byte (good_reach too_deep 1) ∷ bool_byte (shallow no_operator 0) ∷ bool_byte (good_reach no_operator 0) ∷ bool_byte (is_above smallest 0 0 0)
    ∷ bool_byte (given_pass smallest 0 (λ e. false)) ∷ kind_of_a two_kinds 2 ∷ []

unfoldable pub reaches_expected : List ℕ
reaches_expected = 0 ∷ 0 ∷ 1 ∷ 1 ∷ 0 ∷ 1 ∷ 1 ∷ []

-- "count 16, spare 16"; "form 8, spare 8"; "b 16, spare 16"; "owner node 16, spare 32"; "kind 8, spare 8": the spare is 1, and no part of the field
unfoldable pub beside_spares : List ℕ
beside_spares =
    entry_count (set (event 0 []) 6 1) ∷ form (set (event 0 (entry 1 0 0 ∷ [])) 9 1) 0 ∷ operand_b (set (plan (a_list no plain ∷ []) (expr 3 0 0 6 0 ∷ []) [] []) 50 1) 0
    ∷ owner (set variables 48 1) 0 ∷ look_kind (set variables 109 1) 0 ∷ []

unfoldable pub beside_expected : List ℕ
beside_expected = 0 ∷ 1 ∷ 6 ∷ 0 ∷ 1 ∷ []

-- "list with all children Waiting or Finished, or command returned": a marked assignment is neither
unfoldable pub assignment : List ℕ
assignment = plan (an_assignment no 0 plain 0 0 ∷ []) (const 0 1 ∷ []) (variable 0 1 0 1 ∷ []) []

-- a command alone whose Inv is False: its word when it starts, an abort when it fails
unfoldable pub failing : List ℕ
failing = plan (a_command no (only 3 0) ∷ []) (const 0 0 ∷ []) [] []

-- no code past 6, no place past an array
unfoldable pub moves : List ℕ
moves =
    bool_byte (settled assignment (state_kept marks 0 1 (fresh_state assignment)) 0) ∷ sent failing (fresh_state failing) 0
    ∷ sent failing (state_kept statuses 0 2 (fresh_state failing)) 0 ∷ status_code (status_of 7)
    ∷ get_or (step (plan (a_list no plain ∷ a_list 0 plain ∷ []) [] [] []) nothing).status 1 9 ∷ []

unfoldable pub moves_expected : List ℕ
moves_expected = 0 ∷ 1 ∷ 2 ∷ 0 ∷ 0 ∷ []

-- opens every definition of this file
unfoldable pub opened : Unit {0}
unfolding too_deep no_operator two_kinds reaches reaches_expected beside_spares beside_expected assignment failing moves moves_expected
opened = tt
