-- One token more: what the row that it begins does to what is still to come.
use Rattle.std.specs.Prelude.{ℕ, ◌+◌, ◌-◌, Bool, true, false, cond, List, [], ◌∷◌, get_or, set, eqb, ltb}
use Rattle.recognise.specs.declared.Ahead.{Ahead}
use Rattle.recognise.specs.Positions.{body_at, brace_at}
use Rattle.recognise.specs.Tables.{Move, row_of}

-- whether a token can come, what it says, and what is to come after it
pub record Stepped : Type 0 where
  pub next : Ahead
  pub ok : Bool
  pub says : ℕ

-- what a row does to the counts
pub data Effect : Type 0 where
  refuses goes_on begins_node begins_in_list closes_list opens_list assigns opens_paren ends closes_paren : Effect
  marks : ℕ → Effect

-- the effects in the order of their numbers
unfoldable pub effect_list : List Effect
effect_list =
    refuses ∷ goes_on ∷ begins_node ∷ begins_in_list ∷ closes_list ∷ opens_list ∷ assigns ∷ opens_paren ∷ ends ∷ closes_paren
    ∷ marks 0 ∷ marks 1 ∷ marks 2 ∷ marks 3 ∷ marks 4 ∷ marks 5 ∷ marks 6 ∷ marks 7 ∷ []

unfoldable pub effect_of : ℕ → Effect
effect_of e = get_or effect_list e refuses

-- no attribute is marked
abbrev pub unmarked : List ℕ
unmarked = 0 ∷ 0 ∷ 0 ∷ 0 ∷ 0 ∷ 0 ∷ 0 ∷ 0 ∷ []

-- at the beginning of a text
abbrev pub start_ahead : Ahead
start_ahead = record { at = 0; met = unmarked; rear = 0; parens = 0; lists = 0 }

-- the largest count
abbrev pub most : ℕ
most = 18446744073709551615

abbrev pub refused : Ahead → Stepped
refused a = record { ok = false; says = 0; next = a }

abbrev pub went : ℕ → Ahead → Stepped
went w a = record { ok = true; says = w; next = a }

-- where an expression ends: after a condition, or after an assignment
unfoldable pub rear_at : ℕ → ℕ
rear_at r = cond (eqb r 0) body_at brace_at

unfoldable pub moved : Ahead → Move → Effect → Stepped
moved a m refuses = refused a
moved a m goes_on = went m.says (record { at = m.next; met = a.met; rear = a.rear; parens = a.parens; lists = a.lists })
moved a m begins_node = went m.says (record { at = m.next; met = unmarked; rear = a.rear; parens = a.parens; lists = a.lists })
moved a m begins_in_list =
    cond (eqb a.lists 0)
    (refused a)
    (went m.says (record { at = m.next; met = unmarked; rear = a.rear; parens = a.parens; lists = a.lists }))
moved a m closes_list =
    cond (eqb a.lists 0)
    (refused a)
    (went m.says (record { at = m.next; met = a.met; rear = a.rear; parens = a.parens; lists = a.lists - 1 }))
moved a m opens_list =
    cond (ltb a.lists most)
    (went m.says (record { at = m.next; met = a.met; rear = a.rear; parens = a.parens; lists = a.lists + 1 }))
    (refused a)
moved a m assigns = went m.says (record { at = m.next; met = a.met; rear = 1; parens = 0; lists = a.lists })
moved a m opens_paren =
    cond (ltb a.parens most)
    (went m.says (record { at = m.next; met = a.met; rear = a.rear; parens = a.parens + 1; lists = a.lists }))
    (refused a)
moved a m ends =
    cond (eqb a.parens 0)
    (went m.says (record { at = rear_at a.rear; met = a.met; rear = a.rear; parens = a.parens; lists = a.lists }))
    (refused a)
moved a m closes_paren =
    cond (eqb a.parens 0)
    (refused a)
    (went m.says (record { at = m.next; met = a.met; rear = a.rear; parens = a.parens - 1; lists = a.lists }))
moved a m (marks n) =
    cond (eqb (get_or a.met n 0) 0)
    (went m.says (record { at = m.next; met = set a.met n 1; rear = 0; parens = 0; lists = a.lists }))
    (refused a)

-- a token of class k
unfoldable pub step_of : Ahead → ℕ → Stepped
step_of a k = moved a (row_of a.at k) (effect_of (row_of a.at k).effect)

-- opens every definition of this file
unfoldable pub opened : Unit {0}
unfolding effect_list effect_of rear_at moved step_of
opened = tt
