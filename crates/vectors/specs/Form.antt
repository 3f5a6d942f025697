-- Refusal 30 in vectors: a kept state or card with a few numbers changed, and whether a run of budget 0 still takes it.
use Rattle.std.specs.Prelude.{ℕ, suc, Bool, true, false, List, [], ◌∷◌, eqb}
use mir.Val.{bool_byte}
use Rattle.plexil.specs.declared.State.{State}
use Rattle.plexil.specs.declared.Card.{Card}
use Rattle.plexil.specs.Lists.{every, count_from}
use Rattle.plexil.specs.Places.{fresh_state, fresh_card}
use Rattle.plexil.specs.Replies.{run_reply}
use Rattle.plexil.specs.Assemble.{no, plain, a_list, a_command, an_assignment, const, variable, lookup, plan}
use Rattle.plexil.specs.Play.{statuses, outcomes, failures, marks, var_tags, var_bits, look_tags, look_bits, serials, phases, state_kept, card_kept, answer_code, same_words}

-- a list with a command, an assignment and a list that has a list; a Bool, an Int not known and a Real; an Int and a Real lookup
unfoldable pub formed : List ℕ
formed =
    plan (a_list no plain ∷ a_command 0 plain ∷ an_assignment 0 0 plain 1 0 ∷ a_list 0 plain ∷ a_list 3 plain ∷ [])
    (const 1 1 ∷ const 1 1 ∷ const 1 1 ∷ const 1 1 ∷ const 1 1 ∷ const 1 1 ∷ [])
    (variable 0 1 0 1 ∷ variable 1 0 0 0 ∷ variable 2 1 0 4607182418800017408 ∷ []) (lookup 1 ∷ lookup 2 ∷ [])

-- a number that the host changes: of which array, or of the card, the place and the number
pub data Change : Type 0 where
  change : ℕ → ℕ → ℕ → Change

-- 30, or 33 Spent, or 34 Quiet
unfoldable pub answer_on : State → Card → List Change → ℕ
answer_on s c [] = answer_code (run_reply formed s c 0 [] 0).ran.answer
answer_on s c (change k i x ∷ cs) = answer_on (state_kept k i x s) (card_kept k x c) cs

-- changes on the fresh state, with the answer then
pub data Kept : Type 0 where
  kept : List Change → ℕ → Kept

unfoldable pub all_kept : List Kept → Bool
all_kept [] = true
all_kept (kept cs a ∷ ks) = elim (eqb (answer_on (fresh_state formed) fresh_card cs) a) [ true ↦ all_kept ks | false ↦ false ]

-- node 0 Executing, node i of status x
unfoldable pub under : ℕ → ℕ → List Change → List Change
under i x cs = change statuses 0 2 ∷ change statuses i x ∷ cs

-- "codes are in range"; "Finishing occurs in lists only, Failing never in assignments, node 0 is never Inactive"
unfoldable pub codes : List Kept
codes =
    kept [] 33 ∷ kept (change statuses 0 0 ∷ []) 30 ∷ kept (under 1 7 []) 30 ∷ kept (under 1 6 []) 33 ∷ kept (change outcomes 0 4 ∷ []) 30
    ∷ kept (change outcomes 0 3 ∷ []) 33 ∷ kept (change failures 0 6 ∷ []) 30 ∷ kept (change failures 0 5 ∷ []) 33 ∷ kept (under 1 3 []) 30 ∷ kept (under 2 3 []) 30
    ∷ kept (under 3 3 (change statuses 4 1 ∷ [])) 33 ∷ kept (under 1 4 []) 33 ∷ kept (under 2 4 []) 30 ∷ kept (under 3 4 (change statuses 4 1 ∷ [])) 33 ∷ []

-- "a mark off such a command"
unfoldable pub mark_kept : List Kept
mark_kept =
    kept (under 1 2 (change marks 1 1 ∷ [])) 33 ∷ kept (under 1 2 (change marks 1 2 ∷ [])) 30 ∷ kept (under 1 4 (change marks 1 1 ∷ [])) 33
    ∷ kept (under 1 1 (change marks 1 1 ∷ [])) 30 ∷ kept (under 1 5 (change marks 1 1 ∷ [])) 30 ∷ kept (under 2 2 (change marks 2 1 ∷ [])) 30
    ∷ kept (under 3 2 (change marks 3 1 ∷ [])) 30 ∷ []

-- "kinds", "known Reals finite"
unfoldable pub cells : List Kept
cells =
    kept (change var_tags 0 2 ∷ []) 30 ∷ kept (change var_bits 0 2 ∷ []) 30 ∷ kept (change var_tags 0 0 ∷ []) 30 ∷ kept (change var_tags 0 0 ∷ change var_bits 0 0 ∷ []) 33
    ∷ kept (change var_bits 1 5 ∷ []) 30 ∷ kept (change var_tags 1 2 ∷ change var_bits 1 5 ∷ []) 33 ∷ kept (change var_tags 1 3 ∷ []) 30 ∷ kept (change var_tags 1 1 ∷ []) 30
    ∷ kept (change var_bits 2 9218868437227405312 ∷ []) 30 ∷ kept (change var_bits 2 1 ∷ []) 33 ∷ kept (change look_tags 0 2 ∷ []) 33 ∷ kept (change look_tags 0 1 ∷ []) 30
    ∷ kept (change look_tags 0 3 ∷ []) 30 ∷ kept (change look_bits 0 1 ∷ []) 30 ∷ kept (change look_tags 1 3 ∷ []) 33 ∷ kept (change look_tags 1 2 ∷ []) 30
    ∷ kept (change look_tags 1 3 ∷ change look_bits 1 9218868437227405312 ∷ []) 30 ∷ []

-- "unused places hold 0 or Unknown": the first and the last
unfoldable pub unused : List Kept
unused =
    kept (change statuses 5 1 ∷ []) 30 ∷ kept (change statuses 255 1 ∷ []) 30 ∷ kept (change outcomes 5 1 ∷ []) 30 ∷ kept (change failures 5 1 ∷ []) 30
    ∷ kept (change marks 5 1 ∷ []) 30 ∷ kept (change var_tags 3 1 ∷ []) 30 ∷ kept (change var_bits 3 1 ∷ []) 30 ∷ kept (change var_bits 127 1 ∷ []) 30
    ∷ kept (change look_tags 2 1 ∷ []) 30 ∷ kept (change look_bits 2 1 ∷ []) 30 ∷ kept (change look_bits 63 1 ∷ []) 30 ∷ []

-- "Quiet while a rule applies"; a card of neither phase; every serial will do
unfoldable pub cards : List Kept
cards =
    kept (change phases 0 1 ∷ []) 30 ∷ kept (change phases 0 2 ∷ []) 30 ∷ kept (change statuses 0 6 ∷ change phases 0 1 ∷ []) 34
    ∷ kept (change statuses 0 6 ∷ change phases 0 0 ∷ []) 34 ∷ kept (change statuses 0 6 ∷ change phases 0 2 ∷ []) 30 ∷ kept (change serials 0 4294967295 ∷ []) 33 ∷ []

-- the other nodes Finished; node 0 of status a, the list in it of status c: 1 where it is refused
unfoldable pub refused_under : ℕ → ℕ → ℕ
refused_under a c =
    bool_byte
    (eqb
    (answer_on (fresh_state formed) fresh_card
    (change statuses 0 a ∷ change statuses 1 6 ∷ change statuses 2 6 ∷ change statuses 3 c ∷ change statuses 4 6 ∷ []))
    30)

-- node 3 Inactive under node 0 Executing, the list in node 3 of status c
unfoldable pub refused_under_inactive : ℕ → ℕ
refused_under_inactive c = bool_byte (eqb (answer_on (fresh_state formed) fresh_card (change statuses 0 2 ∷ change statuses 4 c ∷ [])) 30)

-- under node 0 of status a the children of statuses 0 to 6 are refused as listed
unfoldable pub table_from : ℕ → List (List ℕ) → Bool
table_from a [] = true
table_from a (r ∷ rs) = elim (same_words (count_from 0 (refused_under a) 7) r) [ true ↦ table_from (suc a) rs | false ↦ false ]

abbrev pub idle : List ℕ
idle = 0 ∷ 0 ∷ 1 ∷ 1 ∷ 1 ∷ 1 ∷ 0 ∷ []

abbrev pub anything : List ℕ
anything = 0 ∷ 0 ∷ 0 ∷ 0 ∷ 0 ∷ 0 ∷ 0 ∷ []

abbrev pub active : List ℕ
active = 1 ∷ 0 ∷ 0 ∷ 0 ∷ 0 ∷ 0 ∷ 0 ∷ []

-- "Under Inactive, Waiting, IterationEnded or Finished a child is Inactive, Waiting or Finished. Under Finishing or Failing it is anything but
-- Inactive. Under Executing, anything."
unfoldable pub parent_table : Bool
parent_table =
    every (same_words (count_from 0 refused_under_inactive 7) idle ∷ table_from 1 (idle ∷ anything ∷ active ∷ active ∷ idle ∷ idle ∷ []) ∷ [])

-- opens every definition of this file
unfoldable pub opened : Unit {0}
unfolding formed answer_on all_kept under codes mark_kept cells unused cards refused_under refused_under_inactive table_from parent_table
opened = tt
