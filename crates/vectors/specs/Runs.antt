-- Fresh starts, runs and refused images in vectors: the whole list, the next free place, the card, and the numbers of the answers.
use Rattle.std.specs.Prelude.{ℕ, List, [], ◌∷◌, ◌++◌, map, get_or, set}
use Rattle.plexil.specs.declared.State.{State}
use Rattle.plexil.specs.declared.Card.{Card}
use Rattle.plexil.specs.declared.Rule.TheVariants as rule
use Rattle.plexil.specs.declared.Verdict.TheVariants as check
use Rattle.plexil.specs.declared.RunAnswer.TheVariants as ran
use Rattle.plexil.specs.Places.{fresh_state}
use Rattle.plexil.specs.Replies.{Numbered, verdict_number, run_number, RunReply, fresh_reply, run_reply, turn_reply}
use Rattle.plexil.specs.Assemble.{no, plain, only, a_list, a_command, const, plan, event}
use Rattle.plexil.specs.Play.{runs, runs_on, holds, stands, looks, marked, shows, sized, keeps, statuses, look_tags, phases, state_kept, Case}
use Rattle.vectors.specs.Records.{variables, smallest, nodes}

-- "Fresh: node 0 Waiting, others Inactive, outcomes None, variables initial, lookups Unknown, marks clear, serial 0, Running"
unfoldable pub fresh : Case
fresh = record {
  image = variables;
  turns = sized ∷ shows 0 0 ∷ stands 0 1 0 0 ∷ stands 1 0 0 0 ∷ marked 0 0 ∷ holds 0 1 1 ∷ holds 1 3 4607182418800017408 ∷ holds 2 2 18446744073709551615 ∷ holds 3 0 0
      ∷ holds 4 0 0 ∷ looks 0 0 0 ∷ looks 1 0 0 ∷ runs ran.Quiet 4 [] ∷ sized ∷ [];
}

-- "Budget 0 on a fresh plan K4: Spent, 0"; Quiet where the budget is just enough. "The phase is Quiet exactly after the answer Quiet"
unfoldable pub budgets : Case
budgets = record {
  image = smallest;
  turns = runs_on 0 [] 0 ran.Spent 0 0 [] ∷ shows 0 0 ∷ runs_on 3 [] 0 ran.Spent 3 0 [] ∷ stands 0 5 1 0 ∷ shows 0 0 ∷ runs_on 1 [] 0 ran.Quiet 1 0 [] ∷ shows 0 1
      ∷ runs_on 0 [] 0 ran.Quiet 0 0 [] ∷ runs_on 65535 [] 0 ran.Quiet 0 0 [] ∷ shows 0 1 ∷ [];
}

-- a list with two commands, which both start in the third step
unfoldable pub pair : List ℕ
pair = plan (a_list no plain ∷ a_command 0 plain ∷ a_command 0 plain ∷ []) [] [] []

-- "NoRoom keeps the steps already done"; Spent comes first, and then two words don't fit in one place; the phase stays Running
unfoldable pub no_rooms : Case
no_rooms = record {
  image = pair;
  turns = runs_on 2 [] 0 ran.Spent 2 0 [] ∷ runs_on 0 [] 0 ran.Spent 0 0 [] ∷ runs_on 1 [] 0 ran.NoRoom 0 0 [] ∷ shows 0 0 ∷ stands 1 1 0 0
      ∷ runs_on 100 (8 ∷ 9 ∷ []) 1 ran.NoRoom 0 1 (8 ∷ 9 ∷ []) ∷ runs_on 100 (8 ∷ 9 ∷ []) 0 ran.Quiet 1 2 (2 ∷ 4 ∷ []) ∷ shows 0 1 ∷ [];
}

unfoldable pub steps_kept : Case
steps_kept = record {
  image = pair;
  turns = runs_on 100 (7 ∷ 8 ∷ 9 ∷ []) 2 ran.NoRoom 2 2 (7 ∷ 8 ∷ 9 ∷ []) ∷ stands 0 2 0 0 ∷ stands 1 1 0 0 ∷ shows 0 0 ∷ [];
}

-- "Words before the start place and beyond the last word written stay"; words of several steps follow each other
unfoldable pub placed : Case
placed = record {
  image = pair;
  turns = runs_on 100 (5 ∷ 6 ∷ 7 ∷ 8 ∷ 9 ∷ []) 1 ran.Quiet 3 3 (5 ∷ 2 ∷ 4 ∷ 8 ∷ 9 ∷ []) ∷ [];
}

unfoldable pub following : Case
following = record {
  image = plan (a_list no plain ∷ a_command 0 (only 3 0) ∷ []) (const 0 0 ∷ []) [] [];
  turns = runs_on 100 (5 ∷ 6 ∷ 7 ∷ 8 ∷ 9 ∷ []) 1 ran.Quiet 4 3 (5 ∷ 2 ∷ 3 ∷ 8 ∷ 9 ∷ []) ∷ [];
}

-- "31 Place: list start beyond its end", after 30; at the end itself there is no room
unfoldable pub beyond : Case
beyond = record {
  image = pair;
  turns = runs_on 100 (5 ∷ 6 ∷ []) 3 ran.Place 0 3 (5 ∷ 6 ∷ []) ∷ stands 0 1 0 0 ∷ shows 0 0 ∷ keeps phases 0 1 ∷ runs_on 100 (5 ∷ 6 ∷ []) 3 ran.State 0 3 (5 ∷ 6 ∷ [])
      ∷ runs_on 100 (5 ∷ 6 ∷ []) 1 ran.State 0 1 (5 ∷ 6 ∷ []) ∷ shows 0 1 ∷ stands 0 1 0 0 ∷ keeps phases 0 0 ∷ runs_on 100 (5 ∷ 6 ∷ []) 2 ran.NoRoom 2 2 (5 ∷ 6 ∷ []) ∷ [];
}

-- a lookup beyond the number of nodes has its kind too
unfoldable pub lookup_kept : Case
lookup_kept = record { image = variables; turns = keeps look_tags 1 3 ∷ runs_on 0 [] 0 ran.Spent 0 0 [] ∷ keeps look_tags 1 2 ∷ runs_on 0 [] 0 ran.State 0 0 [] ∷ [] }

unfoldable pub runs_all : List Case
runs_all = fresh ∷ budgets ∷ no_rooms ∷ steps_kept ∷ placed ∷ following ∷ beyond ∷ lookup_kept ∷ []

-- ---- "Every call checks its image first"; "Apart from 32 a refusal changes nothing"; "refusals but 32 answer 0 and the given start place"
unfoldable pub lent : State
lent = state_kept statuses 3 5 (fresh_state [])

unfoldable pub card : Card
card = record { serial = 9; phase = 2 }

unfoldable pub named : Numbered → List ℕ
named n = n.number ∷ n.record' ∷ n.ending ∷ []

unfoldable pub lent_after : State → Card → List ℕ
lent_after s c = get_or s.status 3 0 ∷ c.serial ∷ c.phase ∷ []

unfoldable pub unrun : RunReply → List (List ℕ)
unrun r = named (run_number r.ran.answer) ∷ lent_after r.ran.state r.ran.card ∷ (r.ran.steps ∷ r.ran.next ∷ r.list) ∷ []

unfoldable pub refused_by : List ℕ → List (List ℕ)
refused_by p =
    let f = fresh_reply p lent card in
    named (verdict_number f.verdict) ∷ lent_after f.state f.card
    ∷ (unrun (run_reply p lent card 100 (5 ∷ 6 ∷ []) 1) ++ unrun (turn_reply p lent card (event 9 []) 100 (5 ∷ 6 ∷ []) 1))

unfoldable pub refused_expected : ℕ → ℕ → List (List ℕ)
refused_expected n i =
    (n ∷ i ∷ 0 ∷ []) ∷ (5 ∷ 9 ∷ 2 ∷ []) ∷ (n ∷ i ∷ 0 ∷ []) ∷ (5 ∷ 9 ∷ 2 ∷ []) ∷ (0 ∷ 1 ∷ 5 ∷ 6 ∷ []) ∷ (n ∷ i ∷ 0 ∷ []) ∷ (5 ∷ 9 ∷ 2 ∷ []) ∷ (0 ∷ 1 ∷ 5 ∷ 6 ∷ []) ∷ []

unfoldable pub refused_all : List (List (List ℕ))
refused_all = refused_by [] ∷ refused_by (set nodes 92 3) ∷ []

unfoldable pub refused_all_expected : List (List (List ℕ))
refused_all_expected = refused_expected 1 0 ∷ refused_expected 5 3 ∷ []

-- "Refusal numbers": 20 to 25 and 30 to 32, with the entry named for 23 to 25, 0 where nothing is refused, and the ending
unfoldable pub numbers : List (List ℕ)
numbers =
    map named
    (verdict_number check.Admitted ∷ verdict_number (check.Refused rule.Reach 8) ∷ run_number (ran.Refused rule.Short 0) ∷ run_number (ran.Refused rule.Kind 7) ∷ run_number ran.State
    ∷ run_number ran.Place ∷ run_number ran.Busy ∷ run_number ran.Shape ∷ run_number ran.Turn ∷ run_number (ran.Entry 5) ∷ run_number (ran.Twice 4) ∷ run_number (ran.NotAwaited 3)
    ∷ run_number ran.NoRoom ∷ run_number ran.Spent ∷ run_number ran.Quiet ∷ [])

unfoldable pub numbers_expected : List (List ℕ)
numbers_expected =
    (0 ∷ 0 ∷ 1 ∷ []) ∷ (12 ∷ 8 ∷ 0 ∷ []) ∷ (1 ∷ 0 ∷ 0 ∷ []) ∷ (11 ∷ 7 ∷ 0 ∷ []) ∷ (30 ∷ 0 ∷ 0 ∷ []) ∷ (31 ∷ 0 ∷ 0 ∷ []) ∷ (20 ∷ 0 ∷ 0 ∷ []) ∷ (21 ∷ 0 ∷ 0 ∷ []) ∷ (22 ∷ 0 ∷ 0 ∷ [])
    ∷ (23 ∷ 5 ∷ 0 ∷ []) ∷ (24 ∷ 4 ∷ 0 ∷ []) ∷ (25 ∷ 3 ∷ 0 ∷ []) ∷ (32 ∷ 0 ∷ 0 ∷ []) ∷ (0 ∷ 0 ∷ 2 ∷ []) ∷ (0 ∷ 0 ∷ 1 ∷ []) ∷ []

-- opens every definition of this file
unfoldable pub opened : Unit {0}
unfolding fresh budgets pair no_rooms steps_kept placed following beyond lookup_kept runs_all lent card named lent_after unrun refused_by refused_expected refused_all refused_all_expected numbers numbers_expected
opened = tt
