-- "Node rules" in vectors: lists and their children, and several writers of one variable.
use Rattle.std.specs.Prelude.{ℕ, List, [], ◌∷◌, get_or}
use Rattle.plexil.specs.declared.RunAnswer.TheVariants as ran
use Rattle.plexil.specs.Places.{fresh_state}
use Rattle.plexil.specs.Micro.{step}
use Rattle.plexil.specs.Assemble.{no, plain, only, a_list, a_command, an_assignment, node, expr, const, variable, lookup, plan, entry, event}
use Rattle.plexil.specs.Play.{runs, turns_with, enters, holds, stands, keeps, statuses, outcomes, failures, marks, var_tags, var_bits, look_tags, look_bits, state_kept, Case}
use Rattle.vectors.specs.Rules.{steps, both}

-- "Starting a waiting child under a Finishing parent" is an error: with End True at once the child never starts
unfoldable pub never_started : Case
never_started = record {
  image = plan (a_list no (only 4 0) ∷ a_command 0 plain ∷ []) (const 0 1 ∷ []) [] [];
  turns = steps 2 ∷ stands 0 3 0 0 ∷ stands 1 1 0 0 ∷ runs ran.Quiet 2 [] ∷ stands 0 6 1 0 ∷ stands 1 1 0 0 ∷ [];
}

-- a list that ends while its child, which would repeat, is Executing; Inv on a lookup
unfoldable pub closing : List ℕ
closing = plan (a_list no (both 3 1 4 0) ∷ a_command 0 (only 6 2) ∷ []) (expr 3 0 1 2 0 ∷ expr 2 0 0 0 0 ∷ const 0 1 ∷ []) [] (lookup 0 ∷ [])

-- "Finishing: .. else all children Waiting or Finished: IterationEnded". "IterationEnded: parent Finishing or Failing: Finished"
unfoldable pub closes : Case
closes = record {
  image = closing;
  turns = runs ran.Quiet 4 (2 ∷ []) ∷ stands 0 3 0 0 ∷ stands 1 2 0 0 ∷ enters (event 0 (entry 2 1 0 ∷ [])) 0 0 ∷ steps 1 ∷ stands 0 3 0 0 ∷ stands 1 5 1 0 ∷ steps 1
      ∷ stands 0 3 0 0 ∷ stands 1 6 1 0 ∷ steps 1 ∷ stands 0 5 1 0 ∷ runs ran.Quiet 1 [] ∷ stands 0 6 1 0 ∷ [];
}

-- "Finishing: the same two failures to Failing"
unfoldable pub fails_while_closing : Case
fails_while_closing = record {
  image = closing;
  turns = runs ran.Quiet 4 (2 ∷ []) ∷ enters (event 0 (entry 0 0 0 ∷ [])) 0 0 ∷ steps 1 ∷ stands 0 4 2 3 ∷ stands 1 2 0 0 ∷ runs ran.Quiet 1 (3 ∷ []) ∷ stands 1 4 2 4
      ∷ enters (event 1 (entry 2 1 0 ∷ [])) 0 0 ∷ steps 2 ∷ stands 0 4 2 3 ∷ stands 1 6 2 4 ∷ steps 1 ∷ stands 0 5 2 3 ∷ runs ran.Quiet 1 [] ∷ stands 0 6 2 3 ∷ [];
}

-- "parent Failing gives failure Parent", down through a Finishing list to a command, and in an assignment that has not ended, whose Inv is False then
unfoldable pub fails_below : Case
fails_below = record {
  image = plan (a_list no (only 3 0) ∷ a_list 0 (only 4 1) ∷ a_command 1 plain ∷ an_assignment 0 0 (both 3 3 4 4) 0 5 ∷ [])
      (expr 2 0 0 0 0 ∷ expr 3 0 2 2 0 ∷ expr 3 0 0 4 0 ∷ expr 6 0 2 0 0 ∷ const 0 0 ∷ const 1 10 ∷ []) (variable 1 1 0 1 ∷ []) (lookup 0 ∷ []);
  turns = runs ran.Quiet 6 (4 ∷ []) ∷ stands 1 3 0 0 ∷ stands 2 2 0 0 ∷ stands 3 2 0 0 ∷ enters (event 0 (entry 0 0 0 ∷ [])) 0 0 ∷ steps 1 ∷ stands 0 4 2 3 ∷ stands 1 3 0 0
      ∷ stands 3 2 0 0 ∷ steps 1 ∷ stands 1 4 2 4 ∷ stands 3 5 2 4 ∷ holds 0 2 1 ∷ runs ran.Quiet 1 (5 ∷ []) ∷ stands 2 4 2 4 ∷ stands 3 6 2 4 ∷ stands 0 4 2 3 ∷ [];
}

-- Failing: "list with all children Waiting or Finished"
unfoldable pub fails_with_waiting : Case
fails_with_waiting = record {
  image = plan (a_list no (only 3 0) ∷ a_command 0 (only 1 1) ∷ []) (expr 2 0 0 0 0 ∷ const 0 0 ∷ []) [] (lookup 0 ∷ []);
  turns = runs ran.Quiet 2 [] ∷ turns_with (event 0 (entry 0 0 0 ∷ [])) ran.Quiet 3 [] ∷ stands 0 6 2 3 ∷ stands 1 1 0 0 ∷ [];
}

-- "What a rule does not name stays": the outcomes and failures that the host kept, to Executing and Finishing, and from Inactive to Waiting
unfoldable pub unnamed : Case
unnamed = record {
  image = plan (a_list no (only 4 0) ∷ a_command 0 plain ∷ []) (const 0 1 ∷ []) [] [];
  turns = keeps outcomes 0 3 ∷ keeps failures 0 5 ∷ keeps outcomes 1 2 ∷ keeps failures 1 4 ∷ steps 1 ∷ stands 0 2 3 5 ∷ steps 1 ∷ stands 0 3 3 5 ∷ stands 1 1 2 4 ∷ [];
}

-- a list that repeats, with a list in it that has an assignment of its own variable x = 1: x := 10
unfoldable pub over : List ℕ
over = plan (a_list no (only 6 0) ∷ a_list 0 plain ∷ an_assignment 1 0 plain 0 1 ∷ []) (const 0 1 ∷ const 1 10 ∷ []) (variable 1 1 2 1 ∷ []) []

-- "Any status but Inactive, parent Inactive or Waiting: Inactive, outcome and failure cleared." "Inactive, parent Executing: Waiting."
-- "A node's variables return to their initial values when it enters Waiting"
unfoldable pub starts_over : Case
starts_over = record {
  image = over;
  turns = steps 4 ∷ stands 2 1 0 0 ∷ steps 2 ∷ stands 2 5 1 0 ∷ steps 1 ∷ stands 2 6 1 0 ∷ stands 1 2 0 0 ∷ steps 2 ∷ stands 1 5 1 0 ∷ steps 3 ∷ stands 0 5 1 0 ∷ steps 1
      ∷ stands 0 1 0 0 ∷ stands 1 6 1 0 ∷ steps 1 ∷ stands 0 2 0 0 ∷ stands 1 0 0 0 ∷ stands 2 6 1 0 ∷ steps 1 ∷ stands 1 1 0 0 ∷ stands 2 0 0 0 ∷ holds 0 2 10 ∷ steps 2
      ∷ stands 1 2 0 0 ∷ stands 2 1 0 0 ∷ holds 0 2 1 ∷ [];
}

-- "End True, but for a list all children Finished": an End that is False keeps the list, and a Post that is False fails it
unfoldable pub kept_open : Case
kept_open = record {
  image = plan (a_list no (only 4 0) ∷ a_list 0 (only 5 0) ∷ []) (const 0 0 ∷ []) [] [];
  turns = runs ran.Quiet 6 [] ∷ stands 0 2 0 0 ∷ stands 1 6 2 2 ∷ [];
}

-- "Words of one micro step are in node order"; an abort and a word in one step: node 1 fails by its Inv as node 3 starts
unfoldable pub in_order : Case
in_order = record {
  image = plan (a_list no plain ∷ a_command 0 (only 3 2) ∷ a_command 0 plain ∷ a_command 0 (only 1 0) ∷ []) (expr 3 0 2 2 0 ∷ expr 3 0 1 1 0 ∷ expr 6 0 0 0 0 ∷ []) [] [];
  turns = runs ran.Quiet 4 (2 ∷ 4 ∷ 3 ∷ 6 ∷ []) ∷ stands 1 4 2 3 ∷ stands 2 2 0 0 ∷ stands 3 2 0 0 ∷ [];
}

unfoldable pub trees : List Case
trees = never_started ∷ closes ∷ fails_while_closing ∷ fails_below ∷ fails_with_waiting ∷ unnamed ∷ starts_over ∷ kept_open ∷ in_order ∷ []

-- ---- writers: x = 1, y = 2 of the list; x := 10, x := 20 and z := 30 with priorities a, b and c, the first two under these conditions; z is x or y
unfoldable pub writing : ℕ → List ℕ → ℕ → List ℕ → ℕ → ℕ → List ℕ
writing a first b second c z =
    plan (a_list no plain ∷ an_assignment 0 a first 0 0 ∷ an_assignment 0 b second 0 1 ∷ an_assignment 0 c plain z 2 ∷ []) (const 1 10 ∷ const 1 20 ∷ const 1 30 ∷ const 0 0 ∷ [])
    (variable 1 1 0 1 ∷ variable 1 1 0 2 ∷ []) []

-- after the step of the writes: each writer's outcome and failure, x and y
unfoldable pub written : List ℕ → ℕ → ℕ → ℕ → ℕ → ℕ → ℕ → ℕ → ℕ → Case
written p o f o' f' o'' f'' x y = record {
  image = p;
  turns = steps 4 ∷ stands 1 5 o f ∷ stands 2 5 o' f' ∷ stands 3 5 o'' f'' ∷ holds 0 2 x ∷ holds 1 2 y ∷ [];
}

-- a command writes nothing, whatever its number; an assignment that has not ended writes nothing and loses nothing: x = 1 is node 0's, and both numbers are 0
unfoldable pub no_writers : Case
no_writers = record {
  image = plan (a_list no plain ∷ node 0 1 0 plain 0 no ∷ node 0 1 0 plain 0 no ∷ an_assignment 0 0 (only 4 0) 0 1 ∷ []) (expr 4 0 1 1 0 ∷ const 1 10 ∷ expr 0 1 0 0 0 ∷ [])
      (variable 1 1 0 1 ∷ []) [];
  turns = runs ran.Quiet 3 (2 ∷ 4 ∷ []) ∷ enters (event 0 (entry 2 1 0 ∷ entry 2 2 0 ∷ [])) 0 0 ∷ steps 1 ∷ stands 1 5 1 0 ∷ stands 2 5 1 0 ∷ stands 3 2 0 0 ∷ holds 0 2 1 ∷ steps 1
      ∷ stands 1 6 1 0 ∷ stands 3 5 1 0 ∷ holds 0 2 10 ∷ [];
}

-- of x := 20 and an assignment of x with greater priority whose End is False, the first alone is a writer
unfoldable pub one_writer : Case
one_writer = record {
  image = writing 5 (only 4 3) 3 plain 3 1;
  turns = steps 4 ∷ stands 1 2 0 0 ∷ stands 2 5 1 0 ∷ holds 0 2 20 ∷ [];
}

-- "the one with strictly greatest priority number writes. A tie for greatest: none writes. Every loser gets Failure, WriteLost, whatever Post
-- says": greatest in each place; ties for greatest and below it; another variable; a loser with Post False; a node that fails by its Inv is no writer
unfoldable pub writers : List Case
writers =
    written (writing 5 plain 3 plain 3 0) 1 0 2 5 2 5 10 2 ∷ written (writing 3 plain 5 plain 3 0) 2 5 1 0 2 5 20 2 ∷ written (writing 3 plain 4 plain 256 0) 2 5 2 5 1 0 30 2
    ∷ written (writing 5 plain 5 plain 3 0) 2 5 2 5 2 5 1 2 ∷ written (writing 3 plain 5 plain 5 0) 2 5 2 5 2 5 1 2 ∷ written (writing 5 plain 3 plain 5 1) 1 0 2 5 1 0 10 30
    ∷ written (writing 5 plain 3 (only 5 3) 3 1) 1 0 2 5 1 0 10 30 ∷ written (writing 5 (only 3 3) 3 plain 3 1) 2 3 1 0 1 0 20 30
    ∷ written (writing 5 (only 0 3) 3 plain 3 1) 1 0 2 5 1 0 10 30 ∷ no_writers ∷ one_writer ∷ []

-- "What a rule does not name stays": the places past the nodes and the variables, and the lookups
unfoldable pub unused : List ℕ
unused =
    let p = plan (a_list no plain ∷ []) [] [] [] in
    let nodes = state_kept statuses 1 11 (state_kept outcomes 1 12 (state_kept failures 1 13 (state_kept marks 1 14 (fresh_state p)))) in
    let s = step p (state_kept var_tags 0 15 (state_kept var_bits 0 16 (state_kept look_tags 0 17 (state_kept look_bits 0 18 nodes)))) in
    get_or s.status 1 0 ∷ get_or s.outcome 1 0 ∷ get_or s.failure 1 0 ∷ get_or s.mark 1 0 ∷ get_or s.vartags 0 0 ∷ get_or s.varbits 0 0 ∷ get_or s.looktags 0 0
    ∷ get_or s.lookbits 0 0 ∷ []

unfoldable pub unused_expected : List ℕ
unused_expected = 11 ∷ 12 ∷ 13 ∷ 14 ∷ 15 ∷ 16 ∷ 17 ∷ 18 ∷ []

-- "Executing (a command issues its word, mark clear)"
unfoldable pub mark_at_start : ℕ
mark_at_start = let p = plan (a_command no plain ∷ []) [] [] [] in get_or (step p (state_kept marks 0 1 (fresh_state p))).mark 0 9

-- opens every definition of this file
unfoldable pub opened : Unit {0}
unfolding never_started closing closes fails_while_closing fails_below fails_with_waiting unnamed over starts_over kept_open in_order trees writing written no_writers one_writer writers unused unused_expected mark_at_start
opened = tt
