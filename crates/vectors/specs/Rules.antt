-- "Node rules" in vectors: each clause reached, worked out by hand from the paper, step by step.
use Rattle.std.specs.Prelude.{ℕ, List, [], ◌∷◌, set}
use Rattle.plexil.specs.declared.RunAnswer.TheVariants as ran
use Rattle.plexil.specs.Assemble.{no, plain, only, a_command, an_assignment, expr, const, variable, lookup, plan, entry, event}
use Rattle.plexil.specs.Play.{Turn, runs, runs_on, turns_with, enters, holds, stands, marked, keeps, failures, Case}

-- n micro steps without words, and a rule still applies
unfoldable pub steps : ℕ → Turn
steps n = runs_on n [] 0 ran.Spent n 0 []

-- two conditions: entries d and e at places j and k
unfoldable pub both : ℕ → ℕ → ℕ → ℕ → List ℕ
both j d k e = set (only j d) k e

-- x = 1, alone: x := 10 under these conditions. Entries: 10, False, True, Unknown
unfoldable pub assigns : List ℕ → List ℕ
assigns conditions =
    plan (an_assignment no 0 conditions 0 0 ∷ []) (const 1 10 ∷ const 0 0 ∷ const 0 1 ∷ expr 0 0 0 0 0 ∷ []) (variable 1 1 0 1 ∷ []) []

-- the same with Post x = n
unfoldable pub assigns_post : ℕ → List ℕ
assigns_post n =
    plan (an_assignment no 0 (only 5 3) 0 0 ∷ []) (const 1 10 ∷ const 1 n ∷ expr 1 1 0 0 0 ∷ expr 9 0 1 2 0 ∷ []) (variable 1 1 0 1 ∷ []) []

-- where it ends, with its x
unfoldable pub assigned : List ℕ → ℕ → ℕ → ℕ → ℕ → ℕ → Case
assigned conditions n a o f x = record { image = assigns conditions; turns = runs ran.Quiet n [] ∷ stands 0 a o f ∷ holds 0 2 x ∷ [] }

unfoldable pub judged : ℕ → ℕ → ℕ → Case
judged n o f = record { image = assigns_post n; turns = runs ran.Quiet 3 [] ∷ stands 0 6 o f ∷ holds 0 2 10 ∷ [] }

-- "Skip True, then Finished, Skipped. Else Start True: Pre True, then Executing; otherwise IterationEnded, Failure, Pre"
unfoldable pub waiting : List Case
waiting =
    assigned plain 3 6 1 0 10 ∷ assigned (only 0 2) 1 6 3 0 1 ∷ assigned (only 0 1) 3 6 1 0 10 ∷ assigned (only 0 3) 3 6 1 0 10 ∷ assigned (only 1 1) 0 1 0 0 1
    ∷ assigned (only 1 3) 0 1 0 0 1 ∷ assigned (only 1 2) 3 6 1 0 10 ∷ assigned (both 0 2 1 1) 1 6 3 0 1 ∷ assigned (both 1 1 2 1) 0 1 0 0 1 ∷ assigned (only 2 1) 2 6 2 1 1
    ∷ assigned (only 2 3) 2 6 2 1 1 ∷ assigned (only 2 2) 3 6 1 0 10 ∷ []

-- "else Inv False gives Invariant"; an Unknown Inv is no failure. "an assignment goes to IterationEnded without writing".
-- "Otherwise, End True: .. an assignment writes". "Success, failure none, if Post is True, else Failure, Post. Post is read before an assignment's
-- write; the write still happens". "Repeat True gives Waiting; else Finished"
unfoldable pub executing : List Case
executing =
    assigned (only 3 1) 3 6 2 3 1 ∷ assigned (only 3 3) 3 6 1 0 10 ∷ assigned (only 3 2) 3 6 1 0 10 ∷ assigned (both 3 1 4 1) 3 6 2 3 1 ∷ assigned (only 4 1) 1 2 0 0 1
    ∷ assigned (only 4 3) 1 2 0 0 1 ∷ assigned (only 4 2) 3 6 1 0 10 ∷ assigned (only 5 1) 3 6 2 2 10 ∷ assigned (only 5 3) 3 6 2 2 10 ∷ assigned (only 5 2) 3 6 1 0 10
    ∷ judged 10 2 2 ∷ judged 1 1 0 ∷ assigned (only 6 1) 3 6 1 0 10 ∷ assigned (only 6 3) 3 6 1 0 10 ∷ []

-- each micro step of an assignment that repeats: its outcome and failure are cleared, and its variable returns to 1
unfoldable pub repeating : Case
repeating = record {
  image = assigns (both 5 1 6 2);
  turns = steps 1 ∷ stands 0 2 0 0 ∷ steps 1 ∷ stands 0 5 2 2 ∷ holds 0 2 10 ∷ steps 1 ∷ stands 0 1 0 0 ∷ holds 0 2 1 ∷ [];
}

-- "What a rule does not name stays": Skip leaves the failure that the host kept, and so do Start and End
unfoldable pub skipping : Case
skipping = record { image = assigns (only 0 2); turns = keeps failures 0 5 ∷ runs ran.Quiet 1 [] ∷ stands 0 6 3 5 ∷ [] }

unfoldable pub starting : Case
starting = record { image = assigns (only 4 1); turns = keeps failures 0 5 ∷ runs ran.Quiet 1 [] ∷ stands 0 2 0 5 ∷ [] }

-- a command alone, with Inv on lookup 0 and End on lookup 1
unfoldable pub commanded : List ℕ
commanded = plan (a_command no (both 3 0 4 1) ∷ []) (expr 2 0 0 0 0 ∷ expr 2 0 1 0 0 ∷ []) [] (lookup 0 ∷ lookup 0 ∷ [])

-- "a returned command goes to IterationEnded" once End is True; "The mark clears on leaving for IterationEnded"
unfoldable pub returning : Case
returning = record {
  image = commanded;
  turns = runs ran.Quiet 1 (0 ∷ []) ∷ turns_with (event 0 (entry 0 1 1 ∷ [])) ran.Quiet 0 [] ∷ turns_with (event 1 (entry 0 1 0 ∷ entry 2 0 0 ∷ [])) ran.Quiet 0 [] ∷ stands 0 2 0 0 ∷ marked 0 1 ∷ enters (event 2 (entry 0 1 1 ∷ [])) 0 0 ∷ steps 1 ∷ stands 0 5 1 0 ∷ marked 0 0 ∷ runs ran.Quiet 1 [] ∷ stands 0 6 1 0 ∷ [];
}

-- "A list or command goes to Failing, a command not yet returned issues an abort"; Failing, "command returned: IterationEnded, outcome kept"
unfoldable pub aborting : Case
aborting = record {
  image = commanded;
  turns = runs ran.Quiet 1 (0 ∷ []) ∷ turns_with (event 0 (entry 0 0 0 ∷ [])) ran.Quiet 1 (1 ∷ []) ∷ stands 0 4 2 3 ∷ turns_with (event 1 (entry 0 0 1 ∷ [])) ran.Quiet 0 [] ∷ enters (event 2 (entry 2 0 0 ∷ [])) 0 0 ∷ steps 1 ∷ stands 0 5 2 3 ∷ marked 0 0 ∷ runs ran.Quiet 1 [] ∷ stands 0 6 2 3 ∷ [];
}

-- a command that has returned fails without an abort, and keeps its mark until IterationEnded
unfoldable pub returned_then_failing : Case
returned_then_failing = record {
  image = commanded;
  turns = runs ran.Quiet 1 (0 ∷ []) ∷ enters (event 0 (entry 0 0 0 ∷ entry 2 0 0 ∷ [])) 0 0 ∷ steps 1 ∷ stands 0 4 2 3 ∷ marked 0 1 ∷ steps 1 ∷ stands 0 5 2 3 ∷ marked 0 0
      ∷ runs ran.Quiet 1 [] ∷ stands 0 6 2 3 ∷ [];
}

-- a command that never starts sends nothing
unfoldable pub unsent : Case
unsent = record { image = plan (a_command no (only 2 0) ∷ []) (const 0 0 ∷ []) [] []; turns = runs ran.Quiet 2 [] ∷ stands 0 6 2 1 ∷ [] }

unfoldable pub rules : List Case
rules = repeating ∷ skipping ∷ starting ∷ returning ∷ aborting ∷ returned_then_failing ∷ unsent ∷ []

-- opens every definition of this file
unfoldable pub opened : Unit {0}
unfolding steps both assigns assigns_post assigned judged waiting executing repeating skipping starting commanded returning aborting returned_then_failing unsent rules
opened = tt
