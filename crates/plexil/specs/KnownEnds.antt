-- "Small plans with known ends": K1 to K10 as one table, each case played through the whole replies.
use Rattle.std.specs.Prelude.{ℕ, List, [], ◌∷◌}
use Rattle.plexil.specs.declared.RunAnswer.TheVariants as ran
use Rattle.plexil.specs.Assemble.{no, plain, only, a_list, a_command, an_assignment, expr, const, variable, lookup, plan, entry, event}
use Rattle.plexil.specs.Play.{runs, turns_with, holds, stands, Case}

-- one assignment of variable 0, of kind k, by entry e
unfoldable pub lone : ℕ → List (List ℕ) → ℕ → List ℕ
lone k es e = plan (an_assignment no 0 plain 0 e ∷ []) es (variable k 0 0 0 ∷ []) []

-- "K1 List owns x = 1, y = 2; children x := y, y := x. Quiet after 8; x = 2, y = 1."
unfoldable pub K1 : Case
K1 = record {
  image = plan (a_list no plain ∷ an_assignment 0 0 plain 0 1 ∷ an_assignment 0 0 plain 1 0 ∷ []) (expr 1 1 0 0 0 ∷ expr 1 1 1 0 0 ∷ []) (variable 1 1 0 1 ∷ variable 1 1 0 2 ∷ []) [];
  turns = runs ran.Quiet 8 [] ∷ holds 0 2 2 ∷ holds 1 2 1 ∷ stands 0 6 1 0 ∷ stands 1 6 1 0 ∷ stands 2 6 1 0 ∷ [];
}

-- "In K1 the children write x := 10 (priority 5), x := 20 (3)", with the priorities a and b
unfoldable pub contest : ℕ → ℕ → List ℕ
contest a b =
    plan (a_list no plain ∷ an_assignment 0 a plain 0 0 ∷ an_assignment 0 b plain 0 1 ∷ []) (const 1 10 ∷ const 1 20 ∷ []) (variable 1 1 0 1 ∷ variable 1 1 0 2 ∷ []) []

-- "K2 .. (priority 5), .. (3): x = 10, second WriteLost"
unfoldable pub K2 : Case
K2 = record { image = contest 5 3; turns = runs ran.Quiet 8 [] ∷ holds 0 2 10 ∷ stands 1 6 1 0 ∷ stands 2 6 2 5 ∷ [] }

-- "K3 Both 5: x keeps its initial value, both WriteLost"
unfoldable pub K3 : Case
K3 = record { image = contest 5 5; turns = runs ran.Quiet 8 [] ∷ holds 0 2 1 ∷ stands 1 6 2 5 ∷ stands 2 6 2 5 ∷ [] }

-- "K4 Childless list: 4 steps, Success"
unfoldable pub K4 : Case
K4 = record { image = plan (a_list no plain ∷ []) [] [] []; turns = runs ran.Quiet 4 [] ∷ stands 0 6 1 0 ∷ [] }

-- "K5 Lone command: 1 step, word 0. Event serial 0 returning node 0: 2 steps, Success."
unfoldable pub K5 : Case
K5 = record {
  image = plan (a_command no plain ∷ []) [] [] [];
  turns = runs ran.Quiet 1 (0 ∷ []) ∷ turns_with (event 0 (entry 2 0 0 ∷ [])) ran.Quiet 2 [] ∷ stands 0 6 1 0 ∷ [];
}

-- "List owns x = 0; child x := x + 1, Repeat x < 3"; with the owner as a parameter
unfoldable pub counting : ℕ → List ℕ
counting owner =
    plan (a_list no plain ∷ an_assignment 0 0 (only 6 4) 0 2 ∷ []) (expr 1 1 0 0 0 ∷ const 1 1 ∷ expr 12 1 0 1 0 ∷ const 1 3 ∷ expr 10 0 0 3 0 ∷ []) (variable 1 1 owner 0 ∷ []) []

-- "K6 ..: 14 steps, x = 3"
unfoldable pub K6 : Case
K6 = record { image = counting 0; turns = runs ran.Quiet 14 [] ∷ holds 0 2 3 ∷ [] }

-- "K7 Child owns x instead: Spent, 100"
unfoldable pub K7 : Case
K7 = record { image = counting 1; turns = runs ran.Spent 100 [] ∷ [] }

-- "K8 Lone assignment, Pre False: 2 steps, failure Pre"
unfoldable pub K8 : Case
K8 = record {
  image = plan (an_assignment no 0 (only 2 1) 0 0 ∷ []) (const 1 10 ∷ const 0 0 ∷ []) (variable 1 1 0 1 ∷ []) [];
  turns = runs ran.Quiet 2 [] ∷ stands 0 6 2 1 ∷ holds 0 2 1 ∷ [];
}

-- "K9 List with Inv on a Bool lookup, child command: 3 steps, word 2. Lookup False: 2 steps, word 3. Return of node 1: 4 steps, root Failure, Invariant."
unfoldable pub K9 : Case
K9 = record {
  image = plan (a_list no (only 3 0) ∷ a_command 0 plain ∷ []) (expr 2 0 0 0 0 ∷ []) [] (lookup 0 ∷ []);
  turns = runs ran.Quiet 3 (2 ∷ []) ∷ turns_with (event 0 (entry 0 0 0 ∷ [])) ran.Quiet 2 (3 ∷ []) ∷ turns_with (event 1 (entry 2 1 0 ∷ [])) ran.Quiet 4 [] ∷ stands 0 6 2 3 ∷ [];
}

-- "K10 9223372036854775807 + 1 Unknown; False AND Unknown False"
unfoldable pub K10a : Case
K10a = record { image = lone 1 (const 1 9223372036854775807 ∷ const 1 1 ∷ expr 12 1 0 1 0 ∷ []) 2; turns = runs ran.Quiet 3 [] ∷ holds 0 0 0 ∷ [] }

unfoldable pub K10b : Case
K10b = record { image = lone 0 (const 0 0 ∷ expr 0 0 0 0 0 ∷ expr 7 0 0 1 0 ∷ []) 2; turns = runs ran.Quiet 3 [] ∷ holds 0 1 0 ∷ [] }

unfoldable pub known_ends : List Case
known_ends = K1 ∷ K2 ∷ K3 ∷ K4 ∷ K5 ∷ K6 ∷ K7 ∷ K8 ∷ K9 ∷ K10a ∷ K10b ∷ []

-- opens every definition of this file
unfoldable pub opened : Unit {0}
unfolding lone K1 contest K2 K3 K4 K5 counting K6 K7 K8 K9 K10a K10b known_ends
opened = tt
