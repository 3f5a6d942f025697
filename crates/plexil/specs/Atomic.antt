-- "Node rules", 004's atomic relation: the one move that a node makes. "All reads are of the state before the step."
use Rattle.std.specs.Prelude.{ℕ, zero, suc, Bool, true, false, not, List, [], ◌∷◌, get_or, eqb}
use Rattle.plexil.specs.declared.Worked.{Worked}
use Rattle.plexil.specs.declared.Worked.TheVariants.{Bool as Flag}
use Rattle.plexil.specs.declared.State.{State}
use Rattle.plexil.specs.declared.Status.{Status}
use Rattle.plexil.specs.declared.Status.TheVariants.{Inactive, Waiting, Executing, Finishing, Failing, IterationEnded, Finished}
use Rattle.plexil.specs.declared.Condition.{Condition}
use Rattle.plexil.specs.declared.Condition.TheVariants.{Skip, Start, Pre, Inv, End, Post, Repeat}
use Rattle.plexil.specs.declared.Move.{Move}
use Rattle.plexil.specs.declared.Move.TheVariants.{Stay, Go}
use Rattle.plexil.specs.declared.Effect.TheVariants.{Kept, Cleared, Skipped as Skips, Failed, Judged}
use Rattle.plexil.specs.Lists.{when◌then◌else◌, every, some, all_below}
use Rattle.plexil.specs.Values.{says}
use Rattle.plexil.specs.Image.{Image, default, node_count, parent, condition_field}
use Rattle.plexil.specs.Places.{status_of, same, status_at, mark_at, Seen, seen, Failure, ByPre, ByInvariant, ByParent}
use Rattle.plexil.specs.Expressions.{value_of}
use Rattle.plexil.specs.Records.{is_list, is_command, is_assignment}

-- "parent Inactive or Waiting"
unfoldable pub is_off : Status → Bool
is_off a = some (same a Inactive ∷ same a Waiting ∷ [])

-- "parent Finishing or Failing"
unfoldable pub is_closing : Status → Bool
is_closing a = some (same a Finishing ∷ same a Failing ∷ [])

-- "Waiting or Finished"
unfoldable pub is_resting : Status → Bool
is_resting a = some (same a Waiting ∷ same a Finished ∷ [])

-- "Finished"
unfoldable pub is_finished : Status → Bool
is_finished a = same a Finished

-- all children of node i pass, by the statuses
unfoldable pub children_by : Image → List ℕ → ℕ → (Status → Bool) → Bool
children_by p st i f = all_below (node_count p) (λ j. some (not (eqb (parent p j) i) ∷ f (status_of (get_or st j 0)) ∷ []))

-- all children of node i pass
abbrev pub children : Image → State → ℕ → (Status → Bool) → Bool
children p s i f = children_by p s.status i f

-- "Node 0 reads its parent as Executing"
unfoldable pub parent_status : Image → State → ℕ → Status
parent_status p s zero = Executing
parent_status p s (suc i) = status_at s (parent p (suc i))

-- "Defaults: Skip and Repeat False; Start, Pre, Inv, Post True; End True, but for a list all children Finished"
unfoldable pub default_of : Image → Seen → ℕ → Condition → Bool
default_of p r i Skip = false
default_of p r i Start = true
default_of p r i Pre = true
default_of p r i Inv = true
default_of p r i End = when is_list p i then children_by p r.status i is_finished else true
default_of p r i Post = true
default_of p r i Repeat = false

-- a node's condition: what its expression answers, or its default
unfoldable pub condition : Image → Seen → ℕ → Condition → Worked
condition p r i c = when eqb (condition_field p i c) default then Flag (default_of p r i c) else value_of p r (condition_field p i c)

-- a condition is True
unfoldable pub holds : Image → Seen → ℕ → Condition → Bool
holds p r i c = says true (condition p r i c)

-- a condition is False
unfoldable pub fails : Image → Seen → ℕ → Condition → Bool
fails p r i c = says false (condition p r i c)

-- "Skip True, then Finished, Skipped. Else Start True: Pre True, then Executing ..; otherwise IterationEnded, Failure, Pre"
unfoldable pub from_waiting : Image → Seen → ℕ → Move
from_waiting p r i =
    when holds p r i Skip then Go Finished Skips
    else when holds p r i Start then (when holds p r i Pre then Go Executing Kept else Go IterationEnded (Failed Failure ByPre))
    else Stay

-- "A list or command goes to Failing ..; an assignment goes to IterationEnded without writing", with outcome o and failure f
unfoldable pub fails_by : Image → ℕ → ℕ → ℕ → Move
fails_by p i o f = when is_assignment p i then Go IterationEnded (Failed o f) else Go Failing (Failed o f)

-- "parent Failing gives failure Parent; else Inv False gives Invariant; both with outcome Failure"; u is the parent's status
unfoldable pub failure_or : Status → Image → Seen → ℕ → Move → Move
failure_or u p r i other =
    when same u Failing then fails_by p i Failure ByParent
    else when fails p r i Inv then fails_by p i Failure ByInvariant
    else other

-- "a list goes to Finishing; a returned command goes to IterationEnded; an assignment writes and goes to IterationEnded"
unfoldable pub at_end : Image → State → ℕ → Move
at_end p s i =
    when is_list p i then Go Finishing Kept
    else when is_command p i then (when eqb (mark_at s i) 0 then Stay else Go IterationEnded Judged)
    else Go IterationEnded Judged

-- "list with all children Waiting or Finished, or command returned"
unfoldable pub settled : Image → State → ℕ → Bool
settled p s i = when is_list p i then children p s i is_resting else every (is_command p i ∷ not (eqb (mark_at s i) 0) ∷ [])

-- "parent Finishing or Failing: Finished. Parent Executing: Repeat True gives Waiting, outcome and failure cleared; else Finished"
unfoldable pub from_ended : Status → Image → Seen → ℕ → Move
from_ended u p r i =
    when is_closing u then Go Finished Kept
    else when same u Executing then (when holds p r i Repeat then Go Waiting Cleared else Go Finished Kept)
    else Stay

-- the rules of each status, u being the parent's
unfoldable pub by_status : Status → Status → Image → State → ℕ → Move
-- "Inactive, parent Executing: Waiting"
by_status Inactive u p s i = when same u Executing then Go Waiting Kept else Stay
-- "Waiting, parent Executing"
by_status Waiting u p s i = when same u Executing then from_waiting p (seen s) i else Stay
-- "Otherwise, End True"
by_status Executing u p s i = failure_or u p (seen s) i (when holds p (seen s) i End then at_end p s i else Stay)
-- "Finishing: the same two failures to Failing; else all children Waiting or Finished: IterationEnded"
by_status Finishing u p s i = failure_or u p (seen s) i (when children p s i is_resting then Go IterationEnded Judged else Stay)
-- "Failing: list with all children Waiting or Finished, or command returned: IterationEnded, outcome kept"
by_status Failing u p s i = when settled p s i then Go IterationEnded Kept else Stay
by_status IterationEnded u p s i = from_ended u p (seen s) i
by_status Finished u p s i = Stay

-- "Any status but Inactive, parent Inactive or Waiting: Inactive, outcome and failure cleared", before the rules of its status
unfoldable pub move_by : Status → Status → Image → State → ℕ → Move
move_by c u p s i = when every (not (same c Inactive) ∷ is_off u ∷ []) then Go Inactive Cleared else by_status c u p s i

-- the move of node i: "First rule that applies"
unfoldable pub move_of : Image → State → ℕ → Move
move_of p s i = move_by (status_at s i) (parent_status p s i) p s i

-- opens every definition of this file
unfoldable pub opened : Unit {0}
unfolding is_off is_closing is_resting is_finished children_by parent_status default_of condition holds fails from_waiting fails_by failure_or at_end settled from_ended by_status move_by move_of
opened = tt
