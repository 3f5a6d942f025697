-- 004's micro relation: what one step makes of every place, who writes, what returns to its initial value, the command words.
use Rattle.std.specs.Prelude.{ℕ, zero, suc, ◌+◌, ◌*◌, Bool, true, false, not, List, [], ◌∷◌, ◌++◌, get_or, eqb, leb}
use Rattle.plexil.specs.declared.Cell.{Cell}
use Rattle.plexil.specs.declared.State.{State}
use Rattle.plexil.specs.declared.Place.{Place}
use Rattle.plexil.specs.declared.Status.{Status}
use Rattle.plexil.specs.declared.Status.TheVariants.{Waiting, Executing, Failing, IterationEnded}
use Rattle.plexil.specs.declared.Condition.TheVariants.{Post}
use Rattle.plexil.specs.declared.Move.{Move}
use Rattle.plexil.specs.declared.Move.TheVariants.{Stay, Go}
use Rattle.plexil.specs.declared.Effect.{Effect}
use Rattle.plexil.specs.declared.Effect.TheVariants.{Kept, Cleared, Skipped as Skips, Failed, Judged}
use Rattle.plexil.specs.Lists.{when◌then◌else◌, every, some, all_below, any_below, renew}
use Rattle.plexil.specs.Values.{encode}
use Rattle.plexil.specs.Image.{Image, node_count, var_count, priority, value_field, owner}
use Rattle.plexil.specs.Places.{status_code, same, Seen, seen, outcome_at, failure_at, mark_at, var_cell, initial, None, Success, Failure, Skipped, none, ByPost, WriteLost}
use Rattle.plexil.specs.Expressions.{value_of}
use Rattle.plexil.specs.Records.{is_command, is_writer, target}
use Rattle.plexil.specs.Atomic.{holds, move_of}

-- "Reaching IterationEnded through End or Finishing"
unfoldable pub is_judged : Effect → Bool
is_judged Kept = false
is_judged Cleared = false
is_judged Skips = false
is_judged (Failed o f) = false
is_judged Judged = true

-- a move with that effect
unfoldable pub judges : Move → Bool
judges Stay = false
judges (Go a e) = is_judged e

-- "an assignment writes and goes to IterationEnded"
unfoldable pub writes : Image → State → ℕ → Bool
writes p s i = every (is_writer p i ∷ judges (move_of p s i) ∷ [])

-- what node i writes, whatever Post says: "the write still happens"
unfoldable pub written : Image → State → ℕ → Cell
written p s i = encode (value_of p (seen s) (value_field p i))

-- j stands in i's way: another writer of i's variable, of i's priority or more
unfoldable pub rival : Image → State → ℕ → ℕ → Bool
rival p s i j = every (not (eqb j i) ∷ eqb (target p j) (target p i) ∷ leb (priority p i) (priority p j) ∷ writes p s j ∷ [])

-- "Several assignments of one variable in a step: the one with strictly greatest priority number writes. A tie for greatest: none writes."
unfoldable pub loses : Image → State → ℕ → Bool
loses p s i = every (writes p s i ∷ any_below (node_count p) (rival p s i) ∷ [])

-- node i's value enters variable v
unfoldable pub wins : Image → State → ℕ → ℕ → Bool
wins p s v i = every (eqb (target p i) v ∷ writes p s i ∷ not (loses p s i) ∷ [])

-- "Post is read before an assignment's write": what node i's Post reads is of the state before the step
unfoldable pub read_by_post : Image → State → ℕ → Seen
read_by_post p s i = seen s

-- "if Post is True"
unfoldable pub post_holds : Image → State → ℕ → Bool
post_holds p s i = holds p (read_by_post p s i) i Post

-- the outcome and the failure that an effect makes: "gives Success, failure none, if Post is True, else Failure, Post"
unfoldable pub ending_by : Image → State → ℕ → Effect → ℕ × ℕ
ending_by p s i Kept = (outcome_at s i, failure_at s i)
ending_by p s i Cleared = (None, none)
ending_by p s i Skips = (Skipped, failure_at s i)
ending_by p s i (Failed o f) = (o, f)
ending_by p s i Judged = when post_holds p s i then (Success, none) else (Failure, ByPost)

-- "The mark clears on leaving for IterationEnded"; "Executing (a command issues its word, mark clear)"
unfoldable pub mark_by : State → ℕ → Status → ℕ
mark_by s i a = when some (same a IterationEnded ∷ same a Executing ∷ []) then 0 else mark_at s i

-- what a move makes of node i's place, before the losers are settled; "What a rule does not name stays"
unfoldable pub place_by : Image → State → ℕ → Move → Place
place_by p s i Stay = record { status = get_or s.status i 0; outcome = outcome_at s i; failure = failure_at s i; mark = mark_at s i }
place_by p s i (Go a e) = record { status = status_code a; outcome = (ending_by p s i e).0; failure = (ending_by p s i e).1; mark = mark_by s i a }

-- what node i's own move makes of its place
unfoldable pub place : Image → State → ℕ → Place
place p s i = place_by p s i (move_of p s i)

-- "Every loser gets Failure, WriteLost, whatever Post says"
unfoldable pub outcome_after : Image → State → ℕ → ℕ
outcome_after p s i = when loses p s i then Failure else (place p s i).outcome

-- the failure of node i after the step
unfoldable pub failure_after : Image → State → ℕ → ℕ
failure_after p s i = when loses p s i then WriteLost else (place p s i).failure

-- "when it enters Waiting"
unfoldable pub enters_waiting : Move → Bool
enters_waiting Stay = false
enters_waiting (Go a e) = same a Waiting

-- variable v where no value enters it: "A node's variables return to their initial values when it enters Waiting"
unfoldable pub unwritten : Image → State → ℕ → Cell
unwritten p s v = when enters_waiting (move_of p s (owner p v)) then initial p v else var_cell s v

-- the value of v's winner among the nodes below n, if there is one
unfoldable pub written_below : Image → State → ℕ → ℕ → Cell
written_below p s v zero = unwritten p s v
written_below p s v (suc n) = elim (wins p s v n) [ true ↦ written p s n | false ↦ written_below p s v n ]

-- variable v after the step
unfoldable pub var_after : Image → State → ℕ → Cell
var_after p s v = written_below p s v (node_count p)

-- the next state
unfoldable pub step : Image → State → State
step p s = record {
  status = renew (node_count p) (λ i. (place p s i).status) s.status;
  outcome = renew (node_count p) (outcome_after p s) s.outcome;
  failure = renew (node_count p) (failure_after p s) s.failure;
  mark = renew (node_count p) (λ i. (place p s i).mark) s.mark;
  vartags = renew (var_count p) (λ v. (var_after p s v).tag) s.vartags;
  varbits = renew (var_count p) (λ v. (var_after p s v).bits) s.varbits;
  looktags = s.looktags;
  lookbits = s.lookbits;
}

-- what a command sends: 0 nothing, 1 its word on going to Executing, 2 an abort on going to Failing: "a command not yet returned issues an abort"
unfoldable pub sent_by : Image → State → ℕ → Move → ℕ
sent_by p s i Stay = 0
sent_by p s i (Go a e) =
    when every (is_command p i ∷ same a Executing ∷ []) then 1 else when every (is_command p i ∷ same a Failing ∷ eqb (mark_at s i) 0 ∷ []) then 2 else 0

-- what node i sends
unfoldable pub sent : Image → State → ℕ → ℕ
sent p s i = sent_by p s i (move_of p s i)

-- "A command word (32 bits) is twice the node number, plus 1 for an abort"
unfoldable pub word_of : ℕ → ℕ → List ℕ
word_of i zero = []
word_of i (suc zero) = 2 * i ∷ []
word_of i (suc (suc k)) = (2 * i + 1) ∷ []

-- "Words of one micro step are in node order": those of nodes i to i + n - 1
unfoldable pub words_from : (ℕ → ℕ) → ℕ → ℕ → List ℕ
words_from f i zero = []
words_from f i (suc n) = word_of i (f i) ++ words_from f (suc i) n

-- the words of one micro step
unfoldable pub words : Image → State → List ℕ
words p s = words_from (sent p s) 0 (node_count p)

-- no rule applies to the node
unfoldable pub stays : Move → Bool
stays Stay = true
stays (Go a e) = false

-- "Quiet means that no rule applies"
unfoldable pub quiet : Image → State → Bool
quiet p s = all_below (node_count p) (λ i. stays (move_of p s i))

-- opens every definition of this file
unfoldable pub opened : Unit {0}
unfolding is_judged judges writes written rival loses wins read_by_post post_holds ending_by mark_by place_by place outcome_after failure_after enters_waiting unwritten written_below var_after step sent_by sent word_of words_from words stays quiet
opened = tt
