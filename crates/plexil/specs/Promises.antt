-- Demand 3 as one statement, `Demand3`, and its parts: what holds of an admitted plan, in every session and from every kept state that passes 30.
use Rattle.std.specs.Prelude.{ℕ, ◌<◌, ◌≤◌, ◌≡◌, ◌≢◌, true, List, length}
use Rattle.plexil.specs.declared.Worked.TheVariants.{Clash}
use Rattle.plexil.specs.declared.State.{State}
use Rattle.plexil.specs.declared.Card.{Card}
use Rattle.plexil.specs.declared.Condition.{Condition}
use Rattle.plexil.specs.declared.Verdict.TheVariants.{Admitted}
use Rattle.plexil.specs.Tested.{Accepted}
use Rattle.plexil.specs.Image.{Image, node_count, expr_count, var_count, priority, value_field, owner, result_kind, var_kind}
use Rattle.plexil.specs.Places.{seen, status_at, outcome_at, failure_at, var_cell, initial, fresh_state, fresh_card, Failure, WriteLost}
use Rattle.plexil.specs.Expressions.{eval_of, value_of}
use Rattle.plexil.specs.Kinds.{Has, Meets}
use Rattle.plexil.specs.Records.{is_writer, target}
use Rattle.plexil.specs.Check.{verdict}
use Rattle.plexil.specs.CheckPromises.{RefusedExact, AdmittedExact}
use Rattle.plexil.specs.Atomic.{parent_status, condition, move_of}
use Rattle.plexil.specs.Micro.{writes, written, enters_waiting, step}
use Rattle.plexil.specs.Order.{carry_nothing, walk, settle, NamesOnce}
use Rattle.plexil.specs.Form.{allowed, good_state, good_kept}
use Rattle.plexil.specs.Macro.{event_answer, entered, entry_count}
use Rattle.plexil.specs.Replies.{run_number, run_reply, turn_reply}

-- a plan that the check admits
abbrev pub IsAdmitted : Image → Type 0
IsAdmitted p = verdict p ≡ Admitted

-- a kept state that breaks nothing of 30
abbrev pub IsKept : Image → State → Type 0
IsKept p s = good_state p s ≡ true

-- the arrays of a state have their lengths
pub record Sized (s : State) : Type 0 where
  pub status : length s.status ≡ 256
  pub outcome : length s.outcome ≡ 256
  pub failure : length s.failure ≡ 256
  pub mark : length s.mark ≡ 256
  pub vartags : length s.vartags ≡ 128
  pub varbits : length s.varbits ≡ 128
  pub looktags : length s.looktags ≡ 64
  pub lookbits : length s.lookbits ≡ 64

-- "from a fresh start, under any events and runs": runs and turns of any event, budget, list and place, also refused, Spent and NoRoom ones
pub data Session (p : Image) : State → Card → Type 0 where
  fresh : IsAdmitted p → Session p (fresh_state p) fresh_card
  ran : {s : State} {c : Card} → Session p s c → (budget : ℕ) (list : List ℕ) (start : ℕ)
      → Session p (run_reply p s c budget list start).ran.state (run_reply p s c budget list start).ran.card
  turned : {s : State} {c : Card} → Session p s c → (event : List ℕ) (budget : ℕ) (list : List ℕ) (start : ℕ)
      → Session p (turn_reply p s c event budget list start).ran.state (turn_reply p s c event budget list start).ran.card

-- 1. Sessions: refusal 30 never comes
abbrev pub SessionsKept : Type 0
SessionsKept = (p : Image) (s : State) (c : Card) → Session p s c → good_kept p s c ≡ true

-- no run and no turn answers 30 in a session
abbrev pub NeverState : Type 0
NeverState =
    (p : Image) (s : State) (c : Card) → Session p s c
    → ((budget : ℕ) (list : List ℕ) (start : ℕ) → (run_number (run_reply p s c budget list start).ran.answer).number ≢ 30)
    × ((event : List ℕ) (budget : ℕ) (list : List ℕ) (start : ℕ) → (run_number (turn_reply p s c event budget list start).ran.answer).number ≢ 30)

-- a state of its lengths and a card that pass 30
pub record Passes (p : Image) (s : State) (c : Card) : Type 0 where
  pub kept : good_kept p s c ≡ true
  pub sized : Sized s

-- "from every kept state that passes 30" a run and a turn lead to such a state again, whatever they answer
abbrev pub RunKeeps : Type 0
RunKeeps =
    (p : Image) (s : State) (c : Card) → IsAdmitted p → Passes p s c → (budget : ℕ) (list : List ℕ) (start : ℕ)
    → Passes p (run_reply p s c budget list start).ran.state (run_reply p s c budget list start).ran.card

abbrev pub TurnKeeps : Type 0
TurnKeeps =
    (p : Image) (s : State) (c : Card) → IsAdmitted p → Passes p s c → (event : List ℕ) (budget : ℕ) (list : List ℕ) (start : ℕ)
    → Passes p (turn_reply p s c event budget list start).ran.state (turn_reply p s c event budget list start).ran.card

-- the three ways on from a kept state
abbrev pub FreshKept : Type 0
FreshKept = (p : Image) → IsAdmitted p → IsKept p (fresh_state p)

abbrev pub StepKept : Type 0
StepKept = (p : Image) (s : State) → IsAdmitted p → IsKept p s → IsKept p (step p s)

abbrev pub EventKept : Type 0
EventKept =
    (p : Image) (s : State) (c : Card) (b : List ℕ) → IsAdmitted p → IsKept p s → Sized s → event_answer p s c b ≡ Accepted → IsKept p (entered p b (entry_count b) s)

-- what holds of every kept state that passes 30, and of the micro step from it
abbrev pub FromKept : (Image → State → Type 0) → Type 0
FromKept P = (p : Image) (s : State) → IsAdmitted p → IsKept p s → P p s

-- 2. "no expression meets a value of another kind": nothing that working out an entry meets is a Clash
abbrev pub NoClash : Image → State → Type 0
NoClash p s = (e k x : ℕ) → e < expr_count p → Meets p 12 e k x → eval_of p (seen s) k x ≢ Clash

-- each entry met has its own kind, a leaf's cell too
abbrev pub EntryHas : Image → State → Type 0
EntryHas p s = (e k x : ℕ) → e < expr_count p → Meets p 12 e k x → Has (result_kind p x) (eval_of p (seen s) k x)

-- a condition is True, False or Unknown
abbrev pub ConditionHas : Image → State → Type 0
ConditionHas p s = (i : ℕ) → i < node_count p → (c : Condition) → Has 0 (condition p (seen s) i c)

-- what a writer writes has its target's kind
abbrev pub AssignedHas : Image → State → Type 0
AssignedHas p s = (i : ℕ) → i < node_count p → is_writer p i ≡ true → Has (var_kind p (target p i)) (value_of p (seen s) (value_field p i))

-- 3. "each node stands to its parent as 01's table allows"
abbrev pub ParentTable : Image → State → Type 0
ParentTable p s = (i : ℕ) → i < node_count p → allowed (parent_status p s i) (status_at s i) ≡ true

-- node i is a writer of variable v in the step from s
pub record Writer (p : Image) (s : State) (v i : ℕ) : Type 0 where
  pub within : i < node_count p
  pub target : target p i ≡ v
  pub writing : writes p s i ≡ true

-- 4. "no variable is written and reset in one step"
abbrev pub NotWrittenAndReset : Image → State → Type 0
NotWrittenAndReset p s = (v i : ℕ) → Writer p s v i → enters_waiting (move_of p s (owner p v)) ≡ true → ⊥

-- the one writer of v whose priority is strictly greatest
pub record Sole (p : Image) (s : State) (v i : ℕ) : Type 0 where
  pub writer : Writer p s v i
  pub greatest : (j : ℕ) → Writer p s v j → (j ≡ i → ⊥) → priority p j < priority p i

-- 5. "of a step's writers only a sole highest-priority one's value enters". Had the tower kept to it, B could not have replaced AA:
-- after the step a variable holds its old value, or its initial one because its owner entered Waiting, or that of its sole highest-priority writer
pub data CellAfter (p : Image) (s : State) (v : ℕ) : Type 0 where
  stays : var_cell (step p s) v ≡ var_cell s v → CellAfter p s v
  reset : enters_waiting (move_of p s (owner p v)) ≡ true → var_cell (step p s) v ≡ initial p v → CellAfter p s v
  enters : (i : ℕ) → Sole p s v i → var_cell (step p s) v ≡ written p s i → CellAfter p s v

-- every other writer loses
pub record Lost (p : Image) (s : State) (j : ℕ) : Type 0 where
  pub outcome : outcome_at (step p s) j ≡ Failure
  pub failure : failure_at (step p s) j ≡ WriteLost

-- a sole writer's value does enter, and what is not a plan's variable stays as it is
pub record WritersSettled (p : Image) (s : State) : Type 0 where
  pub cells : (v : ℕ) → v < var_count p → CellAfter p s v
  pub soles : (v : ℕ) → v < var_count p → (i : ℕ) → Sole p s v i → var_cell (step p s) v ≡ written p s i
  pub losers : (v j : ℕ) → Writer p s v j → (Sole p s v j → ⊥) → Lost p s j
  pub others : (v : ℕ) → var_count p ≤ v → var_cell (step p s) v ≡ var_cell s v

-- 6. "the nodes in any order, each once, give the same next state"
abbrev pub AnyOrder : Image → State → Type 0
AnyOrder p s = (order : List ℕ) → NamesOnce p order → settle p s (walk p s order (carry_nothing s)) ≡ step p s

-- ---- demand 3. The states of a session: what a call leaves, what the taking of an event leaves, and where each micro step leads
pub data Reached (p : Image) : State → Type 0 where
  left : {s : State} {c : Card} → Session p s c → Reached p s
  told : {s : State} {c : Card} → Session p s c → (event : List ℕ) → event_answer p s c event ≡ Accepted → Reached p (entered p event (entry_count event) s)
  stepped : {s : State} → Reached p s → Reached p (step p s)

-- what holds of each, and of the micro step from it
pub record Sound (p : Image) (s : State) : Type 0 where
  pub no_clash : NoClash p s
  pub entries : EntryHas p s
  pub conditions : ConditionHas p s
  pub assigned : AssignedHas p s
  pub table : ParentTable p s
  pub not_both : NotWrittenAndReset p s
  pub writers : WritersSettled p s
  pub any_order : AnyOrder p s

-- "The check refuses exactly the plans that break a listed rule. For any admitted plan, from a fresh start, under any events and runs": a session
-- begins with an admitted plan
pub record Demand3 : Type 0 where
  pub refused : RefusedExact
  pub admitted : AdmittedExact
  pub sessions : (p : Image) (s : State) → Reached p s → Sound p s
