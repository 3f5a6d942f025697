-- Promise 7 in statements: each call permits one reply, a refusal but 32 changes nothing, a turn is the taking of its event and then a run,
-- and the count of either is its number of micro steps.
use Rattle.std.specs.Prelude.{ℕ, zero, suc, ◌+◌, ◌<◌, ◌≤◌, ◌≡◌, ◌⊎◌, ◌≢◌, ◌↔◌, true, false, List, [], ◌++◌, length, get_or}
use Rattle.plexil.specs.declared.State.{State}
use Rattle.plexil.specs.declared.Card.{Card}
use Rattle.plexil.specs.declared.Rule.{Rule}
use Rattle.plexil.specs.declared.Checked.{Checked}
use Rattle.plexil.specs.declared.Started.{Started}
use Rattle.plexil.specs.declared.RunAnswer.TheVariants as ran
use Rattle.plexil.specs.declared.Ran.{Ran}
use Rattle.plexil.specs.declared.Verdict.{Verdict}
use Rattle.plexil.specs.declared.Verdict.TheVariants.{Refused}
use Rattle.plexil.specs.declared.RunAnswer.{RunAnswer}
use Rattle.plexil.specs.Tested as test
use Rattle.plexil.specs.Lists.{put}
use Rattle.plexil.specs.Image.{Image}
use Rattle.plexil.specs.Places.{Running, Quiet}
use Rattle.plexil.specs.Micro.{step, words, quiet}
use Rattle.plexil.specs.Check.{verdict}
use Rattle.plexil.specs.Form.{good_kept}
use Rattle.plexil.specs.Macro.{event_answer, entry_count, entered, card_after}
use Rattle.plexil.specs.Replies.{by_done, verdict_number, run_number, check_reply, fresh_reply, RunReply, run_reply, turn_reply}
use Rattle.plexil.specs.Promises.{IsAdmitted, Sized}

-- the state after k micro steps from s
unfoldable pub iterate : Image → ℕ → State → State
iterate p zero s = s
iterate p (suc k) s = iterate p k (step p s)

-- the words of these k steps, in order
unfoldable pub words_of : Image → ℕ → State → List ℕ
words_of p zero s = []
words_of p (suc k) s = words p s ++ words_of p k (step p s)

-- ---- "Any two replies it permits are proved equal". What the contract of each call permits, which its `ensures` cites: the reply, and what was lent at exit
abbrev pub CheckPermits : Image → Checked → Type 0
CheckPermits p r = r ≡ check_reply p

abbrev pub FreshPermits : Image → State → Card → Started → Type 0
FreshPermits p s c r = r ≡ fresh_reply p s c

abbrev pub RunPermits : Image → State → Card → ℕ → List ℕ → ℕ → Ran → List ℕ → Type 0
RunPermits p s c budget list start r exit = (r ≡ (run_reply p s c budget list start).ran) × (exit ≡ (run_reply p s c budget list start).list)

abbrev pub TurnPermits : Image → State → Card → List ℕ → ℕ → List ℕ → ℕ → Ran → List ℕ → Type 0
TurnPermits p s c event budget list start r exit = (r ≡ (turn_reply p s c event budget list start).ran) × (exit ≡ (turn_reply p s c event budget list start).list)

abbrev pub OneCheck : Type 0
OneCheck = (p : Image) (r q : Checked) → CheckPermits p r → CheckPermits p q → r ≡ q

abbrev pub OneFresh : Type 0
OneFresh = (p : Image) (s : State) (c : Card) (r q : Started) → FreshPermits p s c r → FreshPermits p s c q → r ≡ q

abbrev pub OneRun : Type 0
OneRun =
    (p : Image) (s : State) (c : Card) (budget : ℕ) (list : List ℕ) (start : ℕ) (r q : Ran) (exit final : List ℕ)
    → RunPermits p s c budget list start r exit → RunPermits p s c budget list start q final → (r ≡ q) × (exit ≡ final)

abbrev pub OneTurn : Type 0
OneTurn =
    (p : Image) (s : State) (c : Card) (event : List ℕ) (budget : ℕ) (list : List ℕ) (start : ℕ) (r q : Ran) (exit final : List ℕ)
    → TurnPermits p s c event budget list start r exit → TurnPermits p s c event budget list start q final → (r ≡ q) × (exit ≡ final)

-- every other contract says the reply, or what was lent at exit, by a definition ..
abbrev pub OneSaid : Type 1
OneSaid = (A : Type 0) (said r q : A) → r ≡ said → q ≡ said → r ≡ q

-- .. or by a definition over any state, or any state and what is carried, that has the arrays lent: there is one that has them
abbrev pub OneOfAny : Type 1
OneOfAny = (A S : Type 0) (Has : S → Type 0) (said : S → A) (s : S) → Has s → (r q : A) → ((s : S) → Has s → r ≡ said s) → ((s : S) → Has s → q ≡ said s) → r ≡ q

-- ---- "Whenever an answer is an enum, a definition gives this paper's number and values for each of the enum's cases": they tell the answers apart
pub record AnswersApart : Type 0 where
  pub runs : (a b : RunAnswer) → run_number a ≡ run_number b → a ≡ b
  pub verdicts : (v w : Verdict) → verdict_number v ≡ verdict_number w → v ≡ w

-- ---- "Apart from 32 a refusal changes nothing"
abbrev pub FreshRefusalKeeps : Type 0
FreshRefusalKeeps =
    (p : Image) (s : State) (c : Card) → (verdict_number (fresh_reply p s c).verdict).number ≢ 0
    → ((fresh_reply p s c).state ≡ s) × ((fresh_reply p s c).card ≡ c)

-- "refusals but 32 answer 0 and the given start place"
pub record Unrun (s : State) (c : Card) (list : List ℕ) (start : ℕ) (r : RunReply) : Type 0 where
  pub steps : r.ran.steps ≡ 0
  pub next : r.ran.next ≡ start
  pub state : r.ran.state ≡ s
  pub card : r.ran.card ≡ c
  pub lent : r.list ≡ list

abbrev pub RunRefusalKeeps : Type 0
RunRefusalKeeps =
    (p : Image) (s : State) (c : Card) (budget : ℕ) (list : List ℕ) (start : ℕ)
    → (run_number (run_reply p s c budget list start).ran.answer).number ≢ 0
    → (run_number (run_reply p s c budget list start).ran.answer).number ≢ 32
    → Unrun s c list start (run_reply p s c budget list start)

-- "a refusal of either's input leaves everything, the event included": the serial and the phase are of the card
abbrev pub TurnRefusalKeeps : Type 0
TurnRefusalKeeps =
    (p : Image) (s : State) (c : Card) (event : List ℕ) (budget : ℕ) (list : List ℕ) (start : ℕ)
    → (run_number (turn_reply p s c event budget list start).ran.answer).number ≢ 0
    → (run_number (turn_reply p s c event budget list start).ran.answer).number ≢ 32
    → Unrun s c list start (turn_reply p s c event budget list start)

-- "31 is now tested after 30 and before 20": the first broken test answers, whatever the later ones would
pub record InOrder (p : Image) (s : State) (c : Card) (event list : List ℕ) (start : ℕ) (answer : RunAnswer) : Type 0 where
  pub image : (r : Rule) (i : ℕ) → verdict p ≡ Refused r i → answer ≡ ran.Refused r i
  pub state : IsAdmitted p → good_kept p s c ≡ false → answer ≡ ran.State
  pub place : IsAdmitted p → good_kept p s c ≡ true → length list < start → answer ≡ ran.Place
  pub entry : IsAdmitted p → good_kept p s c ≡ true → start ≤ length list → (a : RunAnswer) → event_answer p s c event ≡ test.Refused a → answer ≡ a

abbrev pub TurnOrder : Type 0
TurnOrder =
    (p : Image) (s : State) (c : Card) (event : List ℕ) (budget : ℕ) (list : List ℕ) (start : ℕ)
    → InOrder p s c event list start (turn_reply p s c event budget list start).ran.answer

-- ---- the three ends of a run or a turn, each with what holds then. "The phase is Quiet exactly after the answer Quiet"
pub data Ended (p : Image) (budget : ℕ) (list : List ℕ) (r : Ran) : Type 0 where
  at_quiet : r.answer ≡ ran.Quiet → r.card.phase ≡ Quiet → quiet p r.state ≡ true → Ended p budget list r
  spent : r.answer ≡ ran.Spent → r.card.phase ≡ Running → quiet p r.state ≡ false → r.steps ≡ budget → Ended p budget list r
  no_room : r.answer ≡ ran.NoRoom → r.card.phase ≡ Running → quiet p r.state ≡ false → r.steps < budget
      → length list < r.next + length (words p r.state) → Ended p budget list r

-- the course from this state and card of what is not refused, or refused by 32: as many micro steps as it answers, in each of which a rule applied
pub record Course (p : Image) (s : State) (c : Card) (budget : ℕ) (list : List ℕ) (start : ℕ) (r : RunReply) : Type 0 where
  pub within : r.ran.steps ≤ budget
  pub applied : (k : ℕ) → k < r.ran.steps → quiet p (iterate p k s) ≡ false
  pub state : r.ran.state ≡ iterate p r.ran.steps s
  pub next : r.ran.next ≡ start + length (words_of p r.ran.steps s)
  pub room : r.ran.next ≤ length list
  pub lent : r.list ≡ put list start (words_of p r.ran.steps s)
  pub serial : r.ran.card.serial ≡ c.serial
  pub ended : Ended p budget list r.ran

abbrev pub HasRun : RunReply → Type 0
HasRun r = ((run_number r.ran.answer).number ≡ 0) ⊎ ((run_number r.ran.answer).number ≡ 32)

abbrev pub RunCourse : Type 0
RunCourse =
    (p : Image) (s : State) (c : Card) (budget : ℕ) (list : List ℕ) (start : ℕ) → HasRun (run_reply p s c budget list start)
    → Course p s c budget list start (run_reply p s c budget list start)

-- a turn's course is that of the run on what the event leaves: "NoRoom and Spent keep the event"
abbrev pub TurnCourse : Type 0
TurnCourse =
    (p : Image) (s : State) (c : Card) (event : List ℕ) (budget : ℕ) (list : List ℕ) (start : ℕ) → HasRun (turn_reply p s c event budget list start)
    → Course p (entered p event (entry_count event) s) (card_after c) budget list start (turn_reply p s c event budget list start)

-- ---- "It answers as the two would in that order". The taking of the event is not refused
pub record Accepts (p : Image) (s : State) (c : Card) (event : List ℕ) : Type 0 where
  pub kept : good_kept p s c ≡ true
  pub accepted : event_answer p s c event ≡ test.Accepted

-- where neither is refused, the run but by 32, the turn is the taking followed by the run
abbrev pub TurnIsBoth : Type 0
TurnIsBoth =
    (p : Image) (s : State) (c : Card) (event : List ℕ) (budget : ℕ) (list : List ℕ) (start : ℕ) → Accepts p s c event
    → HasRun (run_reply p (entered p event (entry_count event) s) (card_after c) budget list start)
    → turn_reply p s c event budget list start ≡ run_reply p (entered p event (entry_count event) s) (card_after c) budget list start

-- and where the turn is not refused neither of the two is
abbrev pub BothOfTurn : Type 0
BothOfTurn =
    (p : Image) (s : State) (c : Card) (event : List ℕ) (budget : ℕ) (list : List ℕ) (start : ℕ) → Sized s → HasRun (turn_reply p s c event budget list start)
    → Accepts p s c event × HasRun (run_reply p (entered p event (entry_count event) s) (card_after c) budget list start)

-- ---- what holds of the reply of a run and of a turn
-- "Quiet means that no rule applies", "The phase is Quiet exactly after the answer Quiet"
abbrev pub IsExact : Image → RunReply → Type 0
IsExact p r =
    HasRun r
    → (((run_number r.ran.answer).ending ≡ by_done) ↔ (quiet p r.ran.state ≡ true)) × ((r.ran.card.phase ≡ Quiet) ↔ ((run_number r.ran.answer).ending ≡ by_done))

-- "Words before the start place and beyond the last word written stay", after every reply
abbrev pub StaysOutside : List ℕ → ℕ → RunReply → Type 0
StaysOutside list start r = (i : ℕ) → (i < start) ⊎ (r.ran.next ≤ i) → get_or r.list i 0 ≡ get_or list i 0

abbrev pub QuietExactly : Type 0
QuietExactly =
    (p : Image) (s : State) (c : Card) (budget : ℕ) (list : List ℕ) (start : ℕ)
    → IsExact p (run_reply p s c budget list start) × ((event : List ℕ) → IsExact p (turn_reply p s c event budget list start))

abbrev pub WordsStay : Type 0
WordsStay =
    (p : Image) (s : State) (c : Card) (budget : ℕ) (list : List ℕ) (start : ℕ)
    → StaysOutside list start (run_reply p s c budget list start) × ((event : List ℕ) → StaysOutside list start (turn_reply p s c event budget list start))

abbrev pub LengthStays : Type 0
LengthStays =
    (p : Image) (s : State) (c : Card) (budget : ℕ) (list : List ℕ) (start : ℕ)
    → (length (run_reply p s c budget list start).list ≡ length list) × ((event : List ℕ) → length (turn_reply p s c event budget list start).list ≡ length list)

-- opens every definition of this file
unfoldable pub opened : Unit {0}
unfolding iterate words_of
opened = tt
