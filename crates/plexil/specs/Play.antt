-- The player of the tables: what is done with a plan, turn by turn, and what is seen then.
use Rattle.std.specs.Prelude.{ℕ, Bool, true, false, List, [], ◌∷◌, get_or, replicate, take, set, length, eqb}
use Rattle.plexil.specs.declared.State.{State}
use Rattle.plexil.specs.declared.Card.{Card}
use Rattle.plexil.specs.declared.RunAnswer.{RunAnswer}
use Rattle.plexil.specs.declared.RunAnswer.TheVariants as ran
use Rattle.plexil.specs.Lists.{when◌then◌else◌, every}
use Rattle.plexil.specs.Places.{var_cell, look_cell, fresh_state, fresh_card}
use Rattle.plexil.specs.Check.{rule_number}
use Rattle.plexil.specs.Replies.{RunReply, verdict_number, run_number, check_reply, fresh_reply, run_reply, turn_reply}

pub data Turn : Type 0 where
  -- a run of budget 100 answers this, after so many steps, with these words
  runs : RunAnswer → ℕ → List ℕ → Turn
  -- a run of this budget, on this list from this place on: its answer, its steps, the next free place and the list at its exit
  runs_on : ℕ → List ℕ → ℕ → RunAnswer → ℕ → ℕ → List ℕ → Turn
  -- the same of a turn with this event
  turns_with : List ℕ → RunAnswer → ℕ → List ℕ → Turn
  turns_on : List ℕ → ℕ → List ℕ → ℕ → RunAnswer → ℕ → ℕ → List ℕ → Turn
  -- a turn of budget 0 with this event: its refusal number and entry
  enters : List ℕ → ℕ → ℕ → Turn
  -- a variable's tag and bits; a node's status, outcome and failure
  holds : ℕ → ℕ → ℕ → Turn
  stands : ℕ → ℕ → ℕ → ℕ → Turn
  -- a lookup's tag and bits; a node's mark; the card's serial and phase
  looks : ℕ → ℕ → ℕ → Turn
  marked : ℕ → ℕ → Turn
  shows : ℕ → ℕ → Turn
  -- the arrays of the state have their lengths
  sized : Turn
  -- the host changes one number of the array, or of the card, that it keeps
  keeps : ℕ → ℕ → ℕ → Turn

-- what `keeps` names: the arrays of a state and the numbers of a card
abbrev pub statuses : ℕ
statuses = 0

abbrev pub outcomes : ℕ
outcomes = 1

abbrev pub failures : ℕ
failures = 2

abbrev pub marks : ℕ
marks = 3

abbrev pub var_tags : ℕ
var_tags = 4

abbrev pub var_bits : ℕ
var_bits = 5

abbrev pub look_tags : ℕ
look_tags = 6

abbrev pub look_bits : ℕ
look_bits = 7

abbrev pub serials : ℕ
serials = 8

abbrev pub phases : ℕ
phases = 9

pub record Case : Type 0 where
  pub image : List ℕ
  pub turns : List Turn

-- a number for each answer of a run or a turn
unfoldable pub answer_code : RunAnswer → ℕ
answer_code (ran.Refused r i) = rule_number r
answer_code ran.State = 30
answer_code ran.Place = 31
answer_code ran.Busy = 20
answer_code ran.Shape = 21
answer_code ran.Turn = 22
answer_code (ran.Entry k) = 23
answer_code (ran.Twice k) = 24
answer_code (ran.NotAwaited k) = 25
answer_code ran.NoRoom = 32
answer_code ran.Spent = 33
answer_code ran.Quiet = 34

unfoldable pub same_words : List ℕ → List ℕ → Bool
same_words [] [] = true
same_words [] (y ∷ ys) = false
same_words (x ∷ xs) [] = false
same_words (x ∷ xs) (y ∷ ys) = every (eqb x y ∷ same_words xs ys ∷ [])

abbrev pub room : List ℕ
room = replicate 16 0

-- array k of a state, place i of it now x, where k is the array that is meant
unfoldable pub changed : ℕ → ℕ → ℕ → ℕ → List ℕ → List ℕ
changed k meant i x l = when eqb k meant then set l i x else l

unfoldable pub state_kept : ℕ → ℕ → ℕ → State → State
state_kept k i x s = record {
  status = changed k statuses i x s.status;
  outcome = changed k outcomes i x s.outcome;
  failure = changed k failures i x s.failure;
  mark = changed k marks i x s.mark;
  vartags = changed k var_tags i x s.vartags;
  varbits = changed k var_bits i x s.varbits;
  looktags = changed k look_tags i x s.looktags;
  lookbits = changed k look_bits i x s.lookbits;
}

unfoldable pub card_kept : ℕ → ℕ → Card → Card
card_kept k x c = record { serial = when eqb k serials then x else c.serial; phase = when eqb k phases then x else c.phase }

-- whether a turn passes, with the state and the card after it
pub record Seen : Type 0 where
  pub passed : Bool
  pub state : State
  pub card : Card

unfoldable pub seen : Bool → State → Card → Seen
seen b s c = record { passed = b; state = s; card = c }

unfoldable pub after_run : RunReply → Bool → Seen
after_run r b = seen b r.ran.state r.ran.card

-- the answer, the steps, and the words that were written
unfoldable pub wrote : RunReply → RunAnswer → ℕ → List ℕ → Seen
wrote r a n ws =
    after_run r (every (eqb (answer_code r.ran.answer) (answer_code a) ∷ eqb r.ran.steps n ∷ same_words (take r.ran.next r.list) ws ∷ []))

-- the answer, the steps, the next free place and the whole list
unfoldable pub wrote_on : RunReply → RunAnswer → ℕ → ℕ → List ℕ → Seen
wrote_on r a n next l =
    after_run r (every (eqb (answer_code r.ran.answer) (answer_code a) ∷ eqb r.ran.steps n ∷ eqb r.ran.next next ∷ same_words r.list l ∷ []))

-- the refusal number, and the entry that it names
unfoldable pub enters_by : RunReply → ℕ → ℕ → Seen
enters_by r n k = after_run r (every (eqb (run_number r.ran.answer).number n ∷ eqb (run_number r.ran.answer).record' k ∷ []))

unfoldable pub see : List ℕ → State → Card → Turn → Seen
see p s c (runs a n ws) = wrote (run_reply p s c 100 room 0) a n ws
see p s c (runs_on budget l start a n next l') = wrote_on (run_reply p s c budget l start) a n next l'
see p s c (turns_with b a n ws) = wrote (turn_reply p s c b 100 room 0) a n ws
see p s c (turns_on b budget l start a n next l') = wrote_on (turn_reply p s c b budget l start) a n next l'
see p s c (enters b n k) = enters_by (turn_reply p s c b 0 [] 0) n k
see p s c (holds v t w) = seen (every (eqb (var_cell s v).tag t ∷ eqb (var_cell s v).bits w ∷ [])) s c
see p s c (stands i a o f) = seen (every (eqb (get_or s.status i 0) a ∷ eqb (get_or s.outcome i 0) o ∷ eqb (get_or s.failure i 0) f ∷ [])) s c
see p s c (looks l t w) = seen (every (eqb (look_cell s l).tag t ∷ eqb (look_cell s l).bits w ∷ [])) s c
see p s c (marked i m) = seen (eqb (get_or s.mark i 0) m) s c
see p s c (shows serial phase) = seen (every (eqb c.serial serial ∷ eqb c.phase phase ∷ [])) s c
see p s c sized =
    seen
    (same_words
    (length s.status ∷ length s.outcome ∷ length s.failure ∷ length s.mark ∷ length s.vartags ∷ length s.varbits
    ∷ length s.looktags ∷ length s.lookbits ∷ [])
    (256 ∷ 256 ∷ 256 ∷ 256 ∷ 128 ∷ 128 ∷ 64 ∷ 64 ∷ []))
    s c
see p s c (keeps k i x) = seen true (state_kept k i x s) (card_kept k x c)

-- the turns pass one after the other
unfoldable pub plays : List ℕ → State → Card → List Turn → Bool
plays p s c [] = true
plays p s c (t ∷ ts) = let r = see p s c t in elim r.passed [ true ↦ plays p r.state r.card ts | false ↦ false ]

-- the check admits it, and the turns follow on the fresh start
unfoldable pub passes : Case → Bool
passes k =
    let r = fresh_reply k.image (fresh_state []) fresh_card in
    elim (every (eqb (verdict_number (check_reply k.image).verdict).number 0 ∷ eqb (verdict_number r.verdict).number 0 ∷ [])) [
      | true ↦ plays k.image r.state r.card k.turns
      | false ↦ false
    ]

unfoldable pub all_pass : List Case → Bool
all_pass [] = true
all_pass (k ∷ ks) = elim (passes k) [ true ↦ all_pass ks | false ↦ false ]

-- opens every definition of this file
unfoldable pub opened : Unit {0}
unfolding answer_code same_words changed state_kept card_kept seen after_run wrote wrote_on enters_by see plays passes all_pass
opened = tt
