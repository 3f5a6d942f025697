-- 004's five relations, "A Formal Analysis Framework for PLEXIL", over the definitions of document 01.
-- Σ: what the world tells before a macro step, as the bytes of an event: new values of lookups, and commands that have returned. An event's
-- serial tells it from the one before, so a world that has nothing new to tell offers the same event again.
-- Γ: "a local copy Γ, which is frequently updated from Σ": the lookups' cells of the state.
-- π: "node processes" and "memory processes": the node places and the variables' cells. A returned mark is of π, for a micro step clears it.
-- The turn card stands beside 004's (i, Γ, π): its serial says which event is the next, its phase whether the last cycle reached quiescence.
use Rattle.std.specs.Prelude.{ℕ, zero, suc, ◌<◌, ◌≤◌, ◌≡◌, true, false, List, length, get_or}
use Rattle.plexil.specs.declared.Cell.{Cell}
use Rattle.plexil.specs.declared.State.{State}
use Rattle.plexil.specs.declared.Card.{Card}
use Rattle.plexil.specs.declared.Place.{Place}
use Rattle.plexil.specs.declared.Status.{Status}
use Rattle.plexil.specs.declared.Effect.{Effect}
use Rattle.plexil.specs.declared.Move.TheVariants.{Go}
use Rattle.plexil.specs.Tested.{Accepted}
use Rattle.plexil.specs.Values.{cell}
use Rattle.plexil.specs.Image.{Image, node_count, var_count, owner}
use Rattle.plexil.specs.Places.{state_of, initial, Failure, WriteLost, Quiet}
use Rattle.plexil.specs.Records.{target}
use Rattle.plexil.specs.Atomic.{move_of}
use Rattle.plexil.specs.Micro.{place_by, written, enters_waiting}
use Rattle.plexil.specs.Macro.{event_answer, entry_count, entered, card_after}
use Rattle.plexil.specs.Promises.{Writer, Sole}

-- ---- the environment Γ and the program π of a state
pub record Environment : Type 0 where
  pub looktags : List ℕ
  pub lookbits : List ℕ

pub record Program : Type 0 where
  pub status : List ℕ
  pub outcome : List ℕ
  pub failure : List ℕ
  pub mark : List ℕ
  pub vartags : List ℕ
  pub varbits : List ℕ

abbrev pub joined : Environment → Program → State
joined Γ π = state_of π.status π.outcome π.failure π.mark π.vartags π.varbits Γ.looktags Γ.lookbits

abbrev pub environment_of : State → Environment
environment_of s = record { looktags = s.looktags; lookbits = s.lookbits }

abbrev pub program_of : State → Program
program_of s =
    record { status = s.status; outcome = s.outcome; failure = s.failure; mark = s.mark; vartags = s.vartags; varbits = s.varbits }

abbrev pub place_at : Program → ℕ → Place
place_at π i = record { status = get_or π.status i 0; outcome = get_or π.outcome i 0; failure = get_or π.failure i 0; mark = get_or π.mark i 0 }

abbrev pub cell_at : Program → ℕ → Cell
cell_at π v = cell (get_or π.vartags v 0) (get_or π.varbits v 0)

-- ---- "The atomic relation, denoted by ⟶, represents node state transitions and memory updates": "(Γ, π) ⊢ Node A ⟶ Node A with [status = ..]".
-- The first rule of 01 that applies to node i makes q of its place; an assignment's memory update is its `Writer` and `written`
pub record Atomic (p : Image) (Γ : Environment) (π : Program) (i : ℕ) (q : Place) : Type 0 where
  pub status : Status
  pub effect : Effect
  pub rule : move_of p (joined Γ π) i ≡ Go status effect
  pub becomes : q ≡ place_by p (joined Γ π) i (Go status effect)

-- ---- "The micro relation, denoted by ⟹, is defined as the synchronous execution of the atomic relation"
-- "If two different processes in π, say A and B, write to the same variable, only the update of the process of higher priority is
-- considered, .. and none otherwise"; a writer that is not considered has lost its write
pub record Loser (p : Image) (s : State) (i : ℕ) : Type 0 where
  pub writer : Writer p s (target p i) i
  pub not_sole : Sole p s (target p i) i → ⊥

abbrev pub as_loser : Place → Place
as_loser q = record { status = q.status; outcome = Failure; failure = WriteLost; mark = q.mark }

pub data NodeAfter (p : Image) (Γ : Environment) (π : Program) (i : ℕ) (q : Place) : Type 0 where
  moves : Atomic p Γ π i q → (Loser p (joined Γ π) i → ⊥) → NodeAfter p Γ π i q
  loses : (a : Place) → Atomic p Γ π i a → Loser p (joined Γ π) i → q ≡ as_loser a → NodeAfter p Γ π i q
  stays : ((a : Place) → Atomic p Γ π i a → ⊥) → q ≡ place_at π i → NodeAfter p Γ π i q

-- "A node's variables return to their initial values when it enters Waiting" is 01's
pub data MemoryAfter (p : Image) (Γ : Environment) (π : Program) (v : ℕ) (c : Cell) : Type 0 where
  enters : (i : ℕ) → Sole p (joined Γ π) v i → c ≡ written p (joined Γ π) i → MemoryAfter p Γ π v c
  returns : ((i : ℕ) → Sole p (joined Γ π) v i → ⊥) → enters_waiting (move_of p (joined Γ π) (owner p v)) ≡ true → c ≡ initial p v → MemoryAfter p Γ π v c
  stays : ((i : ℕ) → Sole p (joined Γ π) v i → ⊥) → enters_waiting (move_of p (joined Γ π) (owner p v)) ≡ false → c ≡ cell_at π v → MemoryAfter p Γ π v c

-- the places and cells that the plan does not use, and the arrays' lengths
pub record Unaffected (p : Image) (π π' : Program) : Type 0 where
  pub places : (i : ℕ) → node_count p ≤ i → place_at π' i ≡ place_at π i
  pub cells : (v : ℕ) → var_count p ≤ v → cell_at π' v ≡ cell_at π v
  pub status : length π'.status ≡ length π.status
  pub outcome : length π'.outcome ≡ length π.outcome
  pub failure : length π'.failure ≡ length π.failure
  pub mark : length π'.mark ≡ length π.mark
  pub vartags : length π'.vartags ≡ length π.vartags
  pub varbits : length π'.varbits ≡ length π.varbits

-- "Γ ⊢ π ⟹ π \ ∪ Pi ∪ ∪ Qi, where Mπ = {P1, .., Pn} is the set of node and memory processes in π that are affected by the atomic relation";
-- there is no micro step where no node is affected
pub record Micro (p : Image) (Γ : Environment) (π π' : Program) : Type 0 where
  pub affected : (i : ℕ) × (i < node_count p) × (q : Place) × Atomic p Γ π i q
  pub nodes : (i : ℕ) → i < node_count p → NodeAfter p Γ π i (place_at π' i)
  pub memory : (v : ℕ) → v < var_count p → MemoryAfter p Γ π v (cell_at π' v)
  pub others : Unaffected p π π'

-- ---- "The quiescence relation, denoted by ⟹↓, is defined as the run until completion of the micro relation": Γ ⊢ π ⟹* π', by k micro steps,
-- and "That π' is a ⟹-normal form means that π' cannot be reduced any further using the micro relation"
abbrev pub Micros : Image → Environment → ℕ → Program → Program → Type 0
Micros p Γ zero π π' = π ≡ π'
Micros p Γ (suc k) π π' = (π₁ : Program) × Micro p Γ π π₁ × Micros p Γ k π₁ π'

abbrev pub NormalForm : Image → Environment → Program → Type 0
NormalForm p Γ π = (π' : Program) → Micro p Γ π π' → ⊥

pub record Quiescence (p : Image) (Γ : Environment) (π π' : Program) : Type 0 where
  pub count : ℕ
  pub reduces : Micros p Γ count π π'
  pub normal : NormalForm p Γ π'

-- ---- "The macro relation, denoted by ★→, describes how PLEXIL reacts to events in the external world": (Σj) ⊢ (i, Γ, π) to (i + 1, Γ', π')
pub record Configuration : Type 0 where
  pub time : ℕ
  pub environment : Environment
  pub program : Program
  pub card : Card

abbrev pub state_in : Configuration → State
state_in x = joined x.environment x.program

-- "an abstract predicate event?(Σ, Γ, π) that triggers the update of values in Γ with those in Σ"; here: the event is accepted
abbrev pub event? : Image → List ℕ → Configuration → Type 0
event? p Σ x = event_answer p (state_in x) x.card Σ ≡ Accepted

-- "Γ' = Σi if event?(Σi, Γ, π), Γ otherwise"; what the event does not name stays, and it marks the commands of π that have returned
pub data Updated (p : Image) (Σ : List ℕ) (x : Configuration) (s : State) (c : Card) : Type 0 where
  told : event? p Σ x → s ≡ entered p Σ (entry_count Σ) (state_in x) → c ≡ card_after x.card → Updated p Σ x s c
  otherwise : (event? p Σ x → ⊥) → s ≡ state_in x → c ≡ x.card → Updated p Σ x s c

-- the card after a cycle of quiescence
abbrev pub rested : Card → Card
rested c = record { serial = c.serial; phase = Quiet }

-- "first updates Γ when an external event has occurred, and then starts a cycle of quiescence"
pub record Macro (p : Image) (Σ : ℕ → List ℕ) (x y : Configuration) : Type 0 where
  pub state : State
  pub card : Card
  pub updated : Updated p (Σ x.time) x state card
  pub quiescence : Quiescence p (environment_of state) (program_of state) y.program
  pub environment : y.environment ≡ environment_of state
  pub time : y.time ≡ suc x.time
  pub turn : y.card ≡ rested card

-- ---- "The execution relation ★→n is the n-iteration of the macro relation"
abbrev pub Execution : Image → (ℕ → List ℕ) → ℕ → Configuration → Configuration → Type 0
Execution p Σ zero x z = x ≡ z
Execution p Σ (suc n) x z = (y : Configuration) × Execution p Σ n x y × Macro p Σ y z
