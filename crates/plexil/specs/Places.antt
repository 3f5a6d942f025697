-- "State, card, command list": the codes, what stands at a place, initial values and the fresh state.
use Rattle.std.specs.Prelude.{ℕ, ◌+◌, Bool, List, [], ◌∷◌, get_or, replicate, eqb, ltb}
use Rattle.plexil.specs.declared.Worked.{Worked}
use Rattle.plexil.specs.declared.Cell.{Cell}
use Rattle.plexil.specs.declared.State.{State}
use Rattle.plexil.specs.declared.Card.{Card}
use Rattle.plexil.specs.declared.Status.{Status}
use Rattle.plexil.specs.declared.Status.TheVariants.{Inactive, Waiting, Executing, Finishing, Failing, IterationEnded, Finished}
use Rattle.plexil.specs.Lists.{when◌then◌else◌, renew}
use Rattle.plexil.specs.Values.{cell, decode}
use Rattle.plexil.specs.Image.{Image, var_count, var_kind, var_known, initial_bits}

-- "Status: 0 Inactive, 1 Waiting, 2 Executing, 3 Finishing, 4 Failing, 5 IterationEnded, 6 Finished"
unfoldable pub status_of : ℕ → Status
status_of n = get_or (Inactive ∷ Waiting ∷ Executing ∷ Finishing ∷ Failing ∷ IterationEnded ∷ Finished ∷ []) n Inactive

-- the code of a status
unfoldable pub status_code : Status → ℕ
status_code Inactive = 0
status_code Waiting = 1
status_code Executing = 2
status_code Finishing = 3
status_code Failing = 4
status_code IterationEnded = 5
status_code Finished = 6

-- a and b are one status
unfoldable pub same : Status → Status → Bool
same a b = eqb (status_code a) (status_code b)

-- "Outcome: 0 None, 1 Success, 2 Failure, 3 Skipped"
abbrev pub None : ℕ
None = 0

-- "1 Success"
abbrev pub Success : ℕ
Success = 1

-- "2 Failure"
abbrev pub Failure : ℕ
Failure = 2

-- "3 Skipped"
abbrev pub Skipped : ℕ
Skipped = 3

-- "Failure: 0 none, 1 Pre, 2 Post, 3 Invariant, 4 Parent, 5 WriteLost"
abbrev pub none : ℕ
none = 0

-- "1 Pre"
abbrev pub ByPre : ℕ
ByPre = 1

-- "2 Post"
abbrev pub ByPost : ℕ
ByPost = 2

-- "3 Invariant"
abbrev pub ByInvariant : ℕ
ByInvariant = 3

-- "4 Parent"
abbrev pub ByParent : ℕ
ByParent = 4

-- "5 WriteLost"
abbrev pub WriteLost : ℕ
WriteLost = 5

-- "The turn card holds the next serial (32 bits) and the phase, Running or Quiet"
abbrev pub Running : ℕ
Running = 0

-- the phase Quiet
abbrev pub Quiet : ℕ
Quiet = 1

-- a state by its arrays: "A state holds, for each of 256 node places, status, outcome, failure and a returned mark, with 128 variable and 64 lookup values"
abbrev pub state_of : List ℕ → List ℕ → List ℕ → List ℕ → List ℕ → List ℕ → List ℕ → List ℕ → State
state_of st oc fl mk vt vb lt lb =
    record { status = st; outcome = oc; failure = fl; mark = mk; vartags = vt; varbits = vb; looktags = lt; lookbits = lb }

-- what expressions read: "variable a; lookup a; status of node a is b; outcome of node a is b; failure of node a is b"
pub record Seen : Type 0 where
  pub status : List ℕ
  pub outcome : List ℕ
  pub failure : List ℕ
  pub vartags : List ℕ
  pub varbits : List ℕ
  pub looktags : List ℕ
  pub lookbits : List ℕ

-- what they read, by its arrays
abbrev pub seen_of : List ℕ → List ℕ → List ℕ → List ℕ → List ℕ → List ℕ → List ℕ → Seen
seen_of st oc fl vt vb lt lb = record { status = st; outcome = oc; failure = fl; vartags = vt; varbits = vb; looktags = lt; lookbits = lb }

-- what they read of a state
abbrev pub seen : State → Seen
seen s = seen_of s.status s.outcome s.failure s.vartags s.varbits s.looktags s.lookbits

-- the status of node i
unfoldable pub status_at : State → ℕ → Status
status_at s i = status_of (get_or s.status i 0)

-- the outcome of node i
unfoldable pub outcome_at : State → ℕ → ℕ
outcome_at s i = get_or s.outcome i 0

-- its failure
unfoldable pub failure_at : State → ℕ → ℕ
failure_at s i = get_or s.failure i 0

-- "a returned mark"
unfoldable pub mark_at : State → ℕ → ℕ
mark_at s i = get_or s.mark i 0

-- the cell of variable v
unfoldable pub var_cell : State → ℕ → Cell
var_cell s v = cell (get_or s.vartags v 0) (get_or s.varbits v 0)

-- the cell of lookup l
unfoldable pub look_cell : State → ℕ → Cell
look_cell s l = cell (get_or s.looktags l 0) (get_or s.lookbits l 0)

-- the value that a cell keeps
unfoldable pub value_in : Cell → Worked
value_in c = decode c.tag c.bits

-- a known value of kind k; a kind past 2 never passes the check
unfoldable pub known_cell : ℕ → ℕ → Cell
known_cell k w = when ltb k 3 then cell (k + 1) w else cell 0 0

-- "initial value 64 (as a constant; 0 if not known)"
unfoldable pub initial : Image → ℕ → Cell
initial p v = when eqb (var_known p v) 1 then known_cell (var_kind p v) (initial_bits p v) else cell 0 0

-- "Fresh: node 0 Waiting, others Inactive, outcomes None, variables initial, lookups Unknown, marks clear, serial 0, Running"
unfoldable pub fresh_state : Image → State
fresh_state p =
    state_of (1 ∷ replicate 255 0) (replicate 256 0) (replicate 256 0) (replicate 256 0)
    (renew (var_count p) (λ v. (initial p v).tag) (replicate 128 0)) (renew (var_count p) (λ v. (initial p v).bits) (replicate 128 0))
    (replicate 64 0) (replicate 64 0)

-- "serial 0, Running"
unfoldable pub fresh_card : Card
fresh_card = record { serial = 0; phase = Running }

-- opens every definition of this file
unfoldable pub opened : Unit {0}
unfolding status_of status_code same status_at outcome_at failure_at mark_at var_cell look_cell value_in known_cell initial fresh_state fresh_card
opened = tt
