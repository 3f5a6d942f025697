-- Refusal 30: "state or card breaks the form, kinds or parent table, a mark off such a command, Quiet while a rule applies".
use Rattle.std.specs.Prelude.{ℕ, zero, suc, Bool, true, not, List, [], ◌∷◌, get_or, drop, eqb, ltb}
use Rattle.plexil.specs.declared.Cell.{Cell}
use Rattle.plexil.specs.declared.State.{State}
use Rattle.plexil.specs.declared.Card.{Card}
use Rattle.plexil.specs.declared.Status.{Status}
use Rattle.plexil.specs.declared.Status.TheVariants.{Inactive, Waiting, Executing, Finishing, Failing, Finished}
use Rattle.plexil.specs.Lists.{when◌then◌else◌, every, some, all_below, all_in}
use Rattle.plexil.specs.Values.{good_bits}
use Rattle.plexil.specs.Image.{Image, node_count, var_count, look_count, var_kind, look_kind}
use Rattle.plexil.specs.Places.{same, status_at, outcome_at, failure_at, mark_at, var_cell, look_cell, Running, Quiet}
use Rattle.plexil.specs.Records.{is_list, is_command, is_assignment}
use Rattle.plexil.specs.Atomic.{is_closing, parent_status}
use Rattle.plexil.specs.Micro.{quiet}

-- "Inactive, Waiting or Finished"
unfoldable pub is_idle : Status → Bool
is_idle c = some (same c Inactive ∷ same c Waiting ∷ same c Finished ∷ [])

-- "Under Inactive, Waiting, IterationEnded or Finished a child is Inactive, Waiting or Finished. Under Finishing or Failing it is anything but Inactive.
-- Under Executing, anything."; u is the parent's status, c the child's
unfoldable pub allowed : Status → Status → Bool
allowed u c = when same u Executing then true else when is_closing u then not (same c Inactive) else is_idle c

-- "Finishing occurs in lists only, Failing never in assignments, node 0 is never Inactive"
unfoldable pub of_type : Image → ℕ → Status → Bool
of_type p i c =
    every (some (not (same c Finishing) ∷ is_list p i ∷ []) ∷ some (not (same c Failing) ∷ not (is_assignment p i) ∷ [])
    ∷ some (not (same c Inactive) ∷ ltb 0 i ∷ []) ∷ [])

-- Executing or Failing: a node that may await a return
unfoldable pub is_awaiting : Status → Bool
is_awaiting c = some (same c Executing ∷ same c Failing ∷ [])

-- a mark stands only at a command that is Executing or Failing
unfoldable pub good_mark : Image → State → ℕ → Bool
good_mark p s i = some (eqb (mark_at s i) 0 ∷ every (eqb (mark_at s i) 1 ∷ is_command p i ∷ is_awaiting (status_at s i) ∷ []) ∷ [])

-- "codes are in range", and the parent table, the type's statuses and the mark
unfoldable pub good_place : Image → State → ℕ → Bool
good_place p s i =
    every (ltb (get_or s.status i 0) 7 ∷ ltb (outcome_at s i) 4 ∷ ltb (failure_at s i) 6
    ∷ allowed (parent_status p s i) (status_at s i) ∷ of_type p i (status_at s i) ∷ good_mark p s i ∷ [])

-- Unknown with bits 0, or a known value of kind k; "known Reals finite"
unfoldable pub good_cell : ℕ → ℕ → ℕ → Bool
good_cell k zero w = eqb w 0
good_cell k (suc t) w = every (eqb t k ∷ good_bits k w ∷ [])

-- a cell that may stand at a place of kind k
unfoldable pub has_kind : ℕ → Cell → Bool
has_kind k c = good_cell k c.tag c.bits

-- "unused places hold 0 or Unknown"
unfoldable pub zero_from : ℕ → List ℕ → Bool
zero_from n l = all_in (λ x. eqb x 0) (drop n l)

-- in each of the eight arrays
unfoldable pub unused_empty : Image → State → Bool
unused_empty p s =
    every (zero_from (node_count p) s.status ∷ zero_from (node_count p) s.outcome ∷ zero_from (node_count p) s.failure ∷ zero_from (node_count p) s.mark
    ∷ zero_from (var_count p) s.vartags ∷ zero_from (var_count p) s.varbits ∷ zero_from (look_count p) s.looktags ∷ zero_from (look_count p) s.lookbits ∷ [])

-- the state by itself
unfoldable pub good_state : Image → State → Bool
good_state p s =
    every (all_below (node_count p) (good_place p s) ∷ all_below (var_count p) (λ v. has_kind (var_kind p v) (var_cell s v))
    ∷ all_below (look_count p) (λ l. has_kind (look_kind p l) (look_cell s l)) ∷ unused_empty p s ∷ [])

-- Running, or Quiet while no rule applies
unfoldable pub good_card : Image → State → Card → Bool
good_card p s c = some (eqb c.phase Running ∷ every (eqb c.phase Quiet ∷ quiet p s ∷ []) ∷ [])

-- "30 State", passed
unfoldable pub good_kept : Image → State → Card → Bool
good_kept p s c = every (good_state p s ∷ good_card p s c ∷ [])

-- opens every definition of this file
unfoldable pub opened : Unit {0}
unfolding is_idle allowed of_type is_awaiting good_mark good_place good_cell has_kind zero_from unused_empty good_state good_card good_kept
opened = tt
