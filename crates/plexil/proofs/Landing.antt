-- The place that a move makes tells whether its node entered Waiting. An assignment is no list and no command.
use Prim.Native.Nat.{ℕ}
use mathlib.Core.Path.{◌≡◌, refl, sym, ap, ◌∙◌, subst}
use mathlib.Core.Logic.{⊎_elim}
use mathlib.Core.Bool.{Bool, true, false, not}
use mathlib.Core.List.{[], ◌∷◌}
use lib.Dec.{eqb}
use borrow.Author.Tests.{eqb-true}
use Rattle.plexil.specs.declared.State.{State}
use Rattle.plexil.specs.declared.Place.{Place}
use Rattle.plexil.specs.declared.Status.{Status}
use Rattle.plexil.specs.declared.Status.TheVariants.{Waiting}
use Rattle.plexil.specs.declared.Move.{Move}
use Rattle.plexil.specs.declared.Move.TheVariants.{Stay, Go}
use Rattle.plexil.specs.declared.Effect.{Effect}
use Rattle.plexil.specs.Lists.{every}
use Rattle.plexil.specs.Image.{Image, node_type}
use Rattle.plexil.specs.Places.{status_of, status_code, same, status_at}
use Rattle.plexil.specs.Records.{is_list, is_command, is_assignment}
use Rattle.plexil.specs.Atomic.{parent_status, move_of}
use Rattle.plexil.specs.Micro.{place_by, place, enters_waiting}
use Rattle.plexil.proofs.ListLaws.{tested, every-stop, every-cons, every_one, every-false}
use Rattle.plexil.proofs.Statuses.{code-back, same_true}
use Rattle.plexil.proofs.Moves.{Made, wakes, repeats, made}

-- an assignment is no list and no command
pub not-list : (p : Image) (i : ℕ) → is_assignment p i ≡ true → is_list p i ≡ false
unfolding is_assignment is_list
not-list p i h = ap (λ (n : ℕ). eqb n 0) (eqb-true (node_type p i) 2 h)

pub not-command : (p : Image) (i : ℕ) → is_assignment p i ≡ true → is_command p i ≡ false
unfolding is_assignment is_command
not-command p i h = ap (λ (n : ℕ). eqb n 1) (eqb-true (node_type p i) 2 h)

-- Order.entered_waiting, of node i's place
abbrev pub entered_by : State → ℕ → Place → Bool
entered_by s i r = every (not (same (status_at s i) Waiting) ∷ same (status_of r.status) Waiting ∷ [])

module _ (p : Image) (s : State) (i : ℕ) where
  -- ---- entering Waiting: no node goes from Waiting to Waiting
  waking : (c u : Status) (e : Effect) → Made p s i c u (Go Waiting e) → same c Waiting ≡ false
  unfolding same status_code
  waking c u e wakes = refl
  waking c u e repeats = refl

  entered-by : (u : Status) (m : Move) → Made p s i (status_at s i) u m → entered_by s i (place_by p s i m) ≡ enters_waiting m
  unfolding place_by status_at enters_waiting
  entered-by u Stay d = ⊎_elim (λ w. every-stop _ _ (ap not w)) (λ w. every-false _ 1 w) (tested (same (status_at s i) Waiting))
  entered-by u (Go a e) d =
      ap (λ (b : Status). every (not (same (status_at s i) Waiting) ∷ same b Waiting ∷ [])) (code-back a)
      ∙ ⊎_elim
      (λ w. every-cons _ _ (ap not (waking _ u e (subst (λ (x : Status). Made p s i (status_at s i) u (Go x e)) (same_true a Waiting w) d))) ∙ every_one _)
      (λ w. every-false _ 1 w ∙ sym w)
      (tested (same a Waiting))

  pub entered-is : entered_by s i (place p s i) ≡ enters_waiting (move_of p s i)
  unfolding place move_of
  entered-is = entered-by (parent_status p s i) _ (made p s i (status_at s i) (parent_status p s i))
