-- A step keeps the kinds of the variables, leaves the lookups as they are and the unused places empty.
use Prim.Native.Nat.{ℕ, zero, suc, ◌<◌, ◌≤◌}
use mathlib.Core.Path.{◌≡◌, refl, subst}
use mathlib.Core.Bool.{Bool, true, false, false≢true}
use native.Mathlib.Omega.{arith}
use lib.Dec.{eqb}
use lib.Ieee.{binary64}
use lib.Ieee.Bits.{of_bits-to_bits}
use borrow.Author.Tests.{eqb-true}
use Rattle.plexil.specs.declared.Worked.{Worked}
use Rattle.plexil.specs.declared.Cell.{Cell}
use Rattle.plexil.specs.declared.State.{State}
use Rattle.plexil.specs.Lists.{when◌then◌else◌, every, all_below}
use Rattle.plexil.specs.Values.{good_bits, cell, encode}
use Rattle.plexil.specs.Image.{Image, node_count, var_count, look_count, var_kind, look_kind, owner}
use Rattle.plexil.specs.Places.{var_cell, look_cell, known_cell, initial}
use Rattle.plexil.specs.Records.{good_constant, good_variable, is_writer}
use Rattle.plexil.specs.Atomic.{move_of}
use Rattle.plexil.specs.Micro.{writes, written, wins, enters_waiting, unwritten, written_below, var_after, step}
use Rattle.plexil.specs.Form.{good_cell, has_kind, unused_empty, good_state}
use Rattle.plexil.specs.Kinds.{Has, unknown, bool, int, real}
use Rattle.plexil.specs.Promises.{IsAdmitted, IsKept}
use Rattle.plexil.proofs.ListLaws.{if-either, every-at, all_below-at, all_below-all, renew-at}
use Rattle.plexil.proofs.Admitted.{good-variable}
use Rattle.plexil.proofs.UnusedPlaces.{zero_from-renew}
use Rattle.plexil.proofs.NoClash.{assigned-has}

-- ---- good cells
pub unknown-kept : (k : ℕ) → has_kind k (cell 0 0) ≡ true
unfolding has_kind good_cell
unknown-kept k = refl

-- a value of kind k is kept as a good cell of kind k
pub encode-kept : {k : ℕ} {x : Worked} → Has k x → has_kind k (encode x) ≡ true
unfolding encode has_kind good_cell good_bits every when◌then◌else◌
encode-kept unknown = refl
encode-kept (bool {b = true}) = refl
encode-kept (bool {b = false}) = refl
encode-kept (int r) = refl
encode-kept (real {x = x} f g) = rw (f, of_bits-to_bits binary64 x g, f)

pub known_cell-kept : (k w : ℕ) → good_bits k w ≡ true → has_kind k (known_cell k w) ≡ true
unfolding good_bits has_kind known_cell good_cell every when◌then◌else◌
known_cell-kept zero w g = rw g
known_cell-kept (suc zero) w g = refl
known_cell-kept (suc (suc zero)) w g = rw g
known_cell-kept (suc (suc (suc k))) w g = absurd (false≢true g)

constant-kept : (k b w : ℕ) → good_constant k b w ≡ true → has_kind k (when eqb b 1 then known_cell k w else cell 0 0) ≡ true
unfolding good_constant when◌then◌else◌
constant-kept k zero w g = unknown-kept k
constant-kept k (suc zero) w g = known_cell-kept k w g
constant-kept k (suc (suc b)) w g = absurd (false≢true g)

pub initial-kept : (p : Image) → IsAdmitted p → (v : ℕ) → v < var_count p → has_kind (var_kind p v) (initial p v) ≡ true
unfolding initial good_variable
initial-kept p a v b = constant-kept _ _ _ (every-at _ 0 (good-variable p a v b))

-- ---- the variables
writer-assigns : (p : Image) (s : State) (i : ℕ) → writes p s i ≡ true → is_writer p i ≡ true
unfolding writes
writer-assigns p s i w = every-at _ 0 w

module _ (p : Image) (s : State) (a : IsAdmitted p) (t : IsKept p s) (v : ℕ) (b : v < var_count p) where
  -- c may stand at variable v
  abbrev Good : Cell → Type 0
  Good c = has_kind (var_kind p v) c ≡ true

  variable-kept : Good (var_cell s v)
  unfolding good_state
  variable-kept = all_below-at _ _ (every-at _ 1 t) v b

  winner-kept : (i : ℕ) → i < node_count p → wins p s v i ≡ true → Good (written p s i)
  unfolding wins written
  winner-kept i n w =
      subst (λ (u : ℕ). has_kind (var_kind p u) (written p s i) ≡ true) (eqb-true _ _ (every-at _ 0 w))
      (encode-kept (assigned-has p s a t i n (writer-assigns p s i (every-at _ 1 w))))

  unwritten-kept : Good (unwritten p s v)
  unfolding unwritten
  unwritten-kept = if-either Good (enters_waiting (move_of p s (owner p v))) _ _ (λ e. initial-kept p a v b) (λ e. variable-kept)

  written-kept : (n : ℕ) → n ≤ node_count p → Good (written_below p s v n)
  unfolding written_below
  written-kept zero h = unwritten-kept
  written-kept (suc n) h = go (wins p s v n) refl (written-kept n (omega arith))
    where
      go : (w : Bool) → wins p s v n ≡ w → Good (written_below p s v n) → Good (written_below p s v (suc n))
      go true e ih = rw (e, written_below) (winner-kept n (omega arith) e)
      go false e ih = rw (e, written_below) ih

  after_kept : Good (var_after p s v)
  unfolding var_after
  after_kept = written-kept (node_count p) (omega arith)

pub var_cell-step : (p : Image) (s : State) (v : ℕ) → v < var_count p → var_cell (step p s) v ≡ var_after p s v
unfolding step var_cell
var_cell-step p s v b = λ i.
    cell (renew-at (var_count p) (λ u. (var_after p s u).tag) s.vartags v 0 b i) (renew-at (var_count p) (λ u. (var_after p s u).bits) s.varbits v 0 b i)

pub variables-kept : (p : Image) (s : State) → IsAdmitted p → IsKept p s → all_below (var_count p) (λ v. has_kind (var_kind p v) (var_cell (step p s) v)) ≡ true
variables-kept p s a t = all_below-all _ _ (λ v b. rw (var_cell-step p s v b) (after_kept p s a t v b))

-- ---- the lookups and the unused places
pub lookups-kept : (p : Image) (s : State) → IsKept p s → all_below (look_count p) (λ l. has_kind (look_kind p l) (look_cell (step p s) l)) ≡ true
unfolding good_state step look_cell
lookups-kept p s t = every-at _ 2 t

pub unused-kept : (p : Image) (s : State) → IsKept p s → unused_empty p (step p s) ≡ true
unfolding good_state unused_empty step
unused-kept p s t = simp zero_from-renew (every-at _ 3 t)
