-- The fresh state of an admitted plan passes the form of a kept state.
use Prim.Native.Nat.{ℕ, zero, suc, ◌<◌}
use mathlib.Core.Path.{◌≡◌, refl, ◌∙◌}
use mathlib.Core.Bool.{true}
use mathlib.Core.List.{◌∷◌}
use native.Mathlib.Omega.{arith}
use lib.ListN.{get_or, replicate}
use borrow.Author.Tests.{lt-ltb}
use Rattle.plexil.specs.declared.Status.TheVariants.{Inactive}
use Rattle.plexil.specs.Lists.{when◌then◌else◌, every, some}
use Rattle.plexil.specs.Values.{cell}
use Rattle.plexil.specs.Image.{Image, node_count, var_count, look_count, look_kind, parent}
use Rattle.plexil.specs.Places.{status_of, status_code, same, status_at, outcome_at, failure_at, mark_at, var_cell, look_cell, initial, fresh_state}
use Rattle.plexil.specs.Atomic.{is_closing, parent_status}
use Rattle.plexil.specs.Form.{is_idle, allowed, of_type, good_mark, good_place, zero_from, unused_empty, good_state}
use Rattle.plexil.specs.Promises.{IsAdmitted, FreshKept}
use Rattle.plexil.proofs.ListLaws.{every-cons, every-nil, all_below-all, renew-at}
use Rattle.plexil.proofs.Admitted.{a-node}
use Rattle.plexil.proofs.CellsKept.{unknown-kept, initial-kept}
use Rattle.plexil.proofs.UnusedPlaces.{zero_from-renew, zero_from-zeros}

-- past the end of the zeros the default is 0 too
zeros-at : (n i : ℕ) → ◌≡◌ {A = ℕ} (get_or (replicate n 0) i 0) 0
zeros-at zero i = refl
zeros-at (suc n) zero = refl
zeros-at (suc n) (suc i) = zeros-at n i

-- ---- the nodes
under-fresh : (p : Image) (j : ℕ) → allowed (status_at (fresh_state p) j) Inactive ≡ true
unfolding fresh_state status_at status_of allowed is_closing is_idle same status_code some when◌then◌else◌
under-fresh p zero = refl
under-fresh p (suc j) = rw (zeros-at 255 j)

fresh-place : (p : Image) (i : ℕ) → good_place p (fresh_state p) i ≡ true
unfolding good_place good_mark fresh_state status_at status_of outcome_at failure_at mark_at parent_status allowed is_closing of_type same status_code every some when◌then◌else◌
fresh-place p zero = refl
fresh-place p (suc i) = rw (zeros-at 255 i, under-fresh p (parent p (suc i)), lt-ltb 0 (suc i) (omega arith))

-- ---- the cells
fresh-var : (p : Image) (v : ℕ) → v < var_count p → var_cell (fresh_state p) v ≡ initial p v
unfolding fresh_state var_cell
fresh-var p v b =
    rw (renew-at (var_count p) (λ v. (initial p v).tag) (replicate 128 0) v 0 b, renew-at (var_count p) (λ v. (initial p v).bits) (replicate 128 0) v 0 b)

fresh-look : (p : Image) (l : ℕ) → look_cell (fresh_state p) l ≡ cell 0 0
unfolding fresh_state look_cell
fresh-look p l = rw (zeros-at 64 l)

-- ---- the unused places: node 0's alone is not 0, and a plan has a node
status-unused : (n : ℕ) → 0 < n → zero_from n (1 ∷ replicate 255 0) ≡ true
unfolding zero_from
status-unused zero b = absurd (omega arith)
status-unused (suc n) b = zero_from-zeros n 255

fresh-unused : (p : Image) → IsAdmitted p → unused_empty p (fresh_state p) ≡ true
unfolding unused_empty fresh_state every when◌then◌else◌
fresh-unused p a = simp (status-unused (node_count p) (a-node p a), zero_from-renew, zero_from-zeros)

pub fresh_kept : FreshKept
unfolding good_state
fresh_kept p a =
    every-cons _ _ (all_below-all (node_count p) (good_place p (fresh_state p)) (λ i b. fresh-place p i))
    ∙ every-cons _ _ (all_below-all (var_count p) _ (λ v b. rw (fresh-var p v b) (initial-kept p a v b)))
    ∙ every-cons _ _ (all_below-all (look_count p) _ (λ l b. rw (fresh-look p l) (unknown-kept (look_kind p l))))
    ∙ every-cons _ _ (fresh-unused p a) ∙ every-nil
