-- An accepted event keeps the form of the state: lookups get cells of their kind, and only awaited commands get marks.
use Prim.Native.Nat.{ℕ, zero, suc, ◌<◌}
use mathlib.Core.Path.{◌≡◌, refl, sym, ◌∙◌}
use mathlib.Core.Bool.{true, false, not, false≢true}
use mathlib.Core.List.{List, [], ◌∷◌}
use native.Mathlib.Omega.{arith}
use lib.ListN.{length, length-set}
use lib.Dec.{eqb}
use borrow.Author.Tests.{ltb-true, not-false}
use Rattle.plexil.specs.declared.Cell.{Cell}
use Rattle.plexil.specs.declared.State.{State}
use Rattle.plexil.specs.declared.Card.{Card}
use Rattle.plexil.specs.Tested.{Accepted}
use Rattle.plexil.specs.Lists.{when◌then◌else◌, every, some}
use Rattle.plexil.specs.Image.{Image, node_count, look_count, look_kind}
use Rattle.plexil.specs.Values.{cell}
use Rattle.plexil.specs.Places.{status_at, outcome_at, failure_at, mark_at, var_cell, look_cell}
use Rattle.plexil.specs.Records.{is_command}
use Rattle.plexil.specs.Atomic.{parent_status}
use Rattle.plexil.specs.Form.{is_awaiting, good_mark, good_place, has_kind, unused_empty, good_state}
use Rattle.plexil.specs.Macro.{entry_count, form, index, entry_bits, good_form, awaited, not_awaited, event_answer, with_lookup, with_mark, enter, entered, form_of}
use Rattle.plexil.specs.Promises.{IsKept, EventKept}
use Rattle.plexil.proofs.ListLaws.{every-at, every-cons, every-nil, all_below-all}
use Rattle.plexil.proofs.TestLaws.{and_second}
use Rattle.plexil.proofs.CellsKept.{unknown-kept, known_cell-kept}
use Rattle.plexil.proofs.KeptState.{place_of, mark_of, lookup-of, unused-of}
use Rattle.plexil.proofs.SetLaws.{set-either, set_both}
use Rattle.plexil.proofs.Accepted.{Fit, all_fit}
use Rattle.plexil.proofs.UnusedPlaces.{zero_from-set}

-- ---- one entry, entered into a state t
same-parent : (p : Image) (q t : State) (i : ℕ) → q.status ≡ t.status → parent_status p q i ≡ parent_status p t i
unfolding parent_status status_at
same-parent p q t zero e = refl
same-parent p q t (suc i) e = rw e

module _ (p : Image) (t : State) (k : IsKept p t) where
  -- a lookup's cell
  look-place : (l : ℕ) (c : Cell) (i : ℕ) → i < node_count p → good_place p (with_lookup t l c) i ≡ true
  unfolding good_place good_mark status_at outcome_at failure_at mark_at with_lookup
  look-place l c i b = rw (same-parent p (with_lookup t l c) t i refl) (place_of p t k i b)

  look-cells : (l : ℕ) (c : Cell) → length t.looktags ≡ length t.lookbits → has_kind (look_kind p l) c ≡ true
      → (m : ℕ) → m < look_count p → has_kind (look_kind p m) (look_cell (with_lookup t l c) m) ≡ true
  unfolding with_lookup look_cell
  look-cells l c e h m b =
      set_both (λ (x y : ℕ). has_kind (look_kind p m) (cell x y) ≡ true) t.looktags t.lookbits l m c.tag c.bits e
      (λ (q : m ≡ l). rw q h) (lookup-of p t k m b)

  look-unused : (l : ℕ) (c : Cell) → l < look_count p → unused_empty p (with_lookup t l c) ≡ true
  unfolding unused_empty with_lookup
  look-unused l c b = rw (zero_from-set (look_count p) t.looktags l c.tag b, zero_from-set (look_count p) t.lookbits l c.bits b) (unused-of p t k)

  look-kept : (l : ℕ) (c : Cell) → length t.looktags ≡ length t.lookbits → l < look_count p → has_kind (look_kind p l) c ≡ true → IsKept p (with_lookup t l c)
  unfolding good_state var_cell with_lookup
  look-kept l c e b h =
      every-cons _ _ (all_below-all (node_count p) _ (look-place l c)) ∙ every-cons _ _ (every-at _ 1 k) ∙ every-cons _ _ (all_below-all (look_count p) _ (look-cells l c e h))
      ∙ every-cons _ _ (look-unused l c b) ∙ every-nil

  -- a command's mark
  new-mark : (j : ℕ) → is_command p j ≡ true → is_awaiting (status_at t j) ≡ true → (i : ℕ) → i < node_count p → good_mark p (with_mark t j) i ≡ true
  unfolding good_mark with_mark status_at mark_at every some when◌then◌else◌
  new-mark j c w i b =
      set-either (λ (x : ℕ). some (eqb x 0 ∷ every (eqb x 1 ∷ is_command p i ∷ is_awaiting (status_at t i) ∷ []) ∷ []) ≡ true) t.mark j i 1
      (λ (q : i ≡ j). rw (q, c, w)) (mark_of p t k i b)

  mark-place : (j : ℕ) → is_command p j ≡ true → is_awaiting (status_at t j) ≡ true → (i : ℕ) → i < node_count p → good_place p (with_mark t j) i ≡ true
  unfolding good_place status_at outcome_at failure_at with_mark
  mark-place j c w i b =
      let g = place_of p t k i b in
      rw (same-parent p (with_mark t j) t i refl)
      (every-cons _ _ (every-at _ 0 g) ∙ every-cons _ _ (every-at _ 1 g) ∙ every-cons _ _ (every-at _ 2 g) ∙ every-cons _ _ (every-at _ 3 g)
      ∙ every-cons _ _ (every-at _ 4 g) ∙ every-cons _ _ (new-mark j c w i b) ∙ every-nil)

  mark-unused : (j : ℕ) → j < node_count p → unused_empty p (with_mark t j) ≡ true
  unfolding unused_empty with_mark
  mark-unused j b = rw (zero_from-set (node_count p) t.mark j 1 b) (unused-of p t k)

  mark-kept : (j : ℕ) → j < node_count p → is_command p j ≡ true → is_awaiting (status_at t j) ≡ true → IsKept p (with_mark t j)
  unfolding good_state var_cell look_cell with_mark
  mark-kept j b c w =
      every-cons _ _ (all_below-all (node_count p) _ (mark-place j c w))
      ∙ every-cons _ _ (every-at _ 1 k) ∙ every-cons _ _ (every-at _ 2 k) ∙ every-cons _ _ (mark-unused j b) ∙ every-nil

-- ---- the entries one after another
-- what holds of t, made from s by entries; a cell's two lists have one length, so that its tag and its bits are set together
pub record Along (p : Image) (s t : State) : Type 0 where
  pub kept : IsKept p t
  pub status : t.status ≡ s.status
  pub even : length t.looktags ≡ length t.lookbits

still-awaiting : (s t : State) (i : ℕ) → t.status ≡ s.status → awaited s i ≡ true → is_awaiting (status_at t i) ≡ true
unfolding awaited status_at
still-awaiting s t i e h = rw e (every-at _ 0 h)

enter-along : (p : Image) (s t : State) (b : List ℕ) (k f : ℕ) → good_form p b k (form_of f) ≡ true → every (eqb f 2 ∷ not (awaited s (index b k)) ∷ []) ≡ false → Along p s t → Along p s (enter p b k (form_of f) t)
unfolding good_form enter form_of with_lookup with_mark
enter-along p s t b k zero g d a = record {
  kept = look-kept p t a.kept (index b k) _ a.even (ltb-true _ _ (every-at _ 0 g)) (known_cell-kept (look_kind p (index b k)) (entry_bits b k) (every-at _ 1 g));
  status = a.status;
  even = simp length-set a.even;
}
enter-along p s t b k (suc zero) g d a = record {
  kept = look-kept p t a.kept (index b k) _ a.even (ltb-true _ _ (every-at _ 0 g)) (unknown-kept (look_kind p (index b k)));
  status = a.status;
  even = simp length-set a.even;
}
enter-along p s t b k (suc (suc zero)) g d a = record {
  kept = mark-kept p t a.kept (index b k) (ltb-true _ _ (every-at _ 0 g)) (every-at _ 1 g) (still-awaiting s t (index b k) a.status (not-false _ (and_second _ _ d refl)));
  status = a.status;
  even = a.even;
}
enter-along p s t b k (suc (suc (suc f))) g d a = absurd (false≢true g)

entered-along : (p : Image) (s : State) (b : List ℕ) (n : ℕ) → ((k : ℕ) → k < n → Fit p s b k) → Along p s s → Along p s (entered p b n s)
unfolding entered not_awaited
entered-along p s b zero fit a = a
entered-along p s b (suc n) fit a =
    enter-along p s (entered p b n s) b n (form b n) (fit n (omega arith)).good (fit n (omega arith)).due (entered-along p s b n (λ k m. fit k (omega arith)) a)

pub event-along : (p : Image) (s : State) (c : Card) (b : List ℕ) → IsKept p s → length s.looktags ≡ length s.lookbits → event_answer p s c b ≡ Accepted → Along p s (entered p b (entry_count b) s)
event-along p s c b k e h = entered-along p s b (entry_count b) (all_fit p s c b h) (record { kept = k; status = refl; even = e })

pub event-kept : EventKept
event-kept p s c b a k z h = (event-along p s c b k (z.looktags ∙ sym z.lookbits) h).kept
