-- Laws that the rules' proofs share: a condition by what evaluation answers, a mark by its array, the first rule that applies, and a place by its numbers.
use Prim.Native.Nat.{ℕ}
use mathlib.Core.Path.{◌≡◌, refl, sym, ap, ◌∙◌}
use mathlib.Core.List.{List, [], ◌∷◌}
use lib.ListN.{get_or}
use Rattle.plexil.specs.declared.Condition.TheVariants.{Inv}
use denote.Enum.Bare.{sameb}
use Rattle.plexil.specs.contracts.Status as status
use Rattle.plexil.specs.declared.Status.{Status}
use Rattle.plexil.specs.declared.Status.TheVariants.{Inactive}
use Rattle.plexil.specs.declared.Place.{Place}
use Rattle.plexil.specs.declared.Move.TheVariants.{Go}
use Rattle.plexil.specs.declared.Effect.TheVariants.{Cleared}
use Rattle.plexil.specs.Lists.{when◌then◌else◌, every}
use Rattle.plexil.specs.Places.{Seen, same, status_at, mark_at}
use Rattle.plexil.proofs.ListLaws.{if-true, if-false, stands}
use Rattle.plexil.proofs.Statuses.{equal_same}
use Rattle.plexil.proofs.TestLaws.{eq_yes, eq_no}
use mathlib.Core.Bool.{Bool, true, false, not}
use lib.Dec.{eqb}
use Rattle.plexil.specs.declared.State.{State}
use Rattle.plexil.specs.declared.Condition.{Condition}
use Rattle.plexil.specs.Values.{says}
use Rattle.plexil.specs.Image.{Image}
use Rattle.plexil.specs.Atomic.{is_off, parent_status, default_of, holds, fails, by_status, move_by, move_of}
use Rattle.evaluate.specs.Condition.{condition_or}
use Rattle.evaluate.proofs.Laws.{condition-or}

pub holds-is : (p : Image) (s : Seen) (i : ℕ) (c : Condition) (d : Bool) {b : Bool} → d ≡ default_of p s i c → b ≡ says true (condition_or p s i c d) → holds p s i c ≡ b
unfolding holds
holds-is p s i c d e h = ap (says true) (condition-or p s i c ∙ ap (condition_or p s i c) (sym e)) ∙ sym h

pub fails-is : (p : Image) (s : Seen) (i : ℕ) (c : Condition) (d : Bool) {b : Bool} → d ≡ default_of p s i c → b ≡ says false (condition_or p s i c d) → fails p s i c ≡ b
unfolding fails
fails-is p s i c d e h = ap (says false) (condition-or p s i c ∙ ap (condition_or p s i c) (sym e)) ∙ sym h

pub inv-default : (p : Image) (s : Seen) (i : ℕ) → true ≡ default_of p s i Inv
unfolding default_of
inv-default p s i = refl

-- ---- `==` of two statuses in code
pub said : (a b : Status) {x : Bool} → x ≡ sameb status.the_type a b → same a b ≡ x
said a b e = sym (e ∙ equal_same a b)

pub equals : (a b : Status) {r x : Bool} → r ≡ sameb status.the_type a b → r ≡ x → same a b ≡ x
equals a b e h = said a b e ∙ h

-- ---- a mark as an array tells it
pub mark-is : (s : State) (i : ℕ) {mk : List ℕ} {m : ℕ} → s.mark ≡ mk → m ≡ get_or mk i 0 → m ≡ mark_at s i
unfolding mark_at
mark-is s i e h = stands s.mark i e h

pub unmarked : (s : State) (i : ℕ) {mk : List ℕ} {m : ℕ} → s.mark ≡ mk → m ≡ get_or mk i 0 → m ≡ 0 → eqb (mark_at s i) 0 ≡ true
unmarked s i e h z = eq_yes (mark-is s i e h) refl z

pub marked : (s : State) (i : ℕ) {mk : List ℕ} {m : ℕ} → s.mark ≡ mk → m ≡ get_or mk i 0 → (m ≡ 0 → ⊥) → eqb (mark_at s i) 0 ≡ false
marked s i e h z = eq_no (mark-is s i e h) refl z

-- ---- the first rule that applies
module _ (p : Image) (s : State) (i : ℕ) {own u : Status} {b : Bool} (a : own ≡ status_at s i) (e : u ≡ parent_status p s i)
    (h : b ≡ every (not (same own Inactive) ∷ is_off u ∷ [])) where
  under : move_of p s i ≡ (when every (not (same own Inactive) ∷ is_off u ∷ []) then Go Inactive Cleared else by_status own u p s i)
  unfolding move_of move_by
  under =
      ap (λ (x : Status). when every (not (same x Inactive) ∷ is_off (parent_status p s i) ∷ []) then Go Inactive Cleared else by_status x (parent_status p s i) p s i) (sym a)
      ∙ ap (λ (x : Status). when every (not (same own Inactive) ∷ is_off x ∷ []) then Go Inactive Cleared else by_status own x p s i) (sym e)

  pub cut_off : b ≡ true → Go Inactive Cleared ≡ move_of p s i
  cut_off t = sym (under ∙ if-true _ _ _ (sym h ∙ t))

  pub by-rule : b ≡ false → by_status own u p s i ≡ move_of p s i
  by-rule t = sym (under ∙ if-false _ _ _ (sym h ∙ t))

-- ---- a place by its four numbers
pub same_place : {a b : ℕ} → a ≡ b → {o q : ℕ} → o ≡ q → {f g : ℕ} → f ≡ g → {m n : ℕ} → m ≡ n
    → ◌≡◌ {A = Place} (record { status = a; outcome = o; failure = f; mark = m }) (record { status = b; outcome = q; failure = g; mark = n })
same_place a o f m = λ t. record { status = a t; outcome = o t; failure = f t; mark = m t }
