-- An accepted event breaks none of 20 to 25: each entry is good, and a returned command is awaited.
use Prim.Native.Nat.{ℕ, ◌<◌}
use mathlib.Core.Path.{◌≡◌, refl}
use mathlib.Core.Logic.{◌≢◌}
use mathlib.Core.Bool.{Bool, true, false}
use mathlib.Core.List.{List}
use native.Mathlib.Omega.{arith}
use borrow.Author.Tests.{not-false}
use Rattle.plexil.specs.declared.State.{State}
use Rattle.plexil.specs.declared.Card.{Card}
use Rattle.plexil.specs.declared.RunAnswer.{RunAnswer}
use Rattle.plexil.specs.declared.RunAnswer.TheVariants.{Busy, Shape, Turn, Entry, Twice, NotAwaited}
use Rattle.plexil.specs.Tested.{Tested}
use Rattle.plexil.specs.Tested.{Accepted, Refused}
use Rattle.plexil.specs.Lists.{when◌then◌else◌, Found, at, nowhere}
use Rattle.plexil.specs.Image.{Image}
use Rattle.plexil.specs.Macro.{entry_count, form, good_form, good_entry, not_awaited, or_else, event_answer, form_of}
use Rattle.plexil.proofs.ListLaws.{every-at, first-nowhere}

pub not-accepted : (a : RunAnswer) → Refused a ≢ Accepted
not-accepted a h = let z : ◌≡◌ {A = ℕ} 0 1 = cc in omega arith

-- the tests of 20 to 22 were passed, and no entry was named by 23 to 25
past : (t : Bool) (a : RunAnswer) (other : Tested) → (when t then Refused a else other) ≡ Accepted → other ≡ Accepted
unfolding when◌then◌else◌
past true a other h = absurd (not-accepted a h)
past false a other h = h

past_first : (r : ℕ → RunAnswer) (f : Found) (other : Tested) → or_else r f other ≡ Accepted → (f ≡ nowhere) × (other ≡ Accepted)
unfolding or_else
past_first r (at k) other h = absurd (not-accepted (r k) h)
past_first r nowhere other h = (refl, h)

-- entry k is good and, where it returns a command, awaited
pub record Fit (p : Image) (s : State) (b : List ℕ) (k : ℕ) : Type 0 where
  pub good : good_form p b k (form_of (form b k)) ≡ true
  pub due : not_awaited s b k ≡ false

pub all_fit : (p : Image) (s : State) (c : Card) (b : List ℕ) → event_answer p s c b ≡ Accepted → (k : ℕ) → k < entry_count b → Fit p s b k
unfolding event_answer good_entry
all_fit p s c b h k m =
    let fit = past_first Entry _ _ (past _ Turn _ (past _ Shape _ (past _ Busy _ h))) in
    let once = past_first Twice _ _ fit.1 in
    let due = past_first NotAwaited _ _ once.1 in
    record { good = every-at _ 1 (not-false _ (first-nowhere _ _ fit.0 k m)); due = first-nowhere _ _ due.0 k m }
