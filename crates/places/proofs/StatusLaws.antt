-- Laws of statuses: every status but Inactive has its one code, and only the statuses of a state tell a parent's.
use Prim.Native.Nat.{ℕ, zero, suc, ◌<◌}
use native.Mathlib.Omega.{arith}
use mathlib.Core.Path.{◌≡◌, refl, sym, ap, ◌∙◌}
use mathlib.Core.List.{List}
use lib.Dec.{eqb}
use lib.ListN.{get_or}
use borrow.Author.Tests.{ne_eqb}
use Rattle.plexil.specs.declared.State.{State}
use Rattle.plexil.specs.declared.Status.{Status}
use Rattle.plexil.specs.declared.Status.TheVariants.{Inactive, Waiting, Executing, Finishing, Failing, IterationEnded, Finished}
use Rattle.plexil.specs.Image.{Image, parent}
use Rattle.plexil.specs.Places.{status_of, status_code, same, status_at}
use Rattle.plexil.specs.Atomic.{parent_status}
use Rattle.plexil.proofs.ListLaws.{stands}

pub status-in : (st : List ℕ) (i : ℕ) {x : ℕ} {a : Status} → x ≡ get_or st i 0 → a ≡ status_of x → (s : State) → s.status ≡ st → a ≡ status_at s i
unfolding status_at
status-in st i e h s q = h ∙ ap status_of (stands s.status i q e)

pub root-reads : (p : Image) (i : ℕ) → i ≡ 0 → (s : State) → Executing ≡ parent_status p s i
unfolding parent_status
root-reads p zero e s = refl
root-reads p (suc i) e s = absurd (let z : suc i ≡ 0 = e in zero-not (suc i) i refl z)
  where
    zero-not : (n k : ℕ) → n ≡ suc k → n ≡ 0 → ⊥
    zero-not n k a b = let z : ◌≡◌ {A = ℕ} 0 (suc k) = sym b ∙ a in omega arith

pub child-reads : (p : Image) (i : ℕ) → (i ≡ 0 → ⊥) → (s : State) → status_at s (parent p i) ≡ parent_status p s i
unfolding parent_status
child-reads p zero h s = absurd (h refl)
child-reads p (suc i) h s = refl

-- ---- a status told apart by its code
code_below : (a : Status) → status_code a < 7
unfolding status_code
code_below Inactive = omega arith
code_below Waiting = omega arith
code_below Executing = omega arith
code_below Finishing = omega arith
code_below Failing = omega arith
code_below IterationEnded = omega arith
code_below Finished = omega arith

-- a code past Finished's reads as Inactive, so every other status has its one code
pub same_code : (n : ℕ) (a : Status) → 0 < status_code a → same (status_of n) a ≡ eqb n (status_code a)
unfolding status_of status_code same
same_code zero a h = refl
same_code (suc zero) a h = refl
same_code (suc (suc zero)) a h = refl
same_code (suc (suc (suc zero))) a h = refl
same_code (suc (suc (suc (suc zero)))) a h = refl
same_code (suc (suc (suc (suc (suc zero))))) a h = refl
same_code (suc (suc (suc (suc (suc (suc zero)))))) a h = refl
same_code (suc (suc (suc (suc (suc (suc (suc n))))))) a h =
    ne_eqb 0 (status_code a) (λ e. omega arith) ∙ sym (ne_eqb (suc (suc (suc (suc (suc (suc (suc n))))))) (status_code a) (λ e. omega (arith, code_below a)))
