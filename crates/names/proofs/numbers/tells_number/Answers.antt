-- `names::numbers::tells_number` meets its contract: by its tests.
use Prim.Native.Nat.{ℕ, ◌+◌, ◌-◌, ◌<◌, ◌≤◌}
use mathlib.Core.Path.{◌≡◌, refl, sym, ◌∙◌}
use mathlib.Core.Bool.{Bool, true, false}
use native.Mathlib.Omega.{arith}
use borrow.Author.Tests.{eqb-true, eqb-false, eq-eqb, ne_eqb}
use lib.Dec.{eqb}
use Rattle.names.proofs.numbers.tells_number.Goals as goal

one_more : (i n : ℕ) → i < n → eqb (n - i) 1 ≡ eqb n (i + 1)
one_more i n h = go (eqb (n - i) 1) refl
  where
    go : (b : Bool) → eqb (n - i) 1 ≡ b → eqb (n - i) 1 ≡ eqb n (i + 1)
    go true e = e ∙ sym (eq-eqb n (i + 1) (omega (arith, eqb-true (n - i) 1 e)))
    go false e = e ∙ sym (ne_eqb n (i + 1) (λ z. eqb-false (n - i) 1 e (omega arith)))

too_few : (i n : ℕ) → n ≤ i → eqb n (i + 1) ≡ false
too_few i n h = ne_eqb n (i + 1) (λ z. omega arith)

pub returns-then-role-ne14 : goal.returns-then-role-ne14
returns-then-role-ne14 c = simp (ne_eqb _ _ c.if-role-ne14.true)

pub returns-then-n-i : goal.returns-then-n-i
returns-then-n-i c = simp (eq-eqb _ _ c.if-role-ne14.false, too_few _ _ c.if-n-i.true)

pub returns : goal.returns
returns c = one_more _ _ c.if-n-i.false ∙ simp (eq-eqb _ _ c.if-role-ne14.false)
