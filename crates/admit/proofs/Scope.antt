-- The walks of rule 12, one step at a time.
use Prim.Native.Nat.{ℕ, zero, suc, ◌-◌, ◌≤◌, ◌<◌}
use mathlib.Core.Path.{◌≡◌, refl, sym, ap, ◌∙◌}
use mathlib.Core.Bool.{Bool, true, false, not}
use mathlib.Core.List.{[], ◌∷◌}
use native.Mathlib.Omega.{arith}
use lib.Dec.{eqb}
use borrow.Author.Tests.{eq-eqb, ne_eqb}
use Rattle.plexil.specs.Lists.{when◌then◌else◌, every, some}
use Rattle.plexil.specs.Image.{Image, parent, operator, operand_a, operand_b}
use Rattle.plexil.specs.Expressions.{Operator, operator_of, operator_at}
use Rattle.plexil.specs.Scope.{is_above, in_scope, entry_in_scope, operands_pass, tree_in_scope}
use Rattle.plexil.proofs.ListLaws.{if-same}
use Rattle.plexil.proofs.OperatorNumbers.{a-leaf, a-binary}

-- ---- up to node 0
pub above-here : (p : Image) (n o i : ℕ) → 0 < n → o ≡ i → is_above p n o i ≡ true
unfolding is_above
above-here p zero o i h e = absurd (omega arith)
above-here p (suc n) o zero h e = eq-eqb o 0 e
above-here p (suc n) o (suc i) h e = rw (eq-eqb o (suc i) e, is_above)

pub above-top : (p : Image) (n o i : ℕ) → (o ≡ i → ⊥) → i ≡ 0 → is_above p n o i ≡ false
unfolding is_above
above-top p zero o i h e = refl
above-top p (suc n) o zero h e = ne_eqb o 0 h
above-top p (suc n) o (suc i) h e = absurd (omega arith)

pub above-up : (p : Image) (n o i : ℕ) → 0 < n → (o ≡ i → ⊥) → (i ≡ 0 → ⊥) → is_above p n o i ≡ is_above p (n - 1) o (parent p i)
unfolding is_above
above-up p zero o i h e f = absurd (omega arith)
above-up p (suc n) o zero h e f = absurd (f refl)
above-up p (suc n) o (suc i) h e f =
    rw (ne_eqb o (suc i) e, is_above) (ap (λ (k : ℕ). is_above p k o (parent p (suc i))) {x = n} {y = suc n - 1} (omega arith))

pub above-none : (p : Image) (n o i : ℕ) → n ≡ 0 → is_above p n o i ≡ false
unfolding is_above
above-none p n o i e = rw e

-- ---- down a tree
-- op is the operator of entry e
module _ (p : Image) (i d e : ℕ) (deep : d ≡ 0 → ⊥) {op : ℕ} (is : op ≡ operator p e) where
  operands : Operator → Bool
  operands o = operands_pass o p e (λ x. tree_in_scope p i (d - 1) x)

  -- the entry itself, and its operands
  both : ℕ → Bool
  both n = every (some (not (eqb n 1) ∷ in_scope p i (operand_a p e) ∷ []) ∷ operands (operator_of n) ∷ [])

  step : tree_in_scope p i d e ≡ both op
  unfolding tree_in_scope entry_in_scope operator_at both operands
  step = ap (λ (k : ℕ). tree_in_scope p i k e) {x = d} {y = suc (d - 1)} (omega (arith, deep)) ∙ ap both (sym is)

  pub tree-variable : op ≡ 1 → tree_in_scope p i d e ≡ in_scope p i (operand_a p e)
  unfolding both operands operator_of operands_pass every some when◌then◌else◌
  tree-variable h = step ∙ rw h (if-same _ ∙ if-same _)

  -- an entry that reads no variable
  step-on : (op ≡ 1 → ⊥) → {o : Operator} → operator_of op ≡ o → tree_in_scope p i d e ≡ operands o
  unfolding both every some when◌then◌else◌
  step-on h q = step ∙ rw (ne_eqb op 1 h, q) (if-same _)

  pub tree-leaf : op < 6 → (op ≡ 1 → ⊥) → tree_in_scope p i d e ≡ true
  unfolding operands operands_pass
  tree-leaf h g = step-on g (a-leaf op h).1

  pub tree-not : op ≡ 6 → tree_in_scope p i d e ≡ tree_in_scope p i (d - 1) (operand_a p e)
  unfolding operands operator_of operands_pass
  tree-not h = step-on (λ q. omega arith) (ap operator_of h)

  pub tree-binary : 6 ≤ op → (op ≡ 6 → ⊥) → op ≤ 14
      → tree_in_scope p i d e ≡ every (tree_in_scope p i (d - 1) (operand_a p e) ∷ tree_in_scope p i (d - 1) (operand_b p e) ∷ [])
  unfolding operands operands_pass
  tree-binary h n g = step-on (λ q. omega arith) (a-binary op (omega (arith, n)) g).1
