-- What the rules 3 and 9 tell: how many entries there are, and that operands are lower.
use Prim.Native.Nat.{ℕ, ◌≤◌, ◌<◌}
use mathlib.Core.Path.{◌≡◌, refl}
use mathlib.Core.Bool.{Bool, true, false}
use mathlib.Core.Logic.{◌⊎◌, inl, inr}
use native.Mathlib.Omega.{arith}
use lib.Dec.{leb}
use borrow.Author.Tests.{leb-true, leb-false, ltb-true, not-false}
use Rattle.plexil.specs.declared.Rule.TheVariants as rule
use Rattle.plexil.specs.Image.{Image, expr_count, operator, operand_a, operand_b}
use Rattle.plexil.specs.Expressions.{Binary, and_op, or_op, eq_op, lt_op, le_op, add_op, sub_op, mul_op, operator_of, operator_at}
use Rattle.plexil.specs.Records.{good_count, operand, takes, kind_of_a, good_binary, good_operator, good_expression}
use Rattle.plexil.specs.Check.{records, breaks, rule_on}
use Rattle.plexil.proofs.ListLaws.{not-both, every-at, first-nowhere, same?}
use Rattle.admit.specs.Depth.{Passed}
use Rattle.plexil.proofs.OperatorNumbers.{a-binary, no-operator}

taken : (p : Image) (e : ℕ) (o : Binary) → good_binary o p e ≡ true → (k : ℕ) × ((r : ℕ) × (takes p e k r ≡ true))
unfolding good_binary
taken p e and_op h = (0, (0, h))
taken p e or_op h = (0, (0, h))
taken p e eq_op h = (kind_of_a p e, (0, h))
taken p e lt_op h = (kind_of_a p e, (0, every-at _ 1 h))
taken p e le_op h = (kind_of_a p e, (0, every-at _ 1 h))
taken p e add_op h = (kind_of_a p e, (kind_of_a p e, every-at _ 1 h))
taken p e sub_op h = (kind_of_a p e, (kind_of_a p e, every-at _ 1 h))
taken p e mul_op h = (kind_of_a p e, (kind_of_a p e, every-at _ 1 h))

lower : (p : Image) (e a k : ℕ) → operand p e a k ≡ true → a < e
unfolding operand
lower p e a k h = ltb-true a e (every-at _ 0 h)

module _ (p : Image) (passed : Passed p) where
  pub few : expr_count p ≤ 2048
  unfolding records breaks rule_on good_count
  few = leb-true _ _ (every-at _ 2 (not-false (good_count p) (first-nowhere 1 (breaks rule.Count p) passed.count 0 (omega arith))))

  module _ (e : ℕ) (below : e < expr_count p) {op : ℕ} (is : op ≡ operator p e) where
    good : good_operator (operator_of op) p e ≡ true
    unfolding records breaks rule_on good_expression operator_at
    good =
        rw is
        (every-at _ 1 (not-false (good_expression p e) (first-nowhere (expr_count p) (breaks rule.Expression p) passed.expression e below)))

    pub known-operator : op ≤ 14
    unfolding good_operator
    known-operator = go (leb op 14) refl
      where
        go : (t : Bool) → leb op 14 ≡ t → op ≤ 14
        go true t = leb-true op 14 t
        go false t = absurd (not-both _ (rw (no-operator op (leb-false op 14 t)) at good) refl)

    both-lower : 6 < op → (operand_a p e < e) × (operand_b p e < e)
    unfolding good_operator takes
    both-lower h =
        let o = a-binary op h known-operator in
        let t = taken p e o.0 (rw o.1 at good) in
        (lower p e _ _ (every-at _ 0 t.1.1), lower p e _ _ (every-at _ 1 t.1.1))

    pub first-lower : 6 ≤ op → operand_a p e < e
    unfolding good_operator operator_of
    first-lower h = go (same? op 6)
      where
        go : (op ≡ 6) ⊎ (op ≡ 6 → ⊥) → operand_a p e < e
        go (inl q) = lower p e _ _ (every-at _ 0 (rw q at good))
        go (inr q) = (both-lower (omega (arith, q))).0

    pub second-lower : 6 ≤ op → (op ≡ 6 → ⊥) → operand_b p e < e
    second-lower h q = (both-lower (omega (arith, q))).1
