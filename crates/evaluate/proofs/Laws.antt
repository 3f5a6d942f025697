-- Two operands' answer by the operator's number, the operands that the code reads of an entry, a leaf's answer, a number that is no leaf, and a condition with its default.
use Prim.Native.Nat.{ℕ, zero, suc, ◌+◌, ◌-◌, ◌*◌, ◌<◌}
use mathlib.Core.Path.{◌≡◌, refl, ap, ◌∙◌}
use mathlib.Core.Logic.{⊎_elim}
use native.Mathlib.Omega.{arith}
use lib.Dec.{ltb}
use borrow.Author.Tests.{ltb-true, ltb-false}
use Rattle.plexil.specs.declared.Worked.{Worked}
use Rattle.plexil.specs.declared.Worked.TheVariants.{Clash}
use Rattle.plexil.specs.declared.Condition.{Condition}
use Rattle.plexil.specs.Bytes.{le16}
use Rattle.plexil.specs.Image.{Image, exprs_at, expr_at, result_kind, operand_a, operand_b, constant}
use Rattle.plexil.specs.Places.{Seen}
use Rattle.plexil.specs.Expressions.{operator_of, leaf_of, answer_of}
use Rattle.plexil.specs.Atomic.{condition, default_of}
use Rattle.plexil.proofs.ListLaws.{tested, same?}
use Rattle.plexil.proofs.OperatorNumbers.{a-leaf, no-operator, NoneOf, past}
use Rattle.evaluate.specs.Binary.{join_of}
use Rattle.evaluate.specs.Condition.{condition_or}
use Rattle.evaluate.specs.Leaves.{leaf_answer}

-- ---- the answer of two operands by the operator's number
pub join_none : (n : ℕ) (x y : Worked) → NoneOf 7 8 n → Clash ≡ join_of (operator_of n) x y
unfolding join_of operator_of
join_none n x y h =
    ⊎_elim (λ t. rw (a-leaf n (ltb-true n 6 t)).1)
    (λ t. ⊎_elim (λ (e : n ≡ 6). rw e) (λ e. rw (no-operator n (omega (arith, past 7 8 n h (omega (arith, e, ltb-false n 6 t)))))) (same? n 6))
    (tested (ltb n 6))

-- ---- what the code reads of entry e, whose section stands at base, are its operands
module _ (p : Image) (e : ℕ) {base a : ℕ} (at : base ≡ exprs_at p) where
  pub is-a : a ≡ le16 p (base + 16 * e + 2) → a ≡ operand_a p e
  unfolding operand_a expr_at
  is-a h = h ∙ ap (λ (b : ℕ). le16 p (b + 16 * e + 2)) at

  pub is_b : a ≡ le16 p (base + 16 * e + 4) → a ≡ operand_b p e
  unfolding operand_b expr_at
  is_b h = h ∙ ap (λ (b : ℕ). le16 p (b + 16 * e + 4)) at

-- ---- a leaf's answer, by its operator's number
pub leaf-answers : (p : Image) (s : Seen) (e : ℕ) (sub : ℕ → Worked) {base op : ℕ} → base ≡ exprs_at p → op < 6
    → leaf_answer p (base + 16 * e) op s ≡ answer_of (operator_of op) p s e sub
unfolding answer_of leaf_answer operator_of leaf_of result_kind operand_a operand_b constant expr_at
leaf-answers p s e sub {base} {op} at l = by op refl l
  where
    by : (k : ℕ) → op ≡ k → k < 6 → leaf_answer p (base + 16 * e) op s ≡ answer_of (operator_of op) p s e sub
    by zero h g = rw (h, at) refl
    by (suc zero) h g = rw (h, at) refl
    by (suc (suc zero)) h g = rw (h, at) refl
    by (suc (suc (suc zero))) h g = rw (h, at) refl
    by (suc (suc (suc (suc zero)))) h g = rw (h, at) refl
    by (suc (suc (suc (suc (suc zero))))) h g = rw (h, at) refl
    by (suc (suc (suc (suc (suc (suc k)))))) h g = absurd (omega arith)

-- ---- a number past 5 is no leaf
pub no_leaf : (p : Image) (at op : ℕ) (s : Seen) → NoneOf 0 6 op → Clash ≡ leaf_answer p at op s
unfolding leaf_answer
no_leaf p at op s h = ap (λ (k : ℕ). leaf_answer p at k s) {x = suc (suc (suc (suc (suc (suc (op - 6))))))} {y = op} (omega (arith, past 0 6 op h (omega arith)))

-- ---- a node's condition: `normal` is its default
pub condition-or : (p : Image) (s : Seen) (i : ℕ) (c : Condition) → condition p s i c ≡ condition_or p s i c (default_of p s i c)
unfolding condition condition_or
condition-or p s i c = refl
