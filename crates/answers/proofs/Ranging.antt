-- An entry outside the bounds of what changed has its value still.
use Prim.Native.Nat.{ℕ, zero, suc, ◌<◌, ◌≤◌}
use mathlib.Core.Path.{◌≡◌, refl, sym, ap, ap₂, ◌∙◌}
use mathlib.Core.Logic.{◌⊎◌, inl, inr, ⊎_elim}
use mathlib.Core.Bool.{Bool, true, false, false≢true}
use mathlib.Core.List.{List}
use native.Mathlib.Omega.{arith}
use lib.Dec.{ltb}
use lib.ListN.{get_or}
use borrow.Author.Tests.{ltb-true, ltb-false}
use Rattle.plexil.specs.Values.{not_of}
use Rattle.plexil.specs.Image.{Image, expr_count, operand_a, operand_b}
use Rattle.plexil.specs.Places.{Seen}
use Rattle.plexil.specs.Expressions.{Leaf, constant_op, variable_op, lookup_op, status_op, outcome_op, failure_op, Operator, leaf, not_op, Binary, binary, no_operator, operator_at, binary_of, answer_of, value_of}
use Rattle.plexil.specs.Promises.{IsAdmitted}
use Rattle.plexil.proofs.ListLaws.{tested}
use Rattle.plexil.proofs.EntryKinds.{Each, operands-lower}
use Rattle.answers.specs.Changes.{Covers, leaf_touched}
use Rattle.answers.specs.Ranges.{Bounds, LeafWithin, Above, Bounding, Encloses, EnclosedChange}
use Rattle.answers.proofs.Steady.{value-answers}
use Rattle.answers.proofs.Untouched.{answer-leaf-same}

module _ (p : Image) (r q : Seen) (altered : List ℕ) (a : IsAdmitted p) (v : Covers r q altered)
    (b : Bounds) (g : Bounding p b) (lo hi : ℕ) (n : Encloses b altered lo hi) where
  -- entry e and all that depends on it lie between lo and hi
  abbrev Between : ℕ → Type 0
  Between e = (lo ≤ e) × (get_or b.reach e 0 < hi)

  abbrev Either : ℕ → Type 0
  Either e = (value_of p r e ≡ value_of p q e) ⊎ Between e

  -- a leaf that reads something whose flag is up
  leaf-between : (o : Leaf) (e : ℕ) → LeafWithin o p b e → leaf_touched o p altered e ≡ true → Between e
  unfolding leaf_touched
  leaf-between constant_op e w h = absurd (false≢true h)
  leaf-between variable_op e w h = let k = n _ h in (omega (arith, k.0, w.least), omega (arith, k.1, w.most))
  leaf-between lookup_op e w h = let k = n _ h in (omega (arith, k.0, w.least), omega (arith, k.1, w.most))
  leaf-between status_op e w h = let k = n _ h in (omega (arith, k.0, w.least), omega (arith, k.1, w.most))
  leaf-between outcome_op e w h = let k = n _ h in (omega (arith, k.0, w.least), omega (arith, k.1, w.most))
  leaf-between failure_op e w h = let k = n _ h in (omega (arith, k.0, w.least), omega (arith, k.1, w.most))

  -- an operand x of entry e
  from-operand : (e x : ℕ) → x < e → Above b e x → Either x → (value_of p r x ≡ value_of p q x) ⊎ Between e
  from-operand e x l w = ⊎_elim inl (λ k. inr (omega (arith, k.0), omega (arith, k.1)))

  not_same : (e : ℕ) → value_of p r (operand_a p e) ≡ value_of p q (operand_a p e) → answer_of not_op p r e (value_of p r) ≡ answer_of not_op p q e (value_of p q)
  unfolding answer_of
  not_same e h = ap not_of h

  two-same : (o : Binary) (e : ℕ) → value_of p r (operand_a p e) ≡ value_of p q (operand_a p e) → value_of p r (operand_b p e) ≡ value_of p q (operand_b p e)
      → answer_of (binary o) p r e (value_of p r) ≡ answer_of (binary o) p q e (value_of p q)
  unfolding answer_of
  two-same o e h k = ap₂ (binary_of o) h k

  none-same : (e : ℕ) → answer_of no_operator p r e (value_of p r) ≡ answer_of no_operator p q e (value_of p q)
  unfolding answer_of
  none-same e = refl

  by-operator : (o : Operator) (e : ℕ) → e < expr_count p → operator_at p e ≡ o → Each o p e (λ x. x < e) → ((x : ℕ) → x < e → Either x)
      → (answer_of o p r e (value_of p r) ≡ answer_of o p q e (value_of p q)) ⊎ Between e
  by-operator (leaf l) e m is low h =
      ⊎_elim (λ t. inr (leaf-between l e (g.leaves e m l is) t)) (λ t. inl (answer-leaf-same p r q altered v l e _ _ t)) (tested (leaf_touched l p altered e))
  by-operator not_op e m is low h =
      ⊎_elim (λ t. inl (not_same e t)) inr (from-operand e _ low (g.nots e m is) (h _ low))
  by-operator (binary o) e m is low h =
      let w = g.pairs e m o is in
      ⊎_elim (λ t. ⊎_elim (λ k. inl (two-same o e t k)) inr (from-operand e _ low.1 w.1 (h _ low.1))) inr (from-operand e _ low.0 w.0 (h _ low.0))
  by-operator no_operator e m is low h = inl (none-same e)

  one : (e : ℕ) → e < expr_count p → ((x : ℕ) → x < e → Either x) → Either e
  one e m h =
      ⊎_elim (λ t. inl (value-answers p a r e m ∙ (t ∙ sym (value-answers p a q e m)))) inr (by-operator (operator_at p e) e m refl (operands-lower p a e m) h)

  below : (k : ℕ) → k ≤ expr_count p → (e : ℕ) → e < k → Either e
  below zero m e l = absurd (omega arith)
  below (suc k) m e l = by (ltb e k) refl (below k (omega arith))
    where
      by : (t : Bool) → ltb e k ≡ t → ((x : ℕ) → x < k → Either x) → Either e
      by true t h = h e (ltb-true e k t)
      by false t h = one e (omega arith) (λ x d. h x (omega (arith, ltb-false e k t)))

pub enclosed-change : EnclosedChange
enclosed-change p r q altered a v b g lo hi n = record {
  under = λ e l m. ⊎_elim (λ t. t) (λ t. absurd (omega (arith, t.0))) (below p r q altered a v b g lo hi n (expr_count p) (omega arith) e m);
  over = λ e l m. ⊎_elim (λ t. t) (λ t. absurd (omega (arith, t.1, g.itself e m))) (below p r q altered a v b g lo hi n (expr_count p) (omega arith) e m);
}
