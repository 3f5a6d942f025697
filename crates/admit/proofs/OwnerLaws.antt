-- What two operands ask together, and what an entry asks by its operator.
use Prim.Native.Nat.{ℕ, zero, suc, ◌+◌, ◌-◌, ◌≤◌, ◌<◌}
use mathlib.Core.Path.{◌≡◌, refl, sym, ap, ◌∙◌}
use mathlib.Core.Bool.{Bool, true, false, false≢true}
use mathlib.Core.List.{List, [], ◌∷◌}
use mathlib.Core.Logic.{◌⊎◌, inl, inr, ⊎_elim}
use native.Mathlib.Omega.{arith}
use lib.ListN.{length, get_or, set, length-set}
use lib.Seq.{get_or-set_same, get_or-set_other}
use borrow.Author.Tests.{ne_eqb, ltb-true, leb-true, not-false}
use Rattle.plexil.specs.declared.Condition.{Condition}
use Rattle.plexil.specs.declared.Rule.TheVariants as rule
use Rattle.plexil.specs.Lists.{when◌then◌else◌, every}
use Rattle.plexil.specs.Image.{Image, node_count, expr_count, var_count, parent, node_type, condition_field, value_field, owner, operator, operand_a, operand_b}
use Rattle.plexil.specs.Expressions.{Operator, leaf, not_op, binary, no_operator, operator_of, operator_at}
use Rattle.plexil.specs.Records.{is_assignment, good_count, good_parent, good_node, good_variable, reads, good_leaf, good_operator, good_expression}
use Rattle.plexil.specs.Scope.{is_above, in_scope, entry_in_scope, operands_pass, depth_within, shallow, tree_in_scope}
use Rattle.plexil.specs.Check.{records, breaks, rule_on}
use Rattle.plexil.proofs.ListLaws.{every-at, first-nowhere, same?}
use Rattle.plexil.proofs.GoodNode.{given_below, value-below}
use Rattle.plexil.proofs.OperatorNumbers.{a-binary}
use Rattle.admit.specs.Depth.{Passed}
use Rattle.admit.specs.Owners.{allows, Asks, Asked, Ordered, Owned, nobody}
use Rattle.admit.proofs.Above.{above-through, above-each}
use Rattle.admit.proofs.Ordered.{few, known-operator, first-lower, second-lower}
use Rattle.admit.proofs.Scope.{tree-variable, tree-leaf, tree-not, tree-binary}

-- ---- what is asked, by its number
pub allows-node : (p : Image) (o i : ℕ) → (o ≡ 0 → ⊥) → (o ≡ nobody → ⊥) → allows p o i ≡ is_above p (suc i) (o - 1) i
unfolding allows when◌then◌else◌
allows-node p o i h g = rw (ne_eqb o 0 h, ne_eqb o nobody g) refl

pub allows-nothing : (p : Image) (o i : ℕ) → o ≡ 0 → allows p o i ≡ true
unfolding allows when◌then◌else◌
allows-nothing p o i h = rw h refl

pub allows-nobody : (p : Image) (o i : ℕ) → o ≡ nobody → allows p o i ≡ false
unfolding allows when◌then◌else◌
allows-nobody p o i h = rw h refl

-- ---- both of two tests
pub both_first : (x y : Bool) → x ≡ true → y ≡ every (x ∷ y ∷ [])
unfolding every when◌then◌else◌
both_first x true e = rw e refl
both_first x false e = rw e refl

pub both-second : (x y : Bool) → y ≡ true → x ≡ every (x ∷ y ∷ [])
unfolding every when◌then◌else◌
both-second true y e = rw e refl
both-second false y e = refl

pub both_false : (x y : Bool) → x ≡ false → false ≡ every (x ∷ y ∷ [])
unfolding every when◌then◌else◌
both_false x y e = rw e refl

pub both-false' : (x y : Bool) → y ≡ false → false ≡ every (x ∷ y ∷ [])
unfolding every when◌then◌else◌
both-false' true y e = rw e refl
both-false' false y e = refl

-- ---- what the earlier rules tell
module _ (p : Image) (o : Ordered p) where
  passed : Passed p
  passed = record { count = o.count; expression = o.expression }

  pub few-nodes : node_count p ≤ 256
  unfolding records breaks rule_on good_count
  few-nodes = leb-true _ _ (every-at _ 1 (not-false (good_count p) (first-nowhere 1 (breaks rule.Count p) o.count 0 (omega arith))))

  pub few-entries : expr_count p ≤ 2048
  few-entries = few p passed

  lower : (i : ℕ) → suc i < node_count p → parent p (suc i) < suc i
  unfolding records breaks rule_on good_parent
  lower i b = ltb-true _ _ (every-at _ 0 (not-false (good_parent p (suc i)) (first-nowhere (node_count p) (breaks rule.Tree p) o.tree (suc i) b)))

  owner-below : (v : ℕ) → v < var_count p → owner p v < node_count p
  unfolding records breaks rule_on good_variable
  owner-below v b = ltb-true _ _ (every-at _ 1 (not-false (good_variable p v) (first-nowhere (var_count p) (breaks rule.Variable p) o.variable v b)))

  good-here : (i : ℕ) → i < node_count p → good_node p i ≡ true
  unfolding records breaks rule_on
  good-here i b = not-false (good_node p i) (first-nowhere (node_count p) (breaks rule.Node p) o.node i b)

  -- a node's condition, read as e, and an assignment's value
  pub given-within : (i e : ℕ) (c : Condition) → i < node_count p → e ≡ condition_field p i c → (e ≡ 65535 → ⊥) → e < expr_count p
  given-within i e c b q d = rw q (given_below p i (good-here i b) c (ne_eqb _ _ (λ z. d (q ∙ z))))

  pub value-within : (i e : ℕ) → i < node_count p → node_type p i ≡ 2 → e ≡ value_field p i → e < expr_count p
  unfolding is_assignment
  value-within i e b n q = rw q (value-below p i (good-here i b) (rw n refl))

  -- ---- two operands
  module _ (a b : ℕ) (a0 : a ≡ 0 → ⊥) (b0 : b ≡ 0 → ⊥) (an : a ≡ nobody → ⊥) (bn : b ≡ nobody → ⊥) where
    pub lower-first : allows p a (b - 1) ≡ true → (i : ℕ) → i < node_count p → allows p b i ≡ every (allows p a i ∷ allows p b i ∷ [])
    lower-first h i l = by (allows p b i) refl
      where
        by : (t : Bool) → allows p b i ≡ t → allows p b i ≡ every (allows p a i ∷ allows p b i ∷ [])
        by true e =
            both_first (allows p a i) (allows p b i)
            (allows-node p a i a0 an ∙ above-through p lower (a - 1) (b - 1) (suc i) i (omega arith) l (sym (allows-node p a (b - 1) a0 an) ∙ h) (sym (allows-node p b i b0 bn) ∙ e))
        by false e = e ∙ both-false' (allows p a i) (allows p b i) e

    pub lower-second : allows p b (a - 1) ≡ true → (i : ℕ) → i < node_count p → allows p a i ≡ every (allows p a i ∷ allows p b i ∷ [])
    lower-second h i l = by (allows p a i) refl
      where
        by : (t : Bool) → allows p a i ≡ t → allows p a i ≡ every (allows p a i ∷ allows p b i ∷ [])
        by true e =
            both-second (allows p a i) (allows p b i)
            (allows-node p b i b0 bn ∙ above-through p lower (b - 1) (a - 1) (suc i) i (omega arith) l (sym (allows-node p b (a - 1) b0 bn) ∙ h) (sym (allows-node p a i a0 an) ∙ e))
        by false e = e ∙ both_false (allows p a i) (allows p b i) e

    pub on-two-branches : allows p a (b - 1) ≡ false → allows p b (a - 1) ≡ false → (i : ℕ) → i < node_count p → allows p nobody i ≡ every (allows p a i ∷ allows p b i ∷ [])
    on-two-branches h g i l = allows-nobody p nobody i refl ∙ by (allows p a i) refl (allows p b i) refl
      where
        by : (t : Bool) → allows p a i ≡ t → (u : Bool) → allows p b i ≡ u → false ≡ every (allows p a i ∷ allows p b i ∷ [])
        by false et u eu = both_false (allows p a i) (allows p b i) et
        by true et false eu = both-false' (allows p a i) (allows p b i) eu
        by true et true eu =
            ⊎_elim (λ x. absurd (false≢true (sym h ∙ allows-node p a (b - 1) a0 an ∙ x))) (λ x. absurd (false≢true (sym g ∙ allows-node p b (a - 1) b0 bn ∙ x)))
            (above-each p lower (a - 1) (b - 1) (suc i) i (omega arith) l (sym (allows-node p a i a0 an) ∙ et) (sym (allows-node p b i b0 bn) ∙ eu))

-- ---- levels enough are as good as more
tree-by : (p : Image) (i d e : ℕ) (q : Operator) → operator_at p e ≡ q → ((x : ℕ) → depth_within p d x ≡ true → tree_in_scope p i (suc d) x ≡ tree_in_scope p i d x)
    → operands_pass q p e (λ x. depth_within p d x) ≡ true → operands_pass q p e (λ x. tree_in_scope p i (suc d) x) ≡ operands_pass q p e (λ x. tree_in_scope p i d x)
unfolding operands_pass
tree-by p i d e (leaf l) q f h = refl
tree-by p i d e not_op q f h = f (operand_a p e) h
tree-by p i d e (binary b) q f h = rw (f (operand_a p e) (every-at _ 0 h), f (operand_b p e) (every-at _ 1 h)) refl
tree-by p i d e no_operator q f h = refl

tree-enough : (p : Image) (i d e : ℕ) → depth_within p d e ≡ true → tree_in_scope p i (suc d) e ≡ tree_in_scope p i d e
unfolding depth_within tree_in_scope
tree-enough p i zero e h = absurd (false≢true h)
tree-enough p i (suc d) e h =
    ap (λ (t : Bool). every (entry_in_scope p i e ∷ t ∷ [])) (tree-by p i d e (operator_at p e) refl (λ x. tree-enough p i d x) h)

-- ---- an entry, by its operator op
module _ (p : Image) (o : Ordered p) (e : ℕ) (below : e < expr_count p) {op : ℕ} (is : op ≡ operator p e) where
  shallow-here : depth_within p 12 e ≡ true
  unfolding records breaks rule_on shallow
  shallow-here = not-false (shallow p e) (first-nowhere (expr_count p) (breaks rule.Deep p) o.deep e below)

  within : (q : Operator) → operator_of op ≡ q → operands_pass q p e (λ x. depth_within p 11 x) ≡ true
  unfolding depth_within operator_at
  within q h = rw (← h, is) shallow-here

  pub operand-lower : 6 ≤ op → operand_a p e < e
  operand-lower h = first-lower p (passed p o) e below is h

  pub second-operand-lower : 6 ≤ op → (op ≡ 6 → ⊥) → operand_b p e < e
  second-operand-lower h g = second-lower p (passed p o) e below is h g

  pub variable-owner : op ≡ 1 → owner p (operand_a p e) < node_count p
  unfolding records breaks rule_on good_expression operator_at good_operator good_leaf reads operator_of
  variable-owner h =
      owner-below p o (operand_a p e)
      (ltb-true _ _ (every-at _ 0 (rw (sym is ∙ h) at (every-at _ 1 (not-false (good_expression p e) (first-nowhere (expr_count p) (breaks rule.Expression p) o.expression e below))))))

  pub asks-variable : op ≡ 1 → (r : ℕ) → r ≡ owner p (operand_a p e) + 1 → Asked p r × Asks p e r
  unfolding in_scope
  asks-variable h r er = (
    record { small = omega (arith, variable-owner h, few-nodes p o); node = λ x y. omega (arith, variable-owner h) },
    (λ i l. tree-variable p i 12 e (λ z. omega arith) is h ∙ ap (λ (k : ℕ). is_above p (suc i) k i) {x = owner p (operand_a p e)} {y = r - 1} (omega (arith, er))
        ∙ sym (allows-node p r i (λ z. omega (arith, er)) (λ z. omega (arith, er, variable-owner h, few-nodes p o)))),
  )

  pub asks_nothing : op < 6 → (op ≡ 1 → ⊥) → Asked p 0 × Asks p e 0
  asks_nothing h g = (
    record { small = omega arith; node = λ x y. absurd (x refl) },
    (λ i l. tree-leaf p i 12 e (λ z. omega arith) is h g ∙ sym (allows-nothing p 0 i refl)),
  )

  enough-a : 6 ≤ op → (i : ℕ) → tree_in_scope p i 11 (operand_a p e) ≡ tree_in_scope p i 12 (operand_a p e)
  unfolding operands_pass operator_of
  enough-a h i = ⊎_elim (λ (q : op ≡ 6). sym (tree-enough p i 11 (operand_a p e) (within not_op (ap operator_of q))))
      (λ q. let b = a-binary op (omega (arith, q)) (known-operator p (passed p o) e below is) in sym (tree-enough p i 11 (operand_a p e) (every-at _ 0 (within (binary b.0) b.1)))) (same? op 6)

  pub asks-not : op ≡ 6 → (x : ℕ) → Asks p (operand_a p e) x → Asks p e x
  asks-not h x f i l = tree-not p i 12 e (λ z. omega arith) is h ∙ enough-a (omega arith) i ∙ f i l

  pub asks_both : 6 ≤ op → (op ≡ 6 → ⊥) → (x y r : ℕ) → Asks p (operand_a p e) x → Asks p (operand_b p e) y
      → ((i : ℕ) → i < node_count p → allows p r i ≡ every (allows p x i ∷ allows p y i ∷ [])) → Asks p e r
  unfolding operands_pass
  asks_both h g x y r f k m i l =
      let b = a-binary op (omega (arith, g)) (known-operator p (passed p o) e below is) in
      let w = within (binary b.0) b.1 in
      tree-binary p i 12 e (λ z. omega arith) is h g (known-operator p (passed p o) e below is)
      ∙ rw (sym (tree-enough p i 11 (operand_a p e) (every-at _ 0 w)) ∙ f i l, sym (tree-enough p i 11 (operand_b p e) (every-at _ 1 w)) ∙ k i l) (sym (m i l))

-- ---- the table
module _ (p : Image) (e o : ℕ) (t : List ℕ) where
  pub owned-start : length t ≡ 2048 → Owned p 0 t
  owned-start h = record { long = h; asks = λ j l. absurd (omega arith); asked = λ j l. absurd (omega arith) }

  pub owned-next : Owned p e t → e < 2048 → Asked p o → Asks p e o → Owned p (e + 1) (set t e o)
  owned-next f b s a = record { long = length-set t e o ∙ f.long; asks = λ j l. asks' j l (same? j e); asked = λ j l. asked' j l (same? j e) }
    where
      here : get_or (set t e o) e 0 ≡ o
      here = get_or-set_same t e o 0 (rw f.long b)

      asks' : (j : ℕ) → j < e + 1 → (j ≡ e) ⊎ (j ≡ e → ⊥) → Asks p j (get_or (set t e o) j 0)
      asks' j l (inl q) = rw (q, here) a
      asks' j l (inr q) = rw (get_or-set_other t e j o 0 q) (f.asks j (omega (arith, q)))

      asked' : (j : ℕ) → j < e + 1 → (j ≡ e) ⊎ (j ≡ e → ⊥) → Asked p (get_or (set t e o) j 0)
      asked' j l (inl q) = rw (q, here) s
      asked' j l (inr q) = rw (get_or-set_other t e j o 0 q) (f.asked j (omega (arith, q)))
