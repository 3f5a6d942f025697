-- In a kept state an entry of an admitted plan works out to Unknown or to a known value of its kind, with the levels that its tree needs.
use Prim.Native.Nat.{ℕ, zero, suc, ◌<◌}
use mathlib.Core.Path.{◌≡◌}
use mathlib.Core.Bool.{true, false, false≢true}
use native.Mathlib.Omega.{arith}
use lib.Ieee.{binary64}
use lib.Ieee.Fits.{add-fits, sub-fits, mul-fits}
use borrow.Author.Tests.{ltb-true, eqb-true}
use Rattle.plexil.specs.declared.Worked.{Worked}
use Rattle.plexil.specs.declared.State.{State}
use Rattle.plexil.specs.Values.{and_of, or_of, lt_of, le_of, add_of, sub_of, mul_of}
use Rattle.plexil.specs.Image.{Image, expr_count, var_count, look_count, result_kind, operand_a, operand_b, var_kind, look_kind}
use Rattle.plexil.specs.Places.{seen, var_cell, look_cell, value_in}
use Rattle.plexil.specs.Expressions.{Leaf, constant_op, variable_op, lookup_op, status_op, outcome_op, failure_op, Binary, and_op, or_op, eq_op, lt_op, le_op, add_op, sub_op, mul_op, Operator, leaf, not_op, binary, no_operator, operator_at, leaf_of, binary_of, answer_of, eval_of}
use Rattle.plexil.specs.Records.{operand, reads, asks, good_leaf, takes, kind_of_a, good_binary, good_operator, good_expression}
use Rattle.plexil.specs.Scope.{operands_pass, depth_within}
use Rattle.plexil.specs.Form.{good_state}
use Rattle.plexil.specs.Kinds.{Has, bool}
use Rattle.plexil.specs.Promises.{IsAdmitted, IsKept}
use Rattle.plexil.proofs.ListLaws.{every-at, all_below-at}
use Rattle.plexil.proofs.Admitted.{good-expression}
use Rattle.plexil.proofs.OperatorKinds.{constant-has, cell-has, not-has, junction-has, eq-has, compares-has, computes-has}

-- ---- an entry by itself
-- each operand of entry e has the property
abbrev pub Each : Operator → Image → ℕ → (ℕ → Type 0) → Type 0
Each (leaf o) p e P = Unit {0}
Each not_op p e P = P (operand_a p e)
Each (binary o) p e P = P (operand_a p e) × P (operand_b p e)
Each no_operator p e P = Unit {0}

pub each_map : (o : Operator) (p : Image) (e : ℕ) (P Q : ℕ → Type 0) → ((x : ℕ) → P x → Q x) → Each o p e P → Each o p e Q
each_map (leaf o) p e P Q f h = tt
each_map not_op p e P Q f h = f _ h
each_map (binary o) p e P Q f h = (f _ h.0, f _ h.1)
each_map no_operator p e P Q f h = tt

module _ (p : Image) (e : ℕ) where
  operand-lower : (a k : ℕ) → operand p e a k ≡ true → a < e
  unfolding operand
  operand-lower a k g = ltb-true _ _ (every-at _ 0 g)

  operand-has : (a k : ℕ) (x : Worked) → operand p e a k ≡ true → Has (result_kind p a) x → Has k x
  unfolding operand
  operand-has a k x g h = rw (eqb-true (result_kind p a) k (every-at _ 1 g)) at h

  -- the kind that a binary entry takes and the one that it gives
  record Entry (o : Binary) : Type 0 where
    k : ℕ
    r : ℕ
    taken : takes p e k r ≡ true
    gives : {x y : Worked} → Has k x → Has k y → Has r (binary_of o x y)

  -- the kind of operand a
  abbrev a : ℕ
  a = kind_of_a p e

  entry : (o : Binary) → good_binary o p e ≡ true → Entry o
  unfolding good_binary binary_of and_of or_of lt_of le_of add_of sub_of mul_of
  entry and_op g = record { k = 0; r = 0; taken = g; gives = junction-has false }
  entry or_op g = record { k = 0; r = 0; taken = g; gives = junction-has true }
  entry eq_op g = record { k = a; r = 0; taken = g; gives = eq-has }
  entry lt_op g = record { k = a; r = 0; taken = every-at _ 1 g; gives = compares-has _ _ (every-at _ 0 g) }
  entry le_op g = record { k = a; r = 0; taken = every-at _ 1 g; gives = compares-has _ _ (every-at _ 0 g) }
  entry add_op g = record { k = a; r = a; taken = every-at _ 1 g; gives = computes-has _ _ (add-fits binary64) (every-at _ 0 g) }
  entry sub_op g = record { k = a; r = a; taken = every-at _ 1 g; gives = computes-has _ _ (sub-fits binary64) (every-at _ 0 g) }
  entry mul_op g = record { k = a; r = a; taken = every-at _ 1 g; gives = computes-has _ _ (mul-fits binary64) (every-at _ 0 g) }

  binary-lower : (o : Binary) → good_binary o p e ≡ true → (operand_a p e < e) × (operand_b p e < e)
  unfolding takes
  binary-lower o g = let t = (entry o g).taken in (operand-lower _ _ (every-at _ 0 t), operand-lower _ _ (every-at _ 1 t))

  binary-has : (o : Binary) (x y : Worked) → good_binary o p e ≡ true → Has (result_kind p (operand_a p e)) x → Has (result_kind p (operand_b p e)) y → Has (result_kind p e) (binary_of o x y)
  unfolding takes
  binary-has o x y g h j =
      let n = entry o g in
      rw (eqb-true (result_kind p e) _ (every-at _ 2 n.taken))
      (n.gives (operand-has _ _ x (every-at _ 0 n.taken) h) (operand-has _ _ y (every-at _ 1 n.taken) j))

-- ---- a kept state
module _ (p : Image) (s : State) (t : IsKept p s) where
  variable-has : (v : ℕ) → v < var_count p → Has (var_kind p v) (value_in (var_cell s v))
  unfolding good_state
  variable-has v b = cell-has _ _ (all_below-at _ _ (every-at _ 1 t) v b)

  lookup-has : (l : ℕ) → l < look_count p → Has (look_kind p l) (value_in (look_cell s l))
  unfolding good_state
  lookup-has l b = cell-has _ _ (all_below-at _ _ (every-at _ 2 t) l b)

  leaf-has : (o : Leaf) (e : ℕ) → good_leaf o p e ≡ true → Has (result_kind p e) (leaf_of o p (seen s) e)
  unfolding good_leaf leaf_of reads asks var_cell look_cell
  leaf-has constant_op e g = constant-has _ _ _ (every-at _ 1 g)
  leaf-has variable_op e g = rw (eqb-true (result_kind p e) _ (every-at _ 2 g)) (variable-has _ (ltb-true _ _ (every-at _ 0 g)))
  leaf-has lookup_op e g = rw (eqb-true (result_kind p e) _ (every-at _ 2 g)) (lookup-has _ (ltb-true _ _ (every-at _ 0 g)))
  leaf-has status_op e g = rw (eqb-true (result_kind p e) _ (every-at _ 2 g)) bool
  leaf-has outcome_op e g = rw (eqb-true (result_kind p e) _ (every-at _ 2 g)) bool
  leaf-has failure_op e g = rw (eqb-true (result_kind p e) _ (every-at _ 2 g)) bool

  answer-has : (o : Operator) (e : ℕ) (sub : ℕ → Worked) → good_operator o p e ≡ true → Each o p e (λ x. Has (result_kind p x) (sub x)) → Has (result_kind p e) (answer_of o p (seen s) e sub)
  unfolding good_operator answer_of
  answer-has (leaf o) e sub g h = leaf-has o e g
  answer-has not_op e sub g h = rw (eqb-true (result_kind p e) _ (every-at _ 2 g)) (not-has (operand-has p e _ _ _ (every-at _ 0 g) h))
  answer-has (binary o) e sub g h = binary-has p e o _ _ g h.0 h.1
  answer-has no_operator e sub g h = absurd (false≢true g)

-- ---- the whole tree
-- entry e is there, and d levels are enough for its tree
pub record Within (p : Image) (d e : ℕ) : Type 0 where
  pub there : e < expr_count p
  pub deep : depth_within p d e ≡ true

pub no-level : (p : Image) (e : ℕ) → depth_within p zero e ≡ true → ⊥
unfolding depth_within
no-level p e w = false≢true w

module _ (p : Image) (q : IsAdmitted p) where
  good-operator : (e : ℕ) → e < expr_count p → good_operator (operator_at p e) p e ≡ true
  unfolding good_expression
  good-operator e b = every-at _ 1 (good-expression p q e b)

  each_within : (o : Operator) (d e : ℕ) → e < expr_count p → good_operator o p e ≡ true → operands_pass o p e (depth_within p d) ≡ true → Each o p e (Within p d)
  unfolding good_operator operands_pass
  each_within (leaf o) d e b g w = tt
  each_within not_op d e b g w = record { there = omega (arith, operand-lower p e _ _ (every-at _ 0 g)); deep = w }
  each_within (binary o) d e b g w =
      let l = binary-lower p e o g in
      (record { there = omega (arith, l.0); deep = every-at _ 0 w }, record { there = omega (arith, l.1); deep = every-at _ 1 w })
  each_within no_operator d e b g w = tt

  each-lower : (o : Operator) (e : ℕ) → good_operator o p e ≡ true → Each o p e (λ x. x < e)
  unfolding good_operator
  each-lower (leaf o) e g = tt
  each-lower not_op e g = operand-lower p e _ _ (every-at _ 0 g)
  each-lower (binary o) e g = binary-lower p e o g
  each-lower no_operator e g = tt

  -- "Operand entries have lower numbers than their own entry"
  pub operands-lower : (e : ℕ) → e < expr_count p → Each (operator_at p e) p e (λ x. x < e)
  operands-lower e b = each-lower (operator_at p e) e (good-operator e b)

  -- an operand's tree needs one level less
  pub operands-within : (d e : ℕ) → Within p (suc d) e → Each (operator_at p e) p e (Within p d)
  unfolding depth_within
  operands-within d e w = each_within (operator_at p e) d e w.there (good-operator e w.there) w.deep

  pub eval-has : (s : State) → IsKept p s → (d e : ℕ) → Within p d e → Has (result_kind p e) (eval_of p (seen s) d e)
  unfolding eval_of
  eval-has s t zero e w = absurd (no-level p e w.deep)
  eval-has s t (suc d) e w =
      answer-has p s t (operator_at p e) e _ (good-operator e w.there)
      (each_map (operator_at p e) p e _ _ (eval-has s t d) (operands-within d e w))
