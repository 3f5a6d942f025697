-- What an admitted plan keeps: its counts within the limits, each node's parent a list of a lower number, each record good.
use Prim.Native.Nat.{ℕ, suc, ◌<◌, ◌≤◌}
use mathlib.Core.Path.{◌≡◌}
use mathlib.Core.Bool.{true}
use native.Mathlib.Omega.{arith}
use borrow.Author.Tests.{ltb-true, leb-true, not-false}
use Rattle.plexil.specs.declared.Rule.TheVariants.{Count, Tree, Node, Variable, Lookup, Expression, Deep, Kind, Reach}
use Rattle.plexil.specs.Image.{Image, node_count, expr_count, var_count, look_count, parent, owner}
use Rattle.plexil.specs.Records.{good_count, is_list, good_parent, good_node, good_variable, good_lookup, good_expression}
use Rattle.plexil.specs.Scope.{shallow, good_kinds, good_reach}
use Rattle.plexil.specs.Check.{records, breaks, rule_on}
use Rattle.plexil.specs.Promises.{IsAdmitted}
use Rattle.plexil.proofs.ListLaws.{every-at}
use Rattle.plexil.proofs.Exactness.{admitted-is}

module _ (p : Image) (a : IsAdmitted p) where
  -- ---- each record by itself
  good-count : good_count p ≡ true
  unfolding breaks rule_on records
  good-count = not-false _ (admitted-is p a Count 0 (omega arith))

  good-parent : (i : ℕ) → i < node_count p → good_parent p i ≡ true
  unfolding breaks rule_on records
  good-parent i b = not-false _ (admitted-is p a Tree i b)

  pub good-node : (i : ℕ) → i < node_count p → good_node p i ≡ true
  unfolding breaks rule_on records
  good-node i b = not-false _ (admitted-is p a Node i b)

  pub good-variable : (v : ℕ) → v < var_count p → good_variable p v ≡ true
  unfolding breaks rule_on records
  good-variable v b = not-false _ (admitted-is p a Variable v b)

  pub good-lookup : (l : ℕ) → l < look_count p → good_lookup p l ≡ true
  unfolding breaks rule_on records
  good-lookup l b = not-false _ (admitted-is p a Lookup l b)

  pub good-expression : (e : ℕ) → e < expr_count p → good_expression p e ≡ true
  unfolding breaks rule_on records
  good-expression e b = not-false _ (admitted-is p a Expression e b)

  pub is-shallow : (e : ℕ) → e < expr_count p → shallow p e ≡ true
  unfolding breaks rule_on records
  is-shallow e b = not-false _ (admitted-is p a Deep e b)

  pub good-kinds : (i : ℕ) → i < node_count p → good_kinds p i ≡ true
  unfolding breaks rule_on records
  good-kinds i b = not-false _ (admitted-is p a Kind i b)

  pub good-reach : (i : ℕ) → i < node_count p → good_reach p i ≡ true
  unfolding breaks rule_on records
  good-reach i b = not-false _ (admitted-is p a Reach i b)

  -- ---- the counts
  pub a-node : 0 < node_count p
  unfolding good_count
  a-node = ltb-true _ _ (every-at _ 0 good-count)

  pub few-nodes : node_count p ≤ 256
  unfolding good_count
  few-nodes = leb-true _ _ (every-at _ 1 good-count)

  pub few-entries : expr_count p ≤ 2048
  unfolding good_count
  few-entries = leb-true _ _ (every-at _ 2 good-count)

  pub few-vars : var_count p ≤ 128
  unfolding good_count
  few-vars = leb-true _ _ (every-at _ 3 good-count)

  -- ---- the tree
  pub parent-lower : (i : ℕ) → suc i < node_count p → parent p (suc i) < suc i
  unfolding good_parent
  parent-lower i b = ltb-true _ _ (every-at _ 0 (good-parent (suc i) b))

  pub parent-below : (i : ℕ) → suc i < node_count p → parent p (suc i) < node_count p
  parent-below i b = omega (arith, parent-lower i b)

  pub parent-list : (i : ℕ) → suc i < node_count p → is_list p (parent p (suc i)) ≡ true
  unfolding good_parent
  parent-list i b = every-at _ 1 (good-parent (suc i) b)

  -- ---- the owners
  pub owner-below : (v : ℕ) → v < var_count p → owner p v < node_count p
  unfolding good_variable
  owner-below v b = ltb-true _ _ (every-at _ 1 (good-variable v b))
