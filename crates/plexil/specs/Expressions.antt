-- "Operators": what an expression entry answers from what it reads, the remaining depth falling.
use Rattle.std.specs.Prelude.{ℕ, zero, suc, [], ◌∷◌, get_or, eqb}
use Rattle.plexil.specs.declared.Worked.{Worked}
use Rattle.plexil.specs.declared.Worked.TheVariants.{Clash, Unknown, Bool as Flag}
use Rattle.plexil.specs.Lists.{when◌then◌else◌}
use Rattle.plexil.specs.Values.{known, cell, not_of, and_of, or_of, pair_of, eq_of, lt_of, le_of, add_of, sub_of, mul_of}
use Rattle.plexil.specs.Image.{Image, operator, result_kind, operand_a, operand_b, constant}
use Rattle.plexil.specs.Places.{Seen, value_in}

-- the operators 0 to 5, which have no operand entry
pub data Leaf : Type 0 where
  constant_op variable_op lookup_op status_op outcome_op failure_op : Leaf

-- the operators 7 to 14, which have two
pub data Binary : Type 0 where
  and_op or_op eq_op lt_op le_op add_op sub_op mul_op : Binary

-- NOT has one; a number past 14 is no operator
pub data Operator : Type 0 where
  leaf : Leaf → Operator
  not_op : Operator
  binary : Binary → Operator
  no_operator : Operator

-- "0 constant ..; 1 variable a; 2 lookup a; 3 status of node a is b; 4 outcome of node a is b; 5 failure of node a is b; 6 NOT a; 7 AND; 8 OR; 9 EQ; 10 LT; 11 LE; 12 ADD; 13 SUB; 14 MUL"
unfoldable pub operator_of : ℕ → Operator
operator_of n =
    get_or
    (leaf constant_op ∷ leaf variable_op ∷ leaf lookup_op ∷ leaf status_op ∷ leaf outcome_op ∷ leaf failure_op ∷ not_op
    ∷ binary and_op ∷ binary or_op ∷ binary eq_op ∷ binary lt_op ∷ binary le_op ∷ binary add_op ∷ binary sub_op ∷ binary mul_op ∷ [])
    n no_operator

-- the operator of entry e
unfoldable pub operator_at : Image → ℕ → Operator
operator_at p e = operator_of (operator p e)

-- "b = 1 known, b = 0 Unknown with constant 0"; "In 3 to 5, b is a code listed below; they are never Unknown"
unfoldable pub leaf_of : Leaf → Image → Seen → ℕ → Worked
leaf_of constant_op p r e = when eqb (operand_b p e) 1 then known (result_kind p e) (constant p e) else Unknown
leaf_of variable_op p r e = value_in (cell (get_or r.vartags (operand_a p e) 0) (get_or r.varbits (operand_a p e) 0))
leaf_of lookup_op p r e = value_in (cell (get_or r.looktags (operand_a p e) 0) (get_or r.lookbits (operand_a p e) 0))
leaf_of status_op p r e = Flag (eqb (get_or r.status (operand_a p e) 0) (operand_b p e))
leaf_of outcome_op p r e = Flag (eqb (get_or r.outcome (operand_a p e) 0) (operand_b p e))
leaf_of failure_op p r e = Flag (eqb (get_or r.failure (operand_a p e) 0) (operand_b p e))

-- what an operator answers on the values of its two operands
unfoldable pub binary_of : Binary → Worked → Worked → Worked
binary_of and_op x y = and_of x y
binary_of or_op x y = or_of x y
binary_of eq_op x y = eq_of (pair_of x y)
binary_of lt_op x y = lt_of (pair_of x y)
binary_of le_op x y = le_of (pair_of x y)
binary_of add_op x y = add_of (pair_of x y)
binary_of sub_op x y = sub_of (pair_of x y)
binary_of mul_op x y = mul_of (pair_of x y)

-- `sub` answers for an operand's entry; no operator at all is a Clash
unfoldable pub answer_of : Operator → Image → Seen → ℕ → (ℕ → Worked) → Worked
answer_of (leaf o) p r e sub = leaf_of o p r e
answer_of not_op p r e sub = not_of (sub (operand_a p e))
answer_of (binary o) p r e sub = binary_of o (sub (operand_a p e)) (sub (operand_b p e))
answer_of no_operator p r e sub = Clash

-- entry e with d levels left; no level left is a Clash
unfoldable pub eval_of : Image → Seen → ℕ → ℕ → Worked
eval_of p r zero e = Clash
eval_of p r (suc d) e = answer_of (operator_at p e) p r e (λ x. eval_of p r d x)

-- "an expression tree is at most 12 deep"
unfoldable pub value_of : Image → Seen → ℕ → Worked
value_of p r e = eval_of p r 12 e

-- opens every definition of this file
unfoldable pub opened : Unit {0}
unfolding operator_of operator_at leaf_of binary_of answer_of eval_of value_of
opened = tt
