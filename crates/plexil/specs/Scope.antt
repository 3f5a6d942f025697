-- Refusals 10 to 12: what a node's expressions reach. The walks go down with the remaining depth, and up to node 0.
use Rattle.std.specs.Prelude.{ℕ, zero, suc, Bool, true, false, not, [], ◌∷◌, eqb}
use Rattle.plexil.specs.Lists.{every, some}
use Rattle.plexil.specs.Image.{Image, default, parent, condition_field, what, value_field, operator, result_kind, operand_a, operand_b, var_kind, owner}
use Rattle.plexil.specs.Expressions.{Operator, leaf, not_op, binary, no_operator, operator_at}
use Rattle.plexil.specs.Records.{is_assignment, all_conditions}

-- each operand of entry e passes
unfoldable pub operands_pass : Operator → Image → ℕ → (ℕ → Bool) → Bool
operands_pass (leaf o) p e f = true
operands_pass not_op p e f = f (operand_a p e)
operands_pass (binary o) p e f = every (f (operand_a p e) ∷ f (operand_b p e) ∷ [])
operands_pass no_operator p e f = true

-- "A leaf has depth 1, an operator one more than its deepest operand": the tree at e is at most d deep
unfoldable pub depth_within : Image → ℕ → ℕ → Bool
depth_within p zero e = false
depth_within p (suc d) e = operands_pass (operator_at p e) p e (λ x. depth_within p d x)

-- "10 Deep: depth over 12"
unfoldable pub shallow : Image → ℕ → Bool
shallow p e = depth_within p 12 e

-- each condition of node i that is given passes
unfoldable pub given_pass : Image → ℕ → (ℕ → Bool) → Bool
given_pass p i f = all_conditions (λ c. some (eqb (condition_field p i c) default ∷ f (condition_field p i c) ∷ []))

-- an assignment passes b; any other node passes
unfoldable pub if_assignment : Image → ℕ → Bool → Bool
if_assignment p i b = some (not (is_assignment p i) ∷ b ∷ [])

-- "11 Kind: condition not Bool, value kind not the target's"
unfoldable pub good_kinds : Image → ℕ → Bool
good_kinds p i =
    every (given_pass p i (λ e. eqb (result_kind p e) 0) ∷ if_assignment p i (eqb (result_kind p (value_field p i)) (var_kind p (what p i))) ∷ [])

-- o is node i or above it; the walk goes up at most n nodes
unfoldable pub is_above : Image → ℕ → ℕ → ℕ → Bool
is_above p zero o i = false
is_above p (suc n) o zero = eqb o 0
is_above p (suc n) o (suc i) = elim (eqb o (suc i)) [ true ↦ true | false ↦ is_above p n o (parent p (suc i)) ]

-- variable v's owner is node i or above it
unfoldable pub in_scope : Image → ℕ → ℕ → Bool
in_scope p i v = is_above p (suc i) (owner p v) i

-- "1 variable a": the one operator that reads a variable
unfoldable pub entry_in_scope : Image → ℕ → ℕ → Bool
entry_in_scope p i e = some (not (eqb (operator p e) 1) ∷ in_scope p i (operand_a p e) ∷ [])

-- node i may read each variable in the tree at e, d levels down
unfoldable pub tree_in_scope : Image → ℕ → ℕ → ℕ → Bool
tree_in_scope p i zero e = false
tree_in_scope p i (suc d) e = every (entry_in_scope p i e ∷ operands_pass (operator_at p e) p e (λ x. tree_in_scope p i d x) ∷ [])

-- "12 Reach: a node reads or assigns a variable whose owner is neither it nor above it"
unfoldable pub good_reach : Image → ℕ → Bool
good_reach p i =
    every (given_pass p i (tree_in_scope p i 12) ∷ if_assignment p i (every (tree_in_scope p i 12 (value_field p i) ∷ in_scope p i (what p i) ∷ [])) ∷ [])

-- opens every definition of this file
unfoldable pub opened : Unit {0}
unfolding operands_pass depth_within shallow given_pass if_assignment good_kinds is_above in_scope entry_in_scope tree_in_scope good_reach
opened = tt
