-- Refusals 1 and 3 to 9: the header, the tree of nodes, and each record by itself.
use Rattle.std.specs.Prelude.{ℕ, zero, suc, Bool, false, not, [], ◌∷◌, length, eqb, ltb, leb}
use Rattle.plexil.specs.declared.Condition.{Condition}
use Rattle.plexil.specs.declared.Condition.TheVariants.{Skip, Start, Pre, Inv, End, Post, Repeat}
use Rattle.plexil.specs.Lists.{every, some}
use Rattle.plexil.specs.Values.{good_bits}
use Rattle.plexil.specs.Image.{Image, default, header, node_count, expr_count, var_count, look_count, exprs_at, vars_at, looks_at, end_at, parent, node_type, node_spare, condition_field, what, value_field, result_kind, operand_a, operand_b, expr_spare, constant, var_kind, var_known, owner, var_spare, initial_bits, look_kind, look_spare}
use Rattle.plexil.specs.Expressions.{Leaf, constant_op, variable_op, lookup_op, status_op, outcome_op, failure_op, Binary, and_op, or_op, eq_op, lt_op, le_op, add_op, sub_op, mul_op, Operator, leaf, not_op, binary, no_operator, operator_at}

-- "1 Short: image under 20 bytes"
unfoldable pub short : Image → Bool
short p = ltb (length p) 20

-- "3 Count: outside the limits"; "nodes N (1..256), expressions E (0..2048), variables V (0..128), lookups L (0..64)"
unfoldable pub good_count : Image → Bool
good_count p = every (ltb 0 (node_count p) ∷ leb (node_count p) 256 ∷ leb (expr_count p) 2048 ∷ leb (var_count p) 128 ∷ leb (look_count p) 64 ∷ [])

-- "4 Layout: an offset, the total length or the image's own length differs"
unfoldable pub good_layout : Image → Bool
good_layout p =
    every (eqb (header p 5) 20 ∷ eqb (header p 6) (exprs_at p) ∷ eqb (header p 7) (vars_at p) ∷ eqb (header p 8) (looks_at p)
    ∷ eqb (header p 9) (end_at p) ∷ eqb (length p) (end_at p) ∷ [])

-- "0 list, 1 command, 2 assignment"
unfoldable pub is_list : Image → ℕ → Bool
is_list p i = eqb (node_type p i) 0

-- node i is a command
unfoldable pub is_command : Image → ℕ → Bool
is_command p i = eqb (node_type p i) 1

-- node i is an assignment
unfoldable pub is_assignment : Image → ℕ → Bool
is_assignment p i = eqb (node_type p i) 2

-- a node that may write a variable: "an assignment writes"
unfoldable pub is_writer : Image → ℕ → Bool
is_writer p i = is_assignment p i

-- the variable that a writer writes: "what 16 (assignment: variable ..)"
unfoldable pub target : Image → ℕ → ℕ
target p i = what p i

-- "5 Tree: parent wrong"; "Node 0 has parent 65535; any other parent is a list with a lower number"
unfoldable pub good_parent : Image → ℕ → Bool
good_parent p zero = eqb (parent p zero) default
good_parent p (suc i) = every (ltb (parent p (suc i)) (suc i) ∷ is_list p (parent p (suc i)) ∷ [])

-- each of the seven conditions passes
unfoldable pub all_conditions : (Condition → Bool) → Bool
all_conditions f = every (f Skip ∷ f Start ∷ f Pre ∷ f Inv ∷ f End ∷ f Post ∷ f Repeat ∷ [])

-- "expression, or 65535 for default"
unfoldable pub good_condition : Image → ℕ → Condition → Bool
good_condition p i c = some (eqb (condition_field p i c) default ∷ ltb (condition_field p i c) (expr_count p) ∷ [])

-- "what 16 (assignment: variable; command: command number 0..65534; list: 65535); value 16 (assignment: expression; else 65535)"
unfoldable pub good_what : Image → ℕ → Bool
good_what p i =
    some (every (is_list p i ∷ eqb (what p i) default ∷ eqb (value_field p i) default ∷ [])
    ∷ every (is_command p i ∷ ltb (what p i) default ∷ eqb (value_field p i) default ∷ [])
    ∷ every (is_assignment p i ∷ ltb (what p i) (var_count p) ∷ ltb (value_field p i) (expr_count p) ∷ []) ∷ [])

-- "6 Node: type, spare or field wrong"; "Spares are 0"
unfoldable pub good_node : Image → ℕ → Bool
good_node p i = every (eqb (node_spare p i) 0 ∷ good_what p i ∷ all_conditions (good_condition p i) ∷ [])

-- a constant of kind k: known with these bits, or Unknown with bits 0
unfoldable pub good_constant : ℕ → ℕ → ℕ → Bool
good_constant k zero w = every (ltb k 3 ∷ eqb w 0 ∷ [])
good_constant k (suc zero) w = good_bits k w
good_constant k (suc (suc b)) w = false

-- "7 Variable: record wrong, owner not below N, real not finite"
unfoldable pub good_variable : Image → ℕ → Bool
good_variable p v = every (good_constant (var_kind p v) (var_known p v) (initial_bits p v) ∷ ltb (owner p v) (node_count p) ∷ eqb (var_spare p v) 0 ∷ [])

-- "8 Lookup"
unfoldable pub good_lookup : Image → ℕ → Bool
good_lookup p l = every (ltb (look_kind p l) 3 ∷ eqb (look_spare p l) 0 ∷ [])

-- "Operand entries have lower numbers than their own entry"; entry a has kind k
unfoldable pub operand : Image → ℕ → ℕ → ℕ → Bool
operand p e a k = every (ltb a e ∷ eqb (result_kind p a) k ∷ [])

-- a leaf of kind k that reads variable or lookup a, of n; "Fields an operator does not use are 0"
unfoldable pub reads : Image → ℕ → ℕ → ℕ → Bool
reads p e n k = every (ltb (operand_a p e) n ∷ eqb (operand_b p e) 0 ∷ eqb (result_kind p e) k ∷ eqb (constant p e) 0 ∷ [])

-- "In 3 to 5, b is a code listed below": below n
unfoldable pub asks : Image → ℕ → ℕ → Bool
asks p e n = every (ltb (operand_a p e) (node_count p) ∷ ltb (operand_b p e) n ∷ eqb (result_kind p e) 0 ∷ eqb (constant p e) 0 ∷ [])

-- "0 constant", "1 variable a", "2 lookup a", "3 status of node a is b", "4 outcome", "5 failure"
unfoldable pub good_leaf : Leaf → Image → ℕ → Bool
good_leaf constant_op p e = every (eqb (operand_a p e) 0 ∷ good_constant (result_kind p e) (operand_b p e) (constant p e) ∷ [])
good_leaf variable_op p e = reads p e (var_count p) (var_kind p (operand_a p e))
good_leaf lookup_op p e = reads p e (look_count p) (look_kind p (operand_a p e))
good_leaf status_op p e = asks p e 7
good_leaf outcome_op p e = asks p e 4
good_leaf failure_op p e = asks p e 6

-- both operands of kind k, the entry itself of kind r
unfoldable pub takes : Image → ℕ → ℕ → ℕ → Bool
takes p e k r =
    every (operand p e (operand_a p e) k ∷ operand p e (operand_b p e) k ∷ eqb (result_kind p e) r ∷ eqb (constant p e) 0 ∷ [])

-- the kind of operand a
unfoldable pub kind_of_a : Image → ℕ → ℕ
kind_of_a p e = result_kind p (operand_a p e)

-- no Bool: "two Int or two Real"
unfoldable pub is_number : ℕ → Bool
is_number k = not (eqb k 0)

-- "6 to 8 take Bool. 9 takes two of one kind. 10 to 14 take two Int or two Real; 12 to 14 keep that kind, 3 to 11 give Bool"
unfoldable pub good_binary : Binary → Image → ℕ → Bool
good_binary and_op p e = takes p e 0 0
good_binary or_op p e = takes p e 0 0
good_binary eq_op p e = takes p e (kind_of_a p e) 0
good_binary lt_op p e = every (is_number (kind_of_a p e) ∷ takes p e (kind_of_a p e) 0 ∷ [])
good_binary le_op p e = every (is_number (kind_of_a p e) ∷ takes p e (kind_of_a p e) 0 ∷ [])
good_binary add_op p e = every (is_number (kind_of_a p e) ∷ takes p e (kind_of_a p e) (kind_of_a p e) ∷ [])
good_binary sub_op p e = every (is_number (kind_of_a p e) ∷ takes p e (kind_of_a p e) (kind_of_a p e) ∷ [])
good_binary mul_op p e = every (is_number (kind_of_a p e) ∷ takes p e (kind_of_a p e) (kind_of_a p e) ∷ [])

-- "Fields an operator does not use are 0"
unfoldable pub good_operator : Operator → Image → ℕ → Bool
good_operator (leaf o) p e = good_leaf o p e
good_operator not_op p e =
    every (operand p e (operand_a p e) 0 ∷ eqb (operand_b p e) 0 ∷ eqb (result_kind p e) 0 ∷ eqb (constant p e) 0 ∷ [])
good_operator (binary o) p e = good_binary o p e
good_operator no_operator p e = false

-- "9 Expression: operator, spare, operand, kind or constant wrong"
unfoldable pub good_expression : Image → ℕ → Bool
good_expression p e = every (eqb (expr_spare p e) 0 ∷ good_operator (operator_at p e) p e ∷ [])

-- opens every definition of this file
unfoldable pub opened : Unit {0}
unfolding short good_count good_layout is_list is_command is_assignment is_writer target good_parent all_conditions good_condition good_what good_node good_constant good_variable good_lookup operand reads asks good_leaf takes kind_of_a is_number good_binary good_operator good_expression
opened = tt
