-- "Plan image": the header's numbers, where the sections stand, and the fields of a record by its number.
use Rattle.std.specs.Prelude.{ℕ, ◌+◌, ◌*◌, List}
use Rattle.plexil.specs.declared.Condition.{Condition}
use Rattle.plexil.specs.declared.Condition.TheVariants.{Skip, Start, Pre, Inv, End, Post, Repeat}
use Rattle.plexil.specs.Bytes.{byte_at, le16, le32, le64}

-- a plan image is its bytes
abbrev pub Image : Type 0
Image = List ℕ

-- "65535 for default", and for no parent, no value and the what of a list
abbrev pub default : ℕ
default = 65535

-- "Header, ten 16-bit numbers"
unfoldable pub header : Image → ℕ → ℕ
header p k = le16 p (2 * k)

-- "edition (1)"
unfoldable pub edition : Image → ℕ
edition p = header p 0

-- "nodes N (1..256)"
unfoldable pub node_count : Image → ℕ
node_count p = header p 1

-- "expressions E (0..2048)"
unfoldable pub expr_count : Image → ℕ
expr_count p = header p 2

-- "variables V (0..128)"
unfoldable pub var_count : Image → ℕ
var_count p = header p 3

-- "lookups L (0..64)"
unfoldable pub look_count : Image → ℕ
look_count p = header p 4

-- "Sections follow the 20-byte header in that order with no gap"
unfoldable pub exprs_at : Image → ℕ
exprs_at p = 20 + 24 * node_count p

-- the variables' section
unfoldable pub vars_at : Image → ℕ
vars_at p = exprs_at p + 16 * expr_count p

-- the lookups' section
unfoldable pub looks_at : Image → ℕ
looks_at p = vars_at p + 16 * var_count p

-- where the last section ends, "then total length"
unfoldable pub end_at : Image → ℕ
end_at p = looks_at p + 2 * look_count p

-- "Node, 24 bytes": where its record stands
unfoldable pub node_at : ℕ → ℕ
node_at i = 20 + 24 * i

-- "parent 16"
unfoldable pub parent : Image → ℕ → ℕ
parent p i = le16 p (node_at i)

-- "type 8 (0 list, 1 command, 2 assignment)"
unfoldable pub node_type : Image → ℕ → ℕ
node_type p i = byte_at p (node_at i + 2)

-- "spare 8"
unfoldable pub node_spare : Image → ℕ → ℕ
node_spare p i = byte_at p (node_at i + 3)

-- "priority 16"
unfoldable pub priority : Image → ℕ → ℕ
priority p i = le16 p (node_at i + 4)

-- "Skip, Start, Pre, Inv, End, Post, Repeat 16 each"
unfoldable pub condition_at : Condition → ℕ
condition_at Skip = 6
condition_at Start = 8
condition_at Pre = 10
condition_at Inv = 12
condition_at End = 14
condition_at Post = 16
condition_at Repeat = 18

-- "expression, or 65535 for default"
unfoldable pub condition_field : Image → ℕ → Condition → ℕ
condition_field p i c = le16 p (node_at i + condition_at c)

-- "what 16 (assignment: variable; command: command number 0..65534; list: 65535)"
unfoldable pub what : Image → ℕ → ℕ
what p i = le16 p (node_at i + 20)

-- "value 16 (assignment: expression; else 65535)"
unfoldable pub value_field : Image → ℕ → ℕ
value_field p i = le16 p (node_at i + 22)

-- "Expression, 16 bytes"
unfoldable pub expr_at : Image → ℕ → ℕ
expr_at p e = exprs_at p + 16 * e

-- "operator 8"
unfoldable pub operator : Image → ℕ → ℕ
operator p e = byte_at p (expr_at p e)

-- "result kind 8"
unfoldable pub result_kind : Image → ℕ → ℕ
result_kind p e = byte_at p (expr_at p e + 1)

-- "a 16"
unfoldable pub operand_a : Image → ℕ → ℕ
operand_a p e = le16 p (expr_at p e + 2)

-- "b 16"
unfoldable pub operand_b : Image → ℕ → ℕ
operand_b p e = le16 p (expr_at p e + 4)

-- "spare 16"
unfoldable pub expr_spare : Image → ℕ → ℕ
expr_spare p e = le16 p (expr_at p e + 6)

-- "constant 64 (Bool 0 or 1, Int two's complement, finite Real's bits)"
unfoldable pub constant : Image → ℕ → ℕ
constant p e = le64 p (expr_at p e + 8)

-- "Variable, 16 bytes"
unfoldable pub var_record_at : Image → ℕ → ℕ
var_record_at p v = vars_at p + 16 * v

-- "kind 8"
unfoldable pub var_kind : Image → ℕ → ℕ
var_kind p v = byte_at p (var_record_at p v)

-- "known 8 (0 or 1)"
unfoldable pub var_known : Image → ℕ → ℕ
var_known p v = byte_at p (var_record_at p v + 1)

-- "owner node 16"
unfoldable pub owner : Image → ℕ → ℕ
owner p v = le16 p (var_record_at p v + 2)

-- "spare 32"
unfoldable pub var_spare : Image → ℕ → ℕ
var_spare p v = le32 p (var_record_at p v + 4)

-- "initial value 64 (as a constant; 0 if not known)"
unfoldable pub initial_bits : Image → ℕ → ℕ
initial_bits p v = le64 p (var_record_at p v + 8)

-- "Lookup, 2 bytes"
unfoldable pub look_record_at : Image → ℕ → ℕ
look_record_at p l = looks_at p + 2 * l

-- "kind 8"
unfoldable pub look_kind : Image → ℕ → ℕ
look_kind p l = byte_at p (look_record_at p l)

-- "spare 8"
unfoldable pub look_spare : Image → ℕ → ℕ
look_spare p l = byte_at p (look_record_at p l + 1)

-- opens every definition of this file
unfoldable pub opened : Unit {0}
unfolding header edition node_count expr_count var_count look_count exprs_at vars_at looks_at end_at node_at parent node_type node_spare priority condition_at condition_field what value_field expr_at operator result_kind operand_a operand_b expr_spare constant var_record_at var_kind var_known owner var_spare initial_bits look_record_at look_kind look_spare
opened = tt
