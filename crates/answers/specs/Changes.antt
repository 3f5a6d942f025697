-- What changed from one state to another, as flags, and which entries a change touches.
use Rattle.std.specs.Prelude.{ℕ, ◌+◌, ◌<◌, ◌≤◌, ◌≡◌, Bool, false, not, List, [], ◌∷◌, get_or, eqb}
use Rattle.plexil.specs.Lists.{some}
use Rattle.plexil.specs.Image.{Image, expr_count, operand_a, operand_b}
use Rattle.plexil.specs.Places.{Seen}
use Rattle.plexil.specs.Expressions.{Leaf, constant_op, variable_op, lookup_op, status_op, outcome_op, failure_op, Operator, leaf, not_op, binary, no_operator, operator_at, value_of}
use Rattle.plexil.specs.Promises.{IsAdmitted}
use Rattle.answers.specs.Table.{HasCell, answer}

-- the flag of place k is up
unfoldable pub up : List ℕ → ℕ → Bool
up flags k = not (eqb (get_or flags k 0) 0)

-- the flags of what expressions read stand in one array: 256 nodes, 128 variables, 64 lookups
abbrev pub var_flag : ℕ → ℕ
var_flag v = 256 + v

-- the flag of lookup l
abbrev pub look_flag : ℕ → ℕ
look_flag l = 384 + l

-- node i has one status, outcome and failure in both
pub record SamePlace (r q : Seen) (i : ℕ) : Type 0 where
  pub status : get_or r.status i 0 ≡ get_or q.status i 0
  pub outcome : get_or r.outcome i 0 ≡ get_or q.outcome i 0
  pub failure : get_or r.failure i 0 ≡ get_or q.failure i 0

-- variable v has one cell in both
pub record SameVar (r q : Seen) (v : ℕ) : Type 0 where
  pub tag : get_or r.vartags v 0 ≡ get_or q.vartags v 0
  pub bits : get_or r.varbits v 0 ≡ get_or q.varbits v 0

-- lookup l has
pub record SameLook (r q : Seen) (l : ℕ) : Type 0 where
  pub tag : get_or r.looktags l 0 ≡ get_or q.looktags l 0
  pub bits : get_or r.lookbits l 0 ≡ get_or q.lookbits l 0

-- what has its flag down stands alike in both
pub record Covers (r q : Seen) (altered : List ℕ) : Type 0 where
  pub nodes : (i : ℕ) → up altered i ≡ false → SamePlace r q i
  pub vars : (v : ℕ) → up altered (var_flag v) ≡ false → SameVar r q v
  pub looks : (l : ℕ) → up altered (look_flag l) ≡ false → SameLook r q l

-- of the first n entries, one whose flag is down has one value in both
abbrev pub Unchanged : Image → Seen → Seen → List ℕ → ℕ → Type 0
Unchanged p r q changed n = (e : ℕ) → e < n → up changed e ≡ false → value_of p r e ≡ value_of p q e

-- a leaf reads something whose flag is up
unfoldable pub leaf_touched : Leaf → Image → List ℕ → ℕ → Bool
leaf_touched constant_op p altered e = false
leaf_touched variable_op p altered e = up altered (var_flag (operand_a p e))
leaf_touched lookup_op p altered e = up altered (look_flag (operand_a p e))
leaf_touched status_op p altered e = up altered (operand_a p e)
leaf_touched outcome_op p altered e = up altered (operand_a p e)
leaf_touched failure_op p altered e = up altered (operand_a p e)

-- "an entry only if a variable, status, outcome or failure it reads, or an operand's answer, has changed"
unfoldable pub touched_by : Operator → Image → List ℕ → List ℕ → ℕ → Bool
touched_by (leaf o) p altered changed e = leaf_touched o p altered e
touched_by not_op p altered changed e = up changed (operand_a p e)
touched_by (binary o) p altered changed e = some (up changed (operand_a p e) ∷ up changed (operand_b p e) ∷ [])
touched_by no_operator p altered changed e = some (up changed (operand_a p e) ∷ up changed (operand_b p e) ∷ [])

-- entry e by its operator
unfoldable pub touched : Image → List ℕ → List ℕ → ℕ → Bool
touched p altered changed e = touched_by (operator_at p e) p altered changed e

-- an entry that is not touched has its value still
abbrev pub Untouched : Type 0
Untouched =
    (p : Image) (r q : Seen) (altered : List ℕ) → IsAdmitted p → Covers r q altered → (changed : List ℕ) (e : ℕ) → e < expr_count p → Unchanged p r q changed e
    → touched p altered changed e ≡ false → value_of p r e ≡ value_of p q e

-- a table is right for q below n, and for r from n on
pub record Upto (p : Image) (r q : Seen) (n : ℕ) (tags bits : List ℕ) : Type 0 where
  pub below : (e : ℕ) → e < n → e < expr_count p → HasCell tags bits e (answer p q e)
  pub from : (e : ℕ) → n ≤ e → e < expr_count p → HasCell tags bits e (answer p r e)

-- an entry below lo, or from hi on, has one value in both
pub record Outside (p : Image) (r q : Seen) (lo hi : ℕ) : Type 0 where
  pub under : (e : ℕ) → e < lo → e < expr_count p → value_of p r e ≡ value_of p q e
  pub over : (e : ℕ) → hi ≤ e → e < expr_count p → value_of p r e ≡ value_of p q e

-- opens every definition of this file
unfoldable pub opened : Unit {0}
unfolding up leaf_touched touched_by touched
opened = tt
