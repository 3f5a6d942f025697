-- Bounds of what depends on what: for each entry the highest entry that depends on it, for each place that expressions read the lowest and the highest.
use Rattle.std.specs.Prelude.{ℕ, ◌<◌, ◌≤◌, ◌≡◌, true, List, get_or}
use Rattle.plexil.specs.Image.{Image, expr_count, operand_a, operand_b}
use Rattle.plexil.specs.Places.{Seen}
use Rattle.plexil.specs.Expressions.{Leaf, constant_op, variable_op, lookup_op, status_op, outcome_op, failure_op, Binary, leaf, not_op, binary, operator_at}
use Rattle.plexil.specs.Promises.{IsAdmitted}
use Rattle.answers.specs.Changes.{up, var_flag, look_flag, Covers, Outside}

-- the arrays of bounds; low and high are by the flags' places
pub record Bounds : Type 0 where
  pub reach : List ℕ
  pub low : List ℕ
  pub high : List ℕ

-- place k's bounds hold entry e and all that depends on it
pub record Holds (b : Bounds) (k e : ℕ) : Type 0 where
  pub least : get_or b.low k 0 ≤ e
  pub most : get_or b.reach e 0 ≤ get_or b.high k 0

-- a leaf lies within the bounds of what it reads
abbrev pub LeafWithin : Leaf → Image → Bounds → ℕ → Type 0
LeafWithin constant_op p b e = Unit {0}
LeafWithin variable_op p b e = Holds b (var_flag (operand_a p e)) e
LeafWithin lookup_op p b e = Holds b (look_flag (operand_a p e)) e
LeafWithin status_op p b e = Holds b (operand_a p e) e
LeafWithin outcome_op p b e = Holds b (operand_a p e) e
LeafWithin failure_op p b e = Holds b (operand_a p e) e

-- what depends on entry e depends on its operand x
abbrev pub Above : Bounds → ℕ → ℕ → Type 0
Above b e x = get_or b.reach e 0 ≤ get_or b.reach x 0

-- the bounds are those of the plan
pub record Bounding (p : Image) (b : Bounds) : Type 0 where
  pub itself : (e : ℕ) → e < expr_count p → e ≤ get_or b.reach e 0
  pub leaves : (e : ℕ) → e < expr_count p → (o : Leaf) → operator_at p e ≡ leaf o → LeafWithin o p b e
  pub nots : (e : ℕ) → e < expr_count p → operator_at p e ≡ not_op → Above b e (operand_a p e)
  pub pairs : (e : ℕ) → e < expr_count p → (o : Binary) → operator_at p e ≡ binary o → Above b e (operand_a p e) × Above b e (operand_b p e)

-- lo and hi enclose the bounds of all that has its flag up
abbrev pub Encloses : Bounds → List ℕ → ℕ → ℕ → Type 0
Encloses b altered lo hi = (k : ℕ) → up altered k ≡ true → (lo ≤ get_or b.low k 0) × (get_or b.high k 0 < hi)

-- an entry outside the bounds of what changed has its value still
abbrev pub EnclosedChange : Type 0
EnclosedChange =
    (p : Image) (r q : Seen) (altered : List ℕ) → IsAdmitted p → Covers r q altered → (b : Bounds) → Bounding p b → (lo hi : ℕ) → Encloses b altered lo hi
    → Outside p r q lo hi
