-- Kinds in statements: which value has a kind, which entries an entry meets, and that an operator answers Clash exactly where no kind that it takes suits its operands.
use Rattle.std.specs.Prelude.{ℕ, suc, ◌≡◌, Bool, true, false, not, ◌&&◌, ◌||◌, List, [], ◌∷◌, ℤ, T, eqb, Float}
use Rattle.std.specs.Float.Ieee.{fits}
use Rattle.std.specs.Float.{binary64}
use Rattle.plexil.specs.declared.Worked.{Worked}
use Rattle.plexil.specs.declared.Worked.TheVariants.{Clash, Unknown, Bool as Flag, Int, Real}
use Rattle.plexil.specs.Values.{in_range, finite, not_of}
use Rattle.plexil.specs.Image.{Image, operand_a, operand_b}
use Rattle.plexil.specs.Expressions.{Binary, and_op, or_op, eq_op, lt_op, le_op, add_op, sub_op, mul_op, not_op, binary, operator_at, binary_of}

-- the value is Unknown or a known one of kind k, which the kind's range or format holds; a Clash has no kind
pub data Has : ℕ → Worked → Type 0 where
  unknown : {k : ℕ} → Has k Unknown
  bool : {b : Bool} → Has 0 (Flag b)
  int : {z : ℤ} → in_range z ≡ true → Has 1 (Int z)
  real : {x : Float} → finite x ≡ true → T (fits binary64 x) → Has 2 (Real x)

-- working out entry e with d levels left meets entry x with k left
pub data Meets (p : Image) : ℕ → ℕ → ℕ → ℕ → Type 0 where
  itself : {d e : ℕ} → Meets p d e d e
  of_not : {d e k x : ℕ} → operator_at p e ≡ not_op → Meets p d (operand_a p e) k x → Meets p (suc d) e k x
  left_of : {d e k x : ℕ} (o : Binary) → operator_at p e ≡ binary o → Meets p d (operand_a p e) k x → Meets p (suc d) e k x
  right_of : {d e k x : ℕ} (o : Binary) → operator_at p e ≡ binary o → Meets p d (operand_b p e) k x → Meets p (suc d) e k x

-- ---- "meeting another kind is .. an answer of its own"
abbrev pub is_clash : Worked → Bool
is_clash Clash = true
is_clash Unknown = false
is_clash (Flag b) = false
is_clash (Int z) = false
is_clash (Real x) = false

-- the value may stand where kind k is taken
abbrev pub suits : ℕ → Worked → Bool
suits k Clash = false
suits k Unknown = true
suits k (Flag b) = eqb k 0
suits k (Int z) = eqb k 1
suits k (Real x) = eqb k 2

-- one of the kinds suits both
abbrev pub suit : List ℕ → Worked → Worked → Bool
suit [] x y = false
suit (k ∷ ks) x y = (suits k x && suits k y) || suit ks x y

-- "6 to 8 take Bool. 9 takes two of one kind. 10 to 14 take two Int or two Real"
abbrev pub kinds_taken : Binary → List ℕ
kinds_taken and_op = 0 ∷ []
kinds_taken or_op = 0 ∷ []
kinds_taken eq_op = 0 ∷ 1 ∷ 2 ∷ []
kinds_taken lt_op = 1 ∷ 2 ∷ []
kinds_taken le_op = 1 ∷ 2 ∷ []
kinds_taken add_op = 1 ∷ 2 ∷ []
kinds_taken sub_op = 1 ∷ 2 ∷ []
kinds_taken mul_op = 1 ∷ 2 ∷ []

abbrev pub NotClash : Type 0
NotClash = (x : Worked) → is_clash (not_of x) ≡ not (suits 0 x)

abbrev pub BinaryClash : Type 0
BinaryClash = (o : Binary) (x y : Worked) → is_clash (binary_of o x y) ≡ not (suit (kinds_taken o) x y)
