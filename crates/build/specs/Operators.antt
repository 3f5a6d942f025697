-- What the operators between two operands are in the image: "`a > b` is `b < a`, `a != b` is NOT of EQ".
use Rattle.std.specs.Prelude.{ℕ, ◌≡◌, List, [], ◌∷◌, ◌++◌, ◌≤◌, ◌<◌, length, get_or}
use Rattle.notation.specs.Sayings.{Operator, disjunction, conjunction, equal, unequal, less, at_most, greater, at_least, plus, minus, times}
use Rattle.notation.specs.Draft.{Entry, negation, Binary, or, and, eq, lt, le, add, sub, mul}
use Rattle.notation.specs.Hearing.{made, last, strength}
use Rattle.notation.specs.Mapping.{binary_code, kind_of_binary}
use Rattle.build.specs.Flow.{of_operator}
use Rattle.build.specs.Standing.{Scene, Stands, kinds_after, most_bytes}

unfoldable pub binary_of : Operator → Binary
binary_of disjunction = or
binary_of conjunction = and
binary_of equal = eq
binary_of unequal = eq
binary_of less = lt
binary_of at_most = le
binary_of greater = lt
binary_of at_least = le
binary_of plus = add
binary_of minus = sub
binary_of times = mul

-- the first operand of the entry
unfoldable pub first_of : Operator → ℕ → ℕ → ℕ
first_of disjunction a b = a
first_of conjunction a b = a
first_of equal a b = a
first_of unequal a b = a
first_of less a b = a
first_of at_most a b = a
first_of greater a b = b
first_of at_least a b = b
first_of plus a b = a
first_of minus a b = a
first_of times a b = a

unfoldable pub also_not : Operator → ℕ → List Entry
also_not disjunction n = []
also_not conjunction n = []
also_not equal n = []
also_not unequal n = negation n ∷ []
also_not less n = []
also_not at_most n = []
also_not greater n = []
also_not at_least n = []
also_not plus n = []
also_not minus n = []
also_not times n = []

-- a function of an operator's number answers what f says of the operator
abbrev pub Tells : (Operator → ℕ) → ℕ → ℕ → Type 0
Tells f says r = (o : Operator) → says ≡ of_operator o → r ≡ f o

-- how strongly the operator of that number binds; at most 6, and 0 past the operators
pub record Binds (says r : ℕ) : Type 0 where
  pub tells : Tells strength says r
  pub most : r ≤ 6
  pub none : 90 < says → r ≡ 0

-- the kind that an operator with the operand a keeps
abbrev pub KindOf : ℕ → ℕ → ℕ → List ℕ → ℕ → Type 0
KindOf base op a image r =
    (s : Scene) (es : List Entry) (n : ℕ) (o : Operator) → length s.under ≡ most_bytes → base ≤ 6164 → Stands s base image es n → a < length es → length es ≤ 2048
    → op ≡ binary_code (binary_of o) → r ≡ kind_of_binary (binary_of o) (get_or (kinds_after s.whole [] es) a 0)

-- the operator with its left operand a ends
abbrev pub Ends : ℕ → ℕ → ℕ → ℕ → List ℕ → ℕ → List ℕ → Type 0
Ends base n says a image r after =
    (s : Scene) (es : List Entry) (o : Operator) → length s.under ≡ most_bytes → base ≤ 6164 → Stands s base image es n → a < length es
    → length (es ++ made o a (last es) (length es)) ≤ 2048 → says ≡ of_operator o → Stands s base after (es ++ made o a (last es) (length es)) r

-- opens every definition of this file
unfoldable pub opened : Unit {0}
unfolding binary_of first_of also_not
opened = tt
