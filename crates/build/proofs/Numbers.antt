-- Operators by their numbers.
use Prim.Native.Nat.{ℕ, zero, suc, ◌-◌, ◌≤◌, ◌<◌}
use mathlib.Core.Bool.{Bool, true, false, false≢true}
use lib.Dec.{leb, ltb}
use borrow.Author.Tests.{leb-true, ltb-true, ltb-false}
use Rattle.std.proofs.lemmas.List.{get_or_past}
use Rattle.plexil.specs.Lists.{all_in}
use mathlib.Core.Path.{◌≡◌, refl, ◌∙◌, ap}
use mathlib.Core.List.{List, [], ◌∷◌}
use native.Mathlib.Omega.{arith}
use lib.ListN.{get_or}
use Rattle.notation.specs.Sayings.{Operator, disjunction, conjunction, equal, unequal, less, at_most, greater, at_least, plus, minus, times}
use Rattle.notation.specs.Draft.{negation, two}
use Rattle.notation.specs.Hearing.{strength, made}
use Rattle.notation.specs.Mapping.{binary_code, kind_of_binary}
use Rattle.build.specs.Flow.{of_operator}
use Rattle.build.specs.Operators as Operators
use Rattle.build.specs.Operators.{binary_of, first_of, also_not, Binds}

pub operator-range : (o : Operator) → (80 ≤ of_operator o) × (of_operator o ≤ 90)
unfolding of_operator
operator-range disjunction = (omega arith, omega arith)
operator-range conjunction = (omega arith, omega arith)
operator-range equal = (omega arith, omega arith)
operator-range unequal = (omega arith, omega arith)
operator-range less = (omega arith, omega arith)
operator-range at_most = (omega arith, omega arith)
operator-range greater = (omega arith, omega arith)
operator-range at_least = (omega arith, omega arith)
operator-range plus = (omega arith, omega arith)
operator-range minus = (omega arith, omega arith)
operator-range times = (omega arith, omega arith)

pub codes-are : (o : Operator) → get_or (8 ∷ 7 ∷ 9 ∷ 9 ∷ 10 ∷ 11 ∷ 10 ∷ 11 ∷ 12 ∷ 13 ∷ 14 ∷ []) (of_operator o - 80) 0 ≡ binary_code (binary_of o)
unfolding of_operator binary_code binary_of
codes-are disjunction = refl
codes-are conjunction = refl
codes-are equal = refl
codes-are unequal = refl
codes-are less = refl
codes-are at_most = refl
codes-are greater = refl
codes-are at_least = refl
codes-are plus = refl
codes-are minus = refl
codes-are times = refl

pub strengths-are : (o : Operator) → get_or (1 ∷ 2 ∷ 4 ∷ 4 ∷ 4 ∷ 4 ∷ 4 ∷ 4 ∷ 5 ∷ 5 ∷ 6 ∷ []) (of_operator o - 80) 0 ≡ strength o
unfolding of_operator strength
strengths-are disjunction = refl
strengths-are conjunction = refl
strengths-are equal = refl
strengths-are unequal = refl
strengths-are less = refl
strengths-are at_most = refl
strengths-are greater = refl
strengths-are at_least = refl
strengths-are plus = refl
strengths-are minus = refl
strengths-are times = refl

pub code_at : (n : ℕ) (o : Operator) → n ≡ of_operator o → get_or (8 ∷ 7 ∷ 9 ∷ 9 ∷ 10 ∷ 11 ∷ 10 ∷ 11 ∷ 12 ∷ 13 ∷ 14 ∷ []) (n - 80) 0 ≡ binary_code (binary_of o)
code_at n o e = ap (λ x. get_or (8 ∷ 7 ∷ 9 ∷ 9 ∷ 10 ∷ 11 ∷ 10 ∷ 11 ∷ 12 ∷ 13 ∷ 14 ∷ []) (x - 80) 0) e ∙ codes-are o

pub strength-at : (n : ℕ) (o : Operator) → n ≡ of_operator o → get_or (1 ∷ 2 ∷ 4 ∷ 4 ∷ 4 ∷ 4 ∷ 4 ∷ 4 ∷ 5 ∷ 5 ∷ 6 ∷ []) (n - 80) 0 ≡ strength o
strength-at n o e = ap (λ x. get_or (1 ∷ 2 ∷ 4 ∷ 4 ∷ 4 ∷ 4 ∷ 4 ∷ 4 ∷ 5 ∷ 5 ∷ 6 ∷ []) (x - 80) 0) e ∙ strengths-are o

all_most : (l : List ℕ) (i : ℕ) → all_in (λ x. leb x 6) l ≡ true → get_or l i 0 ≤ 6
unfolding all_in
all_most [] i h = omega arith
all_most (x ∷ l) i h = go (leb x 6) refl i (all_most l)
  where
    go : (b : Bool) → leb x 6 ≡ b → (i : ℕ) → ((i : ℕ) → all_in (λ x. leb x 6) l ≡ true → get_or l i 0 ≤ 6) → get_or (x ∷ l) i 0 ≤ 6
    go true e zero ih = leb-true x 6 e
    go true e (suc i) ih = ih i (rw (e, all_in) at h)
    go false e i ih = absurd (false≢true (rw (e, all_in) at h))

pub strength-most : (i : ℕ) → get_or (1 ∷ 2 ∷ 4 ∷ 4 ∷ 4 ∷ 4 ∷ 4 ∷ 4 ∷ 5 ∷ 5 ∷ 6 ∷ []) i 0 ≤ 6
unfolding all_in
strength-most i = all_most (1 ∷ 2 ∷ 4 ∷ 4 ∷ 4 ∷ 4 ∷ 4 ∷ 4 ∷ 5 ∷ 5 ∷ 6 ∷ []) i refl

-- the strength of what is said stands in its row
pub row-binds : (says r : ℕ) → (80 ≤ says → r ≡ get_or (1 ∷ 2 ∷ 4 ∷ 4 ∷ 4 ∷ 4 ∷ 4 ∷ 4 ∷ 5 ∷ 5 ∷ 6 ∷ []) (says - 80) 0) → (says < 80 → r ≡ 0) → Binds says r
row-binds says r inside before = record {
  tells = λ o e. inside (omega (arith, operator-range o)) ∙ strength-at says o e;
  most = go (ltb says 80) refl;
  none = λ h. inside (omega arith) ∙ get_or_past (1 ∷ 2 ∷ 4 ∷ 4 ∷ 4 ∷ 4 ∷ 4 ∷ 4 ∷ 5 ∷ 5 ∷ 6 ∷ []) (says - 80) 0 (omega arith);
}
  where
    go : (b : Bool) → ltb says 80 ≡ b → r ≤ 6
    go true e = omega (arith, before (ltb-true says 80 e))
    go false e = rw (inside (omega (arith, ltb-false says 80 e))) (strength-most (says - 80))

pub swapped : (o : Operator) (a b n : ℕ) → n ≡ of_operator o → 86 ≤ n → n ≤ 87 → b ≡ first_of o a b
unfolding of_operator first_of
swapped disjunction a b n e h k = absurd (omega arith)
swapped conjunction a b n e h k = absurd (omega arith)
swapped equal a b n e h k = absurd (omega arith)
swapped unequal a b n e h k = absurd (omega arith)
swapped less a b n e h k = absurd (omega arith)
swapped at_most a b n e h k = absurd (omega arith)
swapped greater a b n e h k = refl
swapped at_least a b n e h k = refl
swapped plus a b n e h k = absurd (omega arith)
swapped minus a b n e h k = absurd (omega arith)
swapped times a b n e h k = absurd (omega arith)

pub unswapped : (o : Operator) (a b n : ℕ) → n ≡ of_operator o → (n ≡ 86 → ⊥) → (n ≡ 87 → ⊥) → a ≡ first_of o a b
unfolding of_operator first_of
unswapped disjunction a b n e h k = refl
unswapped conjunction a b n e h k = refl
unswapped equal a b n e h k = refl
unswapped unequal a b n e h k = refl
unswapped less a b n e h k = refl
unswapped at_most a b n e h k = refl
unswapped greater a b n e h k = absurd (h e)
unswapped at_least a b n e h k = absurd (k e)
unswapped plus a b n e h k = refl
unswapped minus a b n e h k = refl
unswapped times a b n e h k = refl

-- what an operator makes: an entry of two operands, and for "!=" its negation
pub made-two : (o : Operator) (a b n : ℕ) → made o a b n ≡ two (binary_of o) (first_of o a b) (first_of o b a) ∷ also_not o n
unfolding made Operators.opened
made-two disjunction a b n = refl
made-two conjunction a b n = refl
made-two equal a b n = refl
made-two unequal a b n = refl
made-two less a b n = refl
made-two at_most a b n = refl
made-two greater a b n = refl
made-two at_least a b n = refl
made-two plus a b n = refl
made-two minus a b n = refl
made-two times a b n = refl

pub made-not : (o : Operator) (n k : ℕ) → k ≡ of_operator o → k ≡ 83 → also_not o n ≡ negation n ∷ []
unfolding of_operator also_not
made-not disjunction n k e h = absurd (omega arith)
made-not conjunction n k e h = absurd (omega arith)
made-not equal n k e h = absurd (omega arith)
made-not unequal n k e h = refl
made-not less n k e h = absurd (omega arith)
made-not at_most n k e h = absurd (omega arith)
made-not greater n k e h = absurd (omega arith)
made-not at_least n k e h = absurd (omega arith)
made-not plus n k e h = absurd (omega arith)
made-not minus n k e h = absurd (omega arith)
made-not times n k e h = absurd (omega arith)

pub made_one : (o : Operator) (n k : ℕ) → k ≡ of_operator o → (k ≡ 83 → ⊥) → also_not o n ≡ []
unfolding of_operator also_not
made_one disjunction n k e h = refl
made_one conjunction n k e h = refl
made_one equal n k e h = refl
made_one unequal n k e h = absurd (h e)
made_one less n k e h = refl
made_one at_most n k e h = refl
made_one greater n k e h = refl
made_one at_least n k e h = refl
made_one plus n k e h = refl
made_one minus n k e h = refl
made_one times n k e h = refl

-- "3 to 11 give Bool"
pub no_kind : (o : Operator) (k : ℕ) → binary_code (binary_of o) < 12 → kind_of_binary (binary_of o) k ≡ 0
unfolding binary_code binary_of kind_of_binary
no_kind disjunction k h = refl
no_kind conjunction k h = refl
no_kind equal k h = refl
no_kind unequal k h = refl
no_kind less k h = refl
no_kind at_most k h = refl
no_kind greater k h = refl
no_kind at_least k h = refl
no_kind plus k h = absurd (omega arith)
no_kind minus k h = absurd (omega arith)
no_kind times k h = absurd (omega arith)

pub kept-kind : (o : Operator) (k : ℕ) → 12 ≤ binary_code (binary_of o) → kind_of_binary (binary_of o) k ≡ k
unfolding binary_code binary_of kind_of_binary
kept-kind disjunction k h = absurd (omega arith)
kept-kind conjunction k h = absurd (omega arith)
kept-kind equal k h = absurd (omega arith)
kept-kind unequal k h = absurd (omega arith)
kept-kind less k h = absurd (omega arith)
kept-kind at_most k h = absurd (omega arith)
kept-kind greater k h = absurd (omega arith)
kept-kind at_least k h = absurd (omega arith)
kept-kind plus k h = refl
kept-kind minus k h = refl
kept-kind times k h = refl

-- the kind is that of the left operand, where one is kept
pub kind-first : (o : Operator) (f : ℕ → ℕ) (a b : ℕ) → kind_of_binary (binary_of o) (f a) ≡ kind_of_binary (binary_of o) (f (first_of o a b))
unfolding binary_of kind_of_binary first_of
kind-first disjunction f a b = refl
kind-first conjunction f a b = refl
kind-first equal f a b = refl
kind-first unequal f a b = refl
kind-first less f a b = refl
kind-first at_most f a b = refl
kind-first greater f a b = refl
kind-first at_least f a b = refl
kind-first plus f a b = refl
kind-first minus f a b = refl
kind-first times f a b = refl
