-- The check's tests of an expression's tree, by its operator.
use Prim.Native.Nat.{ℕ, zero, suc}
use mathlib.Core.Path.{◌≡◌, refl, ◌∙◌, ap}
use mathlib.Core.Bool.{Bool, true, false}
use mathlib.Core.List.{List, [], ◌∷◌}
use native.Mathlib.Omega.{arith}
use borrow.Author.Tests.{leb-true}
use lib.Dec.{eqb, leb}
use Rattle.plexil.specs.declared.Condition.{Condition}
use Rattle.plexil.specs.declared.Condition.TheVariants.{Skip, Start, Pre, Inv, End, Post, Repeat}
use Rattle.plexil.specs.Lists as Lists
use Rattle.plexil.specs.Lists.{when◌then◌else◌, every}
use Rattle.plexil.specs.Image as Image
use Rattle.plexil.specs.Expressions.{operator_at, operator_of}
use Rattle.plexil.specs.Scope.{operands_pass, in_scope, entry_in_scope, tree_in_scope}
use Rattle.notation.specs.Draft.{Binary, or, and, eq, lt, le, add, sub, mul}
use Rattle.notation.specs.Mapping.{binary_code}

pub seven-true : {f : Condition → Bool} → ((c : Condition) → f c ≡ true) → every (f Skip ∷ f Start ∷ f Pre ∷ f Inv ∷ f End ∷ f Post ∷ f Repeat ∷ []) ≡ true
unfolding every when◌then◌else◌
seven-true h = rw (h Skip, h Start, h Pre, h Inv, h End, h Post, h Repeat) refl

pub every-both : (a b : Bool) → a ≡ true → b ≡ true → every (a ∷ (b ∷ [])) ≡ true
unfolding every when◌then◌else◌
every-both a b x y = rw (x, y) refl

pub some-second : (a b : Bool) → b ≡ true → Lists.some (a ∷ (b ∷ [])) ≡ true
unfolding Lists.some when◌then◌else◌
some-second true b e = refl
some-second false b e = rw e refl

pub tree-true : (p : List ℕ) (i k e : ℕ) → entry_in_scope p i e ≡ true → operands_pass (operator_at p e) p e (tree_in_scope p i k) ≡ true → tree_in_scope p i (suc k) e ≡ true
unfolding tree_in_scope
tree-true p i k e x y = every-both _ _ x y

pub other-entry : (p : List ℕ) (i e w : ℕ) → Image.operator p e ≡ w → eqb w 1 ≡ false → entry_in_scope p i e ≡ true
unfolding entry_in_scope Lists.some when◌then◌else◌
other-entry p i e w o n = rw (o, n) refl

pub variable-entry : (p : List ℕ) (i e : ℕ) → in_scope p i (Image.operand_a p e) ≡ true → entry_in_scope p i e ≡ true
unfolding entry_in_scope
variable-entry p i e h = some-second _ _ h

pub ops-leaf : (p : List ℕ) (e w : ℕ) (f : ℕ → Bool) → Image.operator p e ≡ w → leb w 5 ≡ true → operands_pass (operator_at p e) p e f ≡ true
unfolding operator_at
ops-leaf p e w f o l = ap (λ (z : ℕ). operands_pass (operator_of z) p e f) o ∙ go w l
  where
    go : (w : ℕ) → leb w 5 ≡ true → operands_pass (operator_of w) p e f ≡ true
    go zero l = unfold operator_of operands_pass in refl
    go (suc zero) l = unfold operator_of operands_pass in refl
    go (suc (suc zero)) l = unfold operator_of operands_pass in refl
    go (suc (suc (suc zero))) l = unfold operator_of operands_pass in refl
    go (suc (suc (suc (suc zero)))) l = unfold operator_of operands_pass in refl
    go (suc (suc (suc (suc (suc zero))))) l = unfold operator_of operands_pass in refl
    go (suc (suc (suc (suc (suc (suc w)))))) l = absurd (omega (arith, leb-true (suc (suc (suc (suc (suc (suc w)))))) 5 l))

pub ops-not : (p : List ℕ) (e : ℕ) (f : ℕ → Bool) → Image.operator p e ≡ 6 → operands_pass (operator_at p e) p e f ≡ f (Image.operand_a p e)
unfolding operator_at operator_of operands_pass
ops-not p e f o = ap (λ (z : ℕ). operands_pass (operator_of z) p e f) o

pub ops-two : (p : List ℕ) (e : ℕ) (t : Binary) (f : ℕ → Bool) → Image.operator p e ≡ binary_code t → operands_pass (operator_at p e) p e f ≡ every (f (Image.operand_a p e) ∷ f (Image.operand_b p e) ∷ [])
unfolding operator_at operator_of operands_pass binary_code
ops-two p e or f o = ap (λ (z : ℕ). operands_pass (operator_of z) p e f) o
ops-two p e and f o = ap (λ (z : ℕ). operands_pass (operator_of z) p e f) o
ops-two p e eq f o = ap (λ (z : ℕ). operands_pass (operator_of z) p e f) o
ops-two p e lt f o = ap (λ (z : ℕ). operands_pass (operator_of z) p e f) o
ops-two p e le f o = ap (λ (z : ℕ). operands_pass (operator_of z) p e f) o
ops-two p e add f o = ap (λ (z : ℕ). operands_pass (operator_of z) p e f) o
ops-two p e sub f o = ap (λ (z : ℕ). operands_pass (operator_of z) p e f) o
ops-two p e mul f o = ap (λ (z : ℕ). operands_pass (operator_of z) p e f) o

pub not-one : (t : Binary) → eqb (binary_code t) 1 ≡ false
unfolding binary_code
not-one or = refl
not-one and = refl
not-one eq = refl
not-one lt = refl
not-one le = refl
not-one add = refl
not-one sub = refl
not-one mul = refl
