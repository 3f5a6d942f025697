-- A variable asks for its owner, an operator for what its operands ask.
use Prim.Native.Nat.{ℕ, ◌+◌, ◌≤◌, ◌<◌}
use mathlib.Core.Path.{◌≡◌, ap, subst, ◌∙◌}
use mathlib.Core.List.{List}
use native.Mathlib.Omega.{arith}
use lib.ListN.{get_or}
use Rattle.plexil.specs.Image.{Image, expr_count, owner, operator, operand_a, operand_b}
use Rattle.admit.specs.Owners.{Asks, Asked, Ordered, Owned}
use Rattle.admit.proofs.OwnerLaws.{few-nodes, few-entries, operand-lower, second-operand-lower, variable-owner, asks-variable, asks_nothing, asks-not, asks_both}
use Rattle.admit.proofs.owners.asked.Goals as goal

-- the operands of entry e, read as a and b
module _ {p : Image} {e : ℕ} {t : List ℕ} (pre : Ordered p × ((e < expr_count p) × Owned p e t)) {op a : ℕ} (is : op ≡ operator p e) (is-a : a ≡ operand_a p e) (from : 6 ≤ op) where
  first_below : a < e
  first_below = omega (arith, operand-lower p pre.0 e pre.1.0 is from)

  first-within : a < 2048
  first-within = omega (arith, first_below, few-entries p pre.0, pre.1.0)

  first-asks : Asks p (operand_a p e) (get_or t a 0)
  first-asks = subst (λ (k : ℕ). Asks p k (get_or t a 0)) is-a (pre.1.1.asks a first_below)

  first-asked : Asked p (get_or t a 0)
  first-asked = pre.1.1.asked a first_below

module _ {p : Image} {e : ℕ} {t : List ℕ} (pre : Ordered p × ((e < expr_count p) × Owned p e t)) {op b : ℕ} (is : op ≡ operator p e) (is_b : b ≡ operand_b p e) (from : 6 ≤ op) (other : op ≡ 6 → ⊥) where
  second_below : b < e
  second_below = omega (arith, second-operand-lower p pre.0 e pre.1.0 is from other)

  second-within : b < 2048
  second-within = omega (arith, second_below, few-entries p pre.0, pre.1.0)

  second-asks : Asks p (operand_b p e) (get_or t b 0)
  second-asks = subst (λ (k : ℕ). Asks p k (get_or t b 0)) is_b (pre.1.1.asks b second_below)

  second-asked : Asked p (get_or t b 0)
  second-asked = pre.1.1.asked b second_below

-- the variable's owner, read as r
owner-fits : (p : Image) (o : Ordered p) (e : ℕ) → e < expr_count p → {op a r : ℕ} → op ≡ operator p e → op ≡ 1 → a ≡ operand_a p e → r ≡ owner p a → r < 256
owner-fits p o e b is h ea er = omega (arith, er ∙ ap (owner p) ea, variable-owner p o e b is h, few-nodes p o)

owner-read : (p : Image) (e : ℕ) {a r : ℕ} → a ≡ operand_a p e → r ≡ owner p a → r + 1 ≡ owner p (operand_a p e) + 1
owner-read p e ea er = ap (λ (k : ℕ). k + 1) (er ∙ ap (owner p) ea)

pub overflow_add-result : goal.overflow_add-result
overflow_add-result c = omega (arith, owner-fits _ c.requires.ordered _ c.requires.e_bound c.operator-operator.ensures c.if-operator-eq1.true c.operand_a-a.ensures c.owner.ensures)

pub returns-then-operator-eq1 : goal.returns-then-operator-eq1
returns-then-operator-eq1 c = let r = asks-variable _ c.requires.ordered _ c.requires.e_bound c.operator-operator.ensures c.if-operator-eq1.true _ (owner-read _ _ c.operand_a-a.ensures c.owner.ensures) in record { asked = r.0; asks = r.1 }

pub returns-then-operator-lt6 : goal.returns-then-operator-lt6
returns-then-operator-lt6 c = let r = asks_nothing _ c.requires.ordered _ c.requires.e_bound c.operator-operator.ensures c.if-operator-lt6.true c.if-operator-eq1.false in record { asked = r.0; asks = r.1 }

pub bounds-owners-a : goal.bounds-owners-a
bounds-owners-a c = first-within (c.requires.ordered, (c.requires.e_bound, c.requires.owned)) c.operator-operator.ensures c.operand_a-a.ensures c.if-operator-lt6.false

pub returns-then-operator-eq6 : goal.returns-then-operator-eq6
returns-then-operator-eq6 c = record { asked = first-asked (c.requires.ordered, (c.requires.e_bound, c.requires.owned)) c.operator-operator.ensures c.operand_a-a.ensures c.if-operator-lt6.false; asks = asks-not _ c.requires.ordered _ c.requires.e_bound c.operator-operator.ensures c.if-operator-eq6.true _ (first-asks (c.requires.ordered, (c.requires.e_bound, c.requires.owned)) c.operator-operator.ensures c.operand_a-a.ensures c.if-operator-lt6.false) }

pub bounds-owners-b : goal.bounds-owners-b
bounds-owners-b c = second-within (c.requires.ordered, (c.requires.e_bound, c.requires.owned)) c.operator-operator.ensures c.operand_b-b.ensures c.if-operator-lt6.false c.if-operator-eq6.false

pub both-requires : goal.both-requires
both-requires c = record { ordered = c.requires.ordered; asked = first-asked (c.requires.ordered, (c.requires.e_bound, c.requires.owned)) c.operator-operator.ensures c.operand_a-a.ensures c.if-operator-lt6.false; asked_2 = second-asked (c.requires.ordered, (c.requires.e_bound, c.requires.owned)) c.operator-operator.ensures c.operand_b-b.ensures c.if-operator-lt6.false c.if-operator-eq6.false }

pub returns : goal.returns
returns c = record { asked = c.both.ensures.asked_3; asks = asks_both _ c.requires.ordered _ c.requires.e_bound c.operator-operator.ensures c.if-operator-lt6.false c.if-operator-eq6.false _ _ _ (first-asks (c.requires.ordered, (c.requires.e_bound, c.requires.owned)) c.operator-operator.ensures c.operand_a-a.ensures c.if-operator-lt6.false) (second-asks (c.requires.ordered, (c.requires.e_bound, c.requires.owned)) c.operator-operator.ensures c.operand_b-b.ensures c.if-operator-lt6.false c.if-operator-eq6.false) c.both.ensures.by_index }
