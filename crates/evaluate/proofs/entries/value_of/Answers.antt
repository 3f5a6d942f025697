-- The loops' invariant: what is pending makes the entry's value of what goes on (`Standing`). The measure: the turns that are left at most.
use mathlib.Core.Path.{refl}
use native.Mathlib.Omega.{arith}
use Rattle.plexil.specs.Expressions.{value_of}
use Rattle.evaluate.specs.Pending.{resumed, ended_of}
use Rattle.evaluate.proofs.Standing.{at-value, below, at-operand, operand-less, at-end, at-ended, at-first, ended-less, first-less}
use Rattle.evaluate.proofs.entries.value_of.Goals as goal

pub down-init : goal.down-init
unfolding resumed value_of
down-init c = record { places = refl; levels = omega arith; answers = refl }

-- ---- an operator waits
pub bounds-pending-n : goal.bounds-pending-n
bounds-pending-n c = below _ _ _ _ c.down.invariant c.entered.ensures c.in-Operand.is

pub down-smaller-in-Operand : goal.down-smaller-in-Operand
down-smaller-in-Operand c = operand-less _ _ _ _ c.down.invariant c.entered.ensures c.in-Operand.is

pub down-preserved-in-Operand : goal.down-preserved-in-Operand
down-preserved-in-Operand c = at-operand _ _ _ _ c.down.invariant c.entered.ensures c.in-Operand.is

-- ---- a value goes up
pub up-init : goal.up-init
up-init c = (at-value _ _ _ _ c.down.invariant c.entered.ensures c.in-Value.is, omega arith)

pub returns-then-n-eq0 : goal.returns-then-n-eq0
returns-then-n-eq0 c = at-end _ _ _ c.up.invariant.0 c.if-n-eq0.true

pub up-smaller-in-Not : goal.up-smaller-in-Not
up-smaller-in-Not c = ended-less _ _ _ c.up.invariant.0 c.if-n-eq0.false

pub up-preserved-in-Not : goal.up-preserved-in-Not
unfolding ended_of
up-preserved-in-Not c = at-ended _ _ _ c.up.invariant.0 c.if-n-eq0.false c.in-Not.is c.not_of-v.ensures c.up.invariant.1

pub up-smaller : goal.up-smaller
up-smaller c = ended-less _ _ _ c.up.invariant.0 c.if-n-eq0.false

pub up-preserved : goal.up-preserved
unfolding ended_of
up-preserved c = at-ended _ _ _ c.up.invariant.0 c.if-n-eq0.false c.in-Second.is c.join-v.ensures c.up.invariant.1

-- ---- an operator waits for its second operand
pub down-smaller : goal.down-smaller
down-smaller c = omega (arith, c.up.invariant.1, first-less _ _ _ c.up.invariant.0 c.if-n-eq0.false c.in-First.is)

pub down-preserved : goal.down-preserved
down-preserved c = at-first _ _ _ c.up.invariant.0 c.if-n-eq0.false c.in-First.is refl
