-- The expressions' section lies low enough that no place of a record overflows.
use native.Mathlib.Omega.{arith}
use Rattle.image.proofs.Laws.{exprs_at-below}
use Rattle.evaluate.proofs.entries.entered.Goals as goal

pub overflow_add-at : goal.overflow_add-at
overflow_add-at c = omega (arith, c.requires, exprs_at-below c.args.image.now c.type_inv.image)

pub leaf-requires : goal.leaf-requires
leaf-requires c = omega (arith, c.requires, exprs_at-below c.args.image.now c.type_inv.image)

pub overflow_add-at-2 : goal.overflow_add-at-2
overflow_add-at-2 c = omega (arith, c.requires, exprs_at-below c.args.image.now c.type_inv.image)

pub overflow_add-at-3 : goal.overflow_add-at-3
overflow_add-at-3 c = omega (arith, c.requires, exprs_at-below c.args.image.now c.type_inv.image)
