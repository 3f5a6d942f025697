-- The row is told where the tests of its place hold.
use Rattle.recognise.specs.Replies.{row_told}
use Rattle.recognise.proofs.Rowing.{base-small, row-past, row-unclassed, row_other, row-own}
use Rattle.recognise.proofs.Stepped.{none-told}
use native.Mathlib.Omega.{arith}
use mathlib.Core.Path.{◌∙◌, ap}
use Rattle.recognise.proofs.tables.row_of.Goals as goal

pub returns-then-at-ge78 : goal.returns-then-at-ge78
returns-then-at-ge78 c = none-told ∙ ap row_told (row-past _ _ c.if-at-ge78.true)

pub returns-then-class-ge76 : goal.returns-then-class-ge76
returns-then-class-ge76 c = none-told ∙ ap row_told (row-unclassed _ _ c.if-at-ge78.false c.if-class-ge76.true)

pub owner-requires : goal.owner-requires
owner-requires c = omega (arith, base-small c.args.at, c.base.ensures)

pub returns-then-owner-at : goal.returns-then-owner-at
returns-then-owner-at c = none-told ∙ ap row_told (row_other _ _ c.if-at-ge78.false c.if-class-ge76.false c.base.ensures c.owner.ensures c.if-owner-at.true)

pub row_at-requires : goal.row_at-requires
row_at-requires c = omega (arith, base-small c.args.at, c.base.ensures)

pub returns : goal.returns
returns c = c.row_at.ensures ∙ ap row_told (row-own _ _ c.if-at-ge78.false c.if-class-ge76.false c.base.ensures c.owner.ensures c.if-owner-at.false)
