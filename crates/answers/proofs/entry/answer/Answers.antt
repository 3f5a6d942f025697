-- Each return is one law of an entry's answer by its operator's number.
use mathlib.Core.Path.{◌∙◌}
use native.Mathlib.Omega.{arith}
use Rattle.answers.proofs.EntryLaws.{by-leaf, by-not, by-join}
use Rattle.answers.proofs.entry.answer.Goals as goal

pub returns-then-op-lt6 : goal.returns-then-op-lt6
returns-then-op-lt6 c = by-leaf _ _ _ _ c.requires.0 c.byte_at-op.ensures c.if-op-lt6.true c.leaf.ensures

pub returns-then-op-eq6 : goal.returns-then-op-eq6
returns-then-op-eq6 c = c.not_of.ensures
    ∙ by-not _ _ _ _ c.requires.0 c.byte_at-op.ensures c.le16.ensures c.cell_value-x.ensures c.if-op-eq6.true

pub returns : goal.returns
returns c = c.join.ensures
    ∙ by-join _ _ _ _ c.requires.0 c.byte_at-op.ensures c.le16.ensures c.cell_value-x.ensures c.le16-2.ensures c.cell_value-y.ensures
    (omega (arith, c.if-op-lt6.false, c.if-op-eq6.false))
