use Rattle.std.proofs.Common.{◌∙◌, sym}
use borrow.Author.Tests.{eqb-true, eqb-false}
use Rattle.words.proofs.DecimalLaws.{fraction-none, fraction-long, fraction-digits}
use Rattle.words.proofs.decimals.is_fraction.Goals as goal

pub returns-then-is_empty : goal.returns-then-is_empty
returns-then-is_empty c = fraction-none _ _ (eqb-true _ 0 (sym c.is_empty.ensures ∙ c.if-is_empty.true))

pub returns-then-k-t : goal.returns-then-k-t
returns-then-k-t c = fraction-long _ _ c.if-k-t.true

pub returns : goal.returns
returns c = fraction-digits _ _ (eqb-false _ 0 (sym c.is_empty.ensures ∙ c.if-is_empty.false)) c.if-k-t.false c.only_digits.ensures
