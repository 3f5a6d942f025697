use Rattle.std.proofs.Common.{◌∙◌, sym}
use borrow.Author.Tests.{eqb-true, eqb-false}
use Rattle.words.proofs.DigitLaws.{number_digits, number-none}
use Rattle.words.proofs.numbers.is_number.Goals as goal

pub returns-then-is_empty : goal.returns-then-is_empty
returns-then-is_empty c = number-none _ (eqb-true _ 0 (sym c.is_empty.ensures ∙ c.if-is_empty.true))

pub returns : goal.returns
returns c = number_digits _ (eqb-false _ 0 (sym c.is_empty.ensures ∙ c.if-is_empty.false)) c.only_digits.ensures
