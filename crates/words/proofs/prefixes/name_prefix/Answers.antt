use Rattle.std.proofs.Common.{◌∙◌, sym}
use borrow.Author.Tests.{eqb-true, eqb-false}
use Rattle.words.proofs.RunLaws.{name-none, name-all, name-not}
use Rattle.words.proofs.prefixes.name_prefix.Goals as goal

pub returns-then-is_empty : goal.returns-then-is_empty
returns-then-is_empty c = name-none _ (eqb-true _ 0 (sym c.is_empty.ensures ∙ c.if-is_empty.true))

pub returns-then-is_letter : goal.returns-then-is_letter
returns-then-is_letter c = name-all _ (eqb-false _ 0 (sym c.is_empty.ensures ∙ c.if-is_empty.false)) c.is_letter.ensures c.if-is_letter.true

pub returns-else-is_letter : goal.returns-else-is_letter
returns-else-is_letter c = name-not _ (eqb-false _ 0 (sym c.is_empty.ensures ∙ c.if-is_empty.false)) c.is_letter.ensures c.if-is_letter.false
