-- A letter, and word bytes after it.
use borrow.Author.Tests.{tests}
use Rattle.std.proofs.Common.{◌∙◌, rules}
use Rattle.std.proofs.lemmas.Iterator.{YieldsList-from_slice}
use Rattle.std.proofs.lemmas.Iterator.Search.{all_from_yields_List}
use Rattle.grammar.specs.Spelling.{is_word_byte}
use Rattle.words.proofs.DigitLaws.{words-all, word_none, word-no-letter, word-all}
use Rattle.words.proofs.tokens.is_word.Goals as goal

pub returns-in_default : goal.returns-in_default
returns-in_default c = word_none _ c.in_default.ensures.cases

pub returns-then-not-is_letter : goal.returns-then-not-is_letter
returns-then-not-is_letter c = word-no-letter _ _ _ c.in-Some.ensures.cases.0 c.is_letter.ensures (search (rules, tests))

pub returns : goal.returns
returns c = word-all _ _ _ c.in-Some.ensures.cases.0 c.is_letter.ensures (search (rules, tests))
    (all_from_yields_List is_word_byte _ _ _ c.all.ensures.ran (YieldsList-from_slice c.in-Some.rest.now cc) (λ x r q k. search (rules, tests)) ∙ words-all _)
