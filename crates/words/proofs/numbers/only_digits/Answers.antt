-- The bytes from `at` on, of which there are none past the end.
use borrow.Author.Tests.{tests}
use Rattle.std.proofs.Common.{◌-◌, length, take, drop, ◌∙◌, rules}
use Rattle.std.proofs.lemmas.Iterator.{YieldsList-from_slice}
use Rattle.std.proofs.lemmas.Iterator.Search.{all_from_yields_List}
use Rattle.grammar.specs.Spelling.{is_digit}
use Rattle.words.proofs.DigitLaws.{digits-all, digits-from}
use Rattle.words.proofs.numbers.only_digits.Goals as goal

pub returns : goal.returns
returns c = let t = c.args.t.now in let from = c.min-from.result in
    all_from_yields_List is_digit _ _ _ c.all.ensures.ran (YieldsList-from_slice (take (length t - from) (drop from t)) cc) (λ x r q k. search (rules, tests))
    ∙ digits-all _ ∙ digits-from t c.args.at from c.min-from.ensures
