use borrow.Author.Tests.{tests}
use Rattle.std.proofs.Common.{rules}
use Rattle.words.proofs.SignedLaws.{bits-plus, bits-minus}
use Rattle.words.proofs.numbers.signed_bits.Goals as goal

pub returns-then-not-negative : goal.returns-then-not-negative
returns-then-not-negative c = λ _. bits-plus _ _ (search (rules, tests))

pub returns : goal.returns
returns c = λ _. bits-minus _ _ (search (rules, tests))
