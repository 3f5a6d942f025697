-- `words::number_of` meets its contract. Assumes nothing.
use Rattle.words.proofs.CappedLaws.{number-told}
use Rattle.words.proofs.numbers.number_of.Goals as goal

pub returns : goal.returns
returns c = number-told _ c.all_digits.ensures
