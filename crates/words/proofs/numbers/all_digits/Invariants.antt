-- The digits so far are read.
use Rattle.words.proofs.CappedLaws.{Numbered}
use Rattle.words.proofs.numbers.all_digits.Given as goal

abbrev pub invariant-loop-b : goal.invariant-loop-b
invariant-loop-b l = Numbered l.t l.b-index l.n
