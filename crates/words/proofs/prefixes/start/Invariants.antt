-- Before place i there are all blanks but `left` of k.
use Rattle.words.proofs.BlankLaws.{Skipped}
use Rattle.words.proofs.prefixes.start.Given as goal

abbrev pub invariant-loop-i : goal.invariant-loop-i
invariant-loop-i l = Skipped l.words l.k l.left l.i
