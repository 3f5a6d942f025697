-- The first i bytes are digits, and write n.
use Rattle.words.proofs.RunLaws.{Bounded}
use Rattle.words.proofs.prefixes.number_prefix.Given as goal

abbrev pub invariant-loop-i : goal.invariant-loop-i
invariant-loop-i l = Bounded l.t l.bound l.n l.i
