-- The first i bytes are alike, and no blanks.
use Rattle.words.proofs.BlankLaws.{Common}
use Rattle.words.proofs.prefixes.common.Given as goal

abbrev pub invariant-loop-i : goal.invariant-loop-i
invariant-loop-i l = Common l.words l.t l.i
