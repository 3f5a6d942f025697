-- The word is sought in the rest of the group.
use Rattle.std.proofs.Common.{length}
use Rattle.words.proofs.Groups.{Sought}
use Rattle.words.proofs.literals.found.Given as goal

abbrev pub invariant-loop-rest : goal.invariant-loop-rest
invariant-loop-rest l = Sought l.group l.t l.rest

abbrev pub decreases-loop-rest : goal.decreases-loop-rest
decreases-loop-rest l = length l.rest
