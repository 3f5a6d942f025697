-- What is to be heard at the cursor is still to be heard where the loop stands, and each token lies further on.
use Prim.Native.Nat.{◌-◌}
use lib.ListN.{length}
use Rattle.recognise.proofs.Advances.{Kept}
use Rattle.recognise.proofs.taking.advance.Given as goal

abbrev pub invariant-loop-t : goal.invariant-loop-t
invariant-loop-t l = Kept l.text l.initial.at l.initial.ahead l.at l.ahead

abbrev pub decreases-loop-t : goal.decreases-loop-t
decreases-loop-t l = length l.text - l.at
