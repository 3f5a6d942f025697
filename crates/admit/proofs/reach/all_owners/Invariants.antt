-- The table is filled entry after entry.
use Rattle.admit.specs.Owners.{Owned}
use Rattle.admit.proofs.reach.all_owners.Given as goal

abbrev pub invariant-loop-e : goal.invariant-loop-e
invariant-loop-e l = Owned l.image l.e l.owners
