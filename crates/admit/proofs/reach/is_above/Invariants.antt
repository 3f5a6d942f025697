-- One node up in each turn.
use Prim.Native.Nat.{◌-◌}
use mathlib.Core.Path.{◌≡◌}
use Rattle.plexil.specs.Scope.{is_above}
use Rattle.admit.proofs.reach.is_above.Given as goal

abbrev pub invariant-loop : goal.invariant-loop
invariant-loop l = is_above l.image l.left l.owner l.fn.i ≡ is_above l.image (l.left - l.counter) l.owner l.i
