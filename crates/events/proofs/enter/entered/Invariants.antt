-- The entries below k are entered.
use mathlib.Core.Path.{◌≡◌}
use Rattle.plexil.specs.Macro.{entered}
use Rattle.events.proofs.enter.entered.Given as goal

abbrev pub invariant-loop-k : goal.invariant-loop-k
invariant-loop-k l = l.t ≡ entered l.image l.event l.k l.fn.state
