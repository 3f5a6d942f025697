-- After i nodes what is carried is the walk's as far as i.
use Prim.Native.Nat.{ℕ}
use mathlib.Core.Path.{◌≡◌}
use mathlib.Core.Bool.{not}
use Rattle.plexil.specs.Lists.{all_below, renew}
use Rattle.plexil.specs.Lent.{state_lent}
use Rattle.plexil.specs.Atomic.{move_of}
use Rattle.plexil.specs.Micro.{sent as sentOf, stays}
use Rattle.plexil.specs.Order.{walk_to}
use Rattle.plexil.specs.Carried.{carry_in}
use Rattle.visit.proofs.walk.Given as goal

abbrev pub invariant-loop-i : goal.invariant-loop-i
invariant-loop-i l = (l.moved ≡ not (all_below l.i (λ (k : ℕ). stays (move_of l.image (state_lent l.before) k))))
    × (carry_in l.carry ≡ walk_to l.image (state_lent l.before) (carry_in l.initial.carry) l.i)
    × (l.sent ≡ renew l.i (sentOf l.image (state_lent l.before)) l.initial.sent)
