-- Below i each place is settled, from i on it is as it was.
use mathlib.Core.Path.{◌≡◌}
use Rattle.plexil.specs.Lists.{renew}
use Rattle.plexil.specs.Image.{node_count}
use Rattle.plexil.specs.Order.{Carry}
use Rattle.settle.proofs.Laws.{losers_get}
use Rattle.settle.proofs.losers.settle_places.Given as goal

abbrev pub invariant-loop-i : goal.invariant-loop-i
invariant-loop-i l = (l.i-end ≡ node_count l.image)
    × ((c : Carry) → c.wrote ≡ l.wrote → c.node ≡ l.node → c.tied ≡ l.tied → c.outcome ≡ l.initial.oc2 → c.failure ≡ l.initial.fl2
    → (l.oc2 ≡ renew l.i (losers_get l.image c 2 c.outcome) c.outcome) × (l.fl2 ≡ renew l.i (losers_get l.image c 5 c.failure) c.failure))
