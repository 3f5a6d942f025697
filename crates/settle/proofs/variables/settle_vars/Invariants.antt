-- Below v each variable is settled, from v on it is as it was, so that cell v is read before it is stored.
use mathlib.Core.Path.{◌≡◌}
use Rattle.plexil.specs.declared.State.{State}
use Rattle.plexil.specs.Lists.{renew}
use Rattle.plexil.specs.Image.{var_count}
use Rattle.plexil.specs.Order.{Carry, settled_var}
use Rattle.settle.proofs.variables.settle_vars.Given as goal

abbrev pub invariant-loop-v : goal.invariant-loop-v
invariant-loop-v l = (l.v-end ≡ var_count l.image)
    × ((s : State) (c : Carry) → s.status ≡ l.st → c.status ≡ l.st2 → c.top ≡ l.top → c.tags ≡ l.tags → c.bits ≡ l.bits → c.tied ≡ l.tied
    → s.vartags ≡ l.initial.vt → s.varbits ≡ l.initial.vb
    → (l.vt ≡ renew l.v (λ j. (settled_var l.image s c j).tag) s.vartags) × (l.vb ≡ renew l.v (λ j. (settled_var l.image s c j).bits) s.varbits))
