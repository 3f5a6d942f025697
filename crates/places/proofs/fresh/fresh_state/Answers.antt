-- After v variables the first v cells are made.
use Prim.Native.Nat.{ℕ}
use native.Mathlib.Omega.{arith}
use mathlib.Core.Path.{sym, ap}
use lib.ListN.{length-replicate}
use Rattle.plexil.specs.declared.Cell.{Cell}
use Rattle.plexil.proofs.RenewLaws.{renew-none, stored}
use Rattle.places.proofs.FreshLaws.{all_made}
use Rattle.places.proofs.fresh.fresh_state.Goals as goal

pub loop-v-init : goal.loop-v-init
loop-v-init c = (c.var_count-v-end.ensures, sym (renew-none _ _), sym (renew-none _ _))

pub loop-v-preserved : goal.loop-v-preserved
loop-v-preserved c = (
  c.loop-v.invariant.0,
  stored _ _ _ _ c.loop-v.invariant.1 (omega (arith, length-replicate {A = ℕ} 128 0)) (ap (λ (x : Cell). x.tag) c.initial-c.ensures),
  stored _ _ _ _ c.loop-v.invariant.2 (omega (arith, length-replicate {A = ℕ} 128 0)) (ap (λ (x : Cell). x.bits) c.initial-c.ensures),
)

pub returns : goal.returns
returns c = all_made _ (omega arith) c.loop-v.invariant.1 c.loop-v.invariant.2
