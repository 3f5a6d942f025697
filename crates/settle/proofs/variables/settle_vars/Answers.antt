-- Below v each variable is settled, from v on it is as it was, so that cell v is read before it is stored.
use Prim.Native.Nat.{◌<◌}
use mathlib.Core.Path.{◌≡◌, sym, ap, ap₂, ◌∙◌}
use native.Mathlib.Omega.{arith}
use lib.ListN.{length}
use Rattle.plexil.specs.declared.Cell.{Cell}
use Rattle.plexil.specs.Values.{cell}
use Rattle.plexil.specs.Places.{var_cell}
use Rattle.plexil.specs.Order.{settled_var, settle}
use Rattle.plexil.proofs.RenewLaws.{renew-none, unread, stored, whole}
use Rattle.plexil.proofs.Admitted.{few-vars}
use Rattle.settle.proofs.variables.settle_vars.Goals as goal

pub loop-v-init : goal.loop-v-init
loop-v-init c = (c.var_count-v-end.ensures, λ s k h g t a b d x y. (sym (renew-none _ _ ∙ x), sym (renew-none _ _ ∙ y)))

pub bounds-vt-k : goal.bounds-vt-k
bounds-vt-k c = omega (arith, few-vars _ c.requires, c.var_count-v-end.ensures)

pub bounds-vb-k : goal.bounds-vb-k
bounds-vb-k c = omega (arith, few-vars _ c.requires, c.var_count-v-end.ensures)

pub bounds-vt-k-in-loop-v : goal.bounds-vt-k-in-loop-v
bounds-vt-k-in-loop-v c = omega (arith, few-vars _ c.requires, c.var_count-v-end.ensures)

pub bounds-vb-k-in-loop-v : goal.bounds-vb-k-in-loop-v
bounds-vb-k-in-loop-v c = omega (arith, few-vars _ c.requires, c.var_count-v-end.ensures)

pub loop-v-preserved : goal.loop-v-preserved
unfolding var_cell
loop-v-preserved c = (
  c.loop-v.invariant.0,
  λ s k h g t a b d x y.
      let v = c.loop-v.v in
      let u = c.loop-v.invariant.1 s k h g t a b d x y in
      let lt : v < length s.vartags = omega (arith, few-vars _ c.requires, c.told-vt, ap length x, c.var_count-v-end.ensures, c.loop-v-test.true) in
      let lb : v < length s.varbits = omega (arith, few-vars _ c.requires, c.told-vb, ap length y, c.var_count-v-end.ensures, c.loop-v-test.true) in
      let r : c.settled_var-new.result ≡ settled_var c.args.image.now s k v =
      c.settled_var-new.ensures s k h g t a b d (ap₂ cell (unread _ _ _ _ u.0) (unread _ _ _ _ u.1)) in
      (stored _ _ _ _ u.0 lt (ap (λ (z : Cell). z.tag) r), stored _ _ _ _ u.1 lb (ap (λ (z : Cell). z.bits) r)),
)

pub returns : goal.returns
unfolding settle
returns c = λ s k h g t a b d x y. let u = c.loop-v.invariant.1 s k h g t a b d x y in (whole _ _ _ _ u.0 (omega arith), whole _ _ _ _ u.1 (omega arith))
