-- Below i each place is settled, from i on it is as it was.
use Prim.Native.Nat.{◌<◌}
use mathlib.Core.Path.{◌≡◌, sym, ap, ◌∙◌}
use native.Mathlib.Omega.{arith}
use lib.ListN.{length}
use Rattle.plexil.specs.Order.{lost, settle}
use Rattle.plexil.proofs.ListLaws.{if-true, if-false}
use Rattle.plexil.proofs.RenewLaws.{renew-none, stored, kept, whole}
use Rattle.plexil.proofs.Admitted.{few-nodes}
use Rattle.settle.proofs.losers.settle_places.Goals as goal
use Rattle.settle.proofs.losers.settle_places.Goals.{then-lost, else-lost}

pub loop-i-init : goal.loop-i-init
loop-i-init c = (c.node_count-i-end.ensures, λ k w n t o f. (sym (renew-none _ _ ∙ o), sym (renew-none _ _ ∙ f)))

pub bounds-oc2-i : goal.bounds-oc2-i
bounds-oc2-i c = omega (arith, few-nodes _ c.requires, c.node_count-i-end.ensures)

pub bounds-fl2-i : goal.bounds-fl2-i
bounds-fl2-i c = omega (arith, few-nodes _ c.requires, c.node_count-i-end.ensures)

pub loop-i-preserved : goal.loop-i-preserved
loop-i-preserved c = (
  c.loop-i.invariant.0,
  λ k w n t o f.
      let i = c.loop-i.i in
      let u = c.loop-i.invariant.1 k w n t o f in
      let lo : i < length k.outcome = omega (arith, few-nodes _ c.requires, c.told-oc2, ap length o, c.node_count-i-end.ensures, c.loop-i-test.true) in
      let lf : i < length k.failure = omega (arith, few-nodes _ c.requires, c.told-fl2, ap length f, c.node_count-i-end.ensures, c.loop-i-test.true) in
      let l : lost c.args.image.now k i ≡ c.lost.result = sym (c.lost.ensures k w n t) in
      elim c.if-lost.branch [
        | then-lost w ↦ (w.oc2-is ∙ stored _ _ _ _ u.0 lo (sym (if-true _ _ _ (l ∙ w.if-lost.true))), w.fl2-is ∙ stored _ _ _ _ u.1 lf (sym (if-true _ _ _ (l ∙ w.if-lost.true))))
        | else-lost w ↦ (w.oc2-is ∙ kept _ _ _ _ u.0 lo (sym (if-false _ _ _ (l ∙ w.if-lost.false))), w.fl2-is ∙ kept _ _ _ _ u.1 lf (sym (if-false _ _ _ (l ∙ w.if-lost.false))))
      ],
)

pub returns : goal.returns
unfolding settle
returns c = λ s k w n t o f. let u = c.loop-i.invariant.1 k w n t o f in (whole _ _ _ _ u.0 (omega arith), whole _ _ _ _ u.1 (omega arith))
