-- After i nodes what is carried is the walk's as far as i.
use Rattle.visit.proofs.CarryLaws.{walk_end, all_below-or, walk-next}
use native.Mathlib.Omega.{arith}
use mathlib.Core.Path.{◌≡◌, refl, sym, ◌∙◌}
use Rattle.plexil.specs.Lists.{all_below}
use Rattle.plexil.specs.Image.{node_count}
use Rattle.plexil.proofs.Admitted.{few-nodes}
use Rattle.plexil.proofs.RenewLaws.{renew-none, stored}
use Rattle.plexil.proofs.NodeOrder.{walk_to-zero}
use Rattle.visit.proofs.walk.Goals as goal

pub loop-i-init : goal.loop-i-init
unfolding all_below
loop-i-init c = (refl, sym (walk_to-zero _ _ _), sym (renew-none _ _))

pub bounds-tests-k : goal.bounds-tests-k
bounds-tests-k c = omega (arith, few-nodes _ c.requires.0, c.requires.2)

pub bounds-tests-k-in-loop-i : goal.bounds-tests-k-in-loop-i
bounds-tests-k-in-loop-i c = omega (arith, few-nodes _ c.requires.0, c.requires.2)

pub visit_node-moved-requires : goal.visit_node-moved-requires
visit_node-moved-requires c = (c.requires.0, c.requires.1, omega (arith, c.requires.2), c.requires.4.finished _ (omega (arith, few-nodes _ c.requires.0, c.requires.2)), c.requires.4.resting _ (omega (arith, few-nodes _ c.requires.0, c.requires.2)))

pub loop-i-preserved : goal.loop-i-preserved
loop-i-preserved c = (
  all_below-or _ _ _ _ c.loop-i.invariant.0 c.visit_node-moved.ensures.0,
  walk-next _ _ _ _ c.loop-i.invariant.1 c.visit_node-moved.ensures.1,
  c.visit_node-moved.ensures.2 ∙ stored _ _ _ _ c.loop-i.invariant.2 (omega (arith, few-nodes _ c.requires.0, c.requires.2, c.requires.3)) refl,
)

pub returns : goal.returns
returns c = let e : c.loop-i.i ≡ node_count c.args.image.now = omega (arith, c.loop-i-test.false, c.requires.2) in
    walk_end _ _ _ _ _ e c.loop-i.invariant.0 c.loop-i.invariant.1 c.loop-i.invariant.2
