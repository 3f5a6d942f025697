-- After j nodes each row of flags has the answer of the nodes below j.
use native.Mathlib.Omega.{arith}
use mathlib.Core.Path.{◌≡◌}
use Rattle.plexil.specs.Image.{node_count}
use Rattle.plexil.specs.Atomic.{is_finished, is_resting}
use Rattle.atomic.proofs.ChildLaws.{row-start, row-skip, row-set, row-end}
use Rattle.atomic.proofs.children.test_children.Goals as goal
use Rattle.atomic.proofs.children.test_children.Goals.{else-q-lt256, then-q-lt256}

pub loop-j-init : goal.loop-j-init
loop-j-init c = (c.node_count-j-end.ensures, row-start _ _ is_finished, row-start _ _ is_resting)

pub loop-j-preserved : goal.loop-j-preserved
loop-j-preserved c = (
  c.loop-j.invariant.0,
  elim c.if-q-lt256.branch [ then-q-lt256 w ↦ rw w.finished-is (row-set _ _ is_finished _ _ c.parent-q.ensures w.if-q-lt256.true c.status_at-a.ensures c.is_finished-f.ensures c.loop-j.invariant.1) | else-q-lt256 w ↦ rw w.finished-is (row-skip _ _ is_finished _ _ c.parent-q.ensures w.if-q-lt256.false c.loop-j.invariant.1) ],
  elim c.if-q-lt256.branch [ then-q-lt256 w ↦ rw w.resting-is (row-set _ _ is_resting _ _ c.parent-q.ensures w.if-q-lt256.true c.status_at-a.ensures c.is_resting-r.ensures c.loop-j.invariant.2) | else-q-lt256 w ↦ rw w.resting-is (row-skip _ _ is_resting _ _ c.parent-q.ensures w.if-q-lt256.false c.loop-j.invariant.2) ],
)

pub returns : goal.returns
returns c = let e : c.loop-j.j ≡ node_count c.args.image.now = omega (arith, c.loop-j.invariant.0) in
    record { finished = row-end _ _ is_finished _ e c.loop-j.invariant.1; resting = row-end _ _ is_resting _ e c.loop-j.invariant.2 }
