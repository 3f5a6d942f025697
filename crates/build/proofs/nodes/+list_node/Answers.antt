-- `build::nodes::list` and `build::nodes::node`, which call each other, meet their contracts.
use Prim.Native.Nat.{◌-◌}
use mathlib.Core.Path.{refl}
use native.Mathlib.Omega.{arith}
use Rattle.build.proofs.NodeLaws.{keeps_same, keeps-all, done-in, list-opens, list-ends, node-begins, list-goes, listing-on, some_left}
use Rattle.build.proofs.nodes.+list_node.Goals as goal

pub list-loop-init : goal.list-loop-init
list-loop-init t c whole d parent size k room site h m l = (d, listing-on (omega arith) l, keeps_same d.nodes, room)

pub list-returns-then-at-eq9 : goal.list-returns-then-at-eq9
list-returns-then-at-eq9 t c whole d parent size k room site h m l =
    let i = c.loop.invariant whole d parent size k room site h m l in
    (done-in i.2 (omega arith) (list-ends _ whole i.0 parent _ _ k _ _ i.1 _ (c.next-at.ensures site.known.ready.tape) c.if-at-eq9.true), i.3)

pub list-loop-preserved : goal.list-loop-preserved
list-loop-preserved t c whole d parent size k room site h m l =
    let i = c.loop.invariant whole d parent size k room site h m l in
    let o = node-begins _ whole i.0 parent _ _ k _ _ i.1 _ (c.next-at.ensures site.known.ready.tape) c.if-at-eq9.false in
    let y = c.node-s.ensures whole i.0.nodes _ o.0 i.3 site (omega arith) (omega arith) o.1 in
    let x = y.0 in
    (x.draft, listing-on (omega arith) (list-goes i.1 o.2 x), keeps-all d.nodes i.0.nodes x.draft.nodes i.2 x.keeps, y.1)

pub list-returns : goal.list-returns
list-returns t c whole d parent size k room site h m l = let i = c.loop.invariant whole d parent size k room site h m l in absurd (omega (arith, some_left i.1))

pub node-returns-then-at-ne8 : goal.node-returns-then-at-ne8
node-returns-then-at-ne8 t c whole before size k room site h m o =
    let a = c.attributes-a.ensures.0 whole before _ size k room site h m refl o in
    c.task.ensures whole before size k a.2 site o.counted (omega arith) c.if-at-ne8.true a.1 a.0

pub node-returns-then-left-eq0 : goal.node-returns-then-left-eq0
node-returns-then-left-eq0 t c whole before size k room site h m o = absurd (omega (arith, (c.attributes-a.ensures.0 whole before _ size k room site h m refl o).0.short))

pub node-returns : goal.node-returns
node-returns t c whole before size k room site h m o =
    let a = c.attributes-a.ensures.0 whole before _ size k room site h m refl o in
    let l = list-opens _ whole before _ size k _ _ _ a.0 _ _ _ _ _ _ site o.counted c.if-at-ne8.false c.add_node-n.ensures in
    let x = c.list.ensures whole l.0 _ (size - 1) k a.2 site (omega arith) (omega arith) (rw c.course-inner.ensures l.1) in
    (done-in l.2 (omega arith) x.0, x.1)
