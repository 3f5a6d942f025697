-- `build::pending::unwind` meets its contract. The invariant: the operators above place t have ended.
use native.Mathlib.Omega.{arith}
use mathlib.Core.Path.{◌≡◌}
use Rattle.build.proofs.UnwindLaws.{top-few, ended_at, held_none}
use Rattle.build.proofs.pending.unwind.Goals as goal

pub loop-t-init : goal.loop-t-init
loop-t-init c u s node size q z f rest e x = (x, omega arith)

pub returns-then-is_held : goal.returns-then-is_held
returns-then-is_held c u s node size q z f rest e x = let i = c.loop-t.invariant u s node size q z f rest e x in
    let h = c.is_held.ensures (top-few u s node _ f rest _ z _ size q _ _ i.0) in
    (i.0, h.0 c.if-is_held.true (omega arith), i.1)

pub loop-t-preserved : goal.loop-t-preserved
loop-t-preserved c u s node size q z f rest e x = let i = c.loop-t.invariant u s node size q z f rest e x in
    let few = top-few u s node _ f rest _ z _ size q _ _ i.0 in
    let h = (c.is_held.ensures few).1 c.if-is_held.false in
    let y = ended_at u s node _ size q _ _ _ _ _ _ _ _ f e (omega arith) h.2 h.3 (c.end_at-m.ensures few) h.0 i.0 in
    (y.0, omega (arith, y.1, i.1))

pub returns : goal.returns
returns c u s node size q z f rest e x = let i = c.loop-t.invariant u s node size q z f rest e x in
    let over : c.loop-t.t ≡ 0 = omega (arith, c.loop-t-test.false) in
    (rw over at i.0, held_none _ _ _ (omega arith), i.1)
