-- `build::pending::follow` meets its contract. The invariant: the parentheses that have been heard are closed.
use native.Mathlib.Omega.{arith}
use Rattle.build.proofs.UnwindLaws.{past-by-on, past-lowered}
use Rattle.build.proofs.pending.follow.Goals as goal

pub loop-init : goal.loop-init
loop-init c tape s node size z f rest h x = (past-by-on (omega arith) x, omega arith, z)

pub returns-then-at-ne92 : goal.returns-then-at-ne92
returns-then-at-ne92 c tape s node size z f rest h x = let i = c.loop.invariant tape s node size z f rest h x in
    let w = c.unwind-u.ensures _ s node _ _ i.2 f rest c.strength.ensures i.0 in
    (past-by-on (omega arith) w.0, c.if-at-ne92.true, _, c.strength.ensures, w.1, omega (arith, w.2, i.1), i.2)

pub loop-preserved : goal.loop-preserved
loop-preserved c tape s node size z f rest h x = let i = c.loop.invariant tape s node size z f rest h x in
    let w = c.unwind-u.ensures _ s node _ _ i.2 f rest c.strength.ensures i.0 in
    let y = past-lowered _ s node _ _ _ _ _ _ _ _ _ _ f rest i.2 w.0 c.strength.ensures w.1 (omega arith) c.lower.ensures (c.next-at.ensures tape) in
    (past-by-on (omega arith) y.0, omega (arith, w.2, i.1), y.1)

pub returns : goal.returns
returns c tape s node size z f rest h x = let i = c.loop.invariant tape s node size z f rest h x in absurd (omega (arith, i.0.past.short))
