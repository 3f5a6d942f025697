-- `build::expressions::boolean` meets its contract. The invariant: an operand is due, and what is pending is kept.
use native.Mathlib.Omega.{arith}
use Rattle.build.proofs.PendingLaws.{before-opens}
use Rattle.build.proofs.UnwindLaws.{due-by-on, first-length, due-first, operand_read, past-by-on, past-ends, past-pushed}
use Rattle.build.proofs.expressions.boolean.Goals as goal

pub loop-init : goal.loop-init
loop-init c q size z k f rest h x = (due-by-on (omega arith) x, z)

pub returns-then-at-gt90 : goal.returns-then-at-gt90
returns-then-at-gt90 c q size z k f rest h d = let i = c.loop.invariant q size (first-length c.args.pending.now z) k f rest h (due-first c.args.pending.now z d) in
    let m = c.prefixes-o.ensures k.ready.tape q _ _ _ _ _ i.1 f rest (omega arith) i.0 in
    let p = operand_read _ _ _ k f (omega arith) m.0 m.1 m.2 c.numeric-p.ensures in
    let w = c.follow-f.ensures k.ready.tape q _ _ m.3 f rest (omega arith) p.0 in
    let e = past-ends _ q _ _ f rest _ w.6 _ size _ _ _ _ (past-by-on (omega arith) w.0) w.3 w.4 c.if-at-gt90.true w.1 in
    (e.0, e.1, w.6)

pub loop-preserved : goal.loop-preserved
loop-preserved c q size z k f rest h x = let i = c.loop.invariant q size z k f rest h x in
    let m = c.prefixes-o.ensures k.ready.tape q _ _ _ _ _ i.1 f rest (omega arith) i.0 in
    let p = operand_read _ _ _ k f (omega arith) m.0 m.1 m.2 c.numeric-p.ensures in
    let w = c.follow-f.ensures k.ready.tape q _ _ m.3 f rest (omega arith) p.0 in
    let e = past-pushed _ q _ _ _ _ _ _ _ _ _ _ _ _ f rest w.6 w.0 w.3 w.4 c.if-at-gt90.false (omega (arith, w.5, p.1)) c.last.ensures c.push-top.ensures in
    (due-by-on (omega arith) e.0, e.1)

pub returns : goal.returns
returns c q size z k f rest h d = let i = c.loop.invariant q size (first-length c.args.pending.now z) k f rest h (due-first c.args.pending.now z d) in
    absurd (omega (arith, i.0.due.short, before-opens i.0.due.before))
