-- `build::pending::prefixes` meets its contract. The invariant: the parentheses and NOTs that have been heard are kept.
use native.Mathlib.Omega.{arith}
use borrow.Author.Tests.{not-true, not-false}
use Rattle.build.proofs.UnwindLaws.{due-met, met-kept, met-by-on}
use Rattle.build.proofs.pending.prefixes.Goals as goal

pub loop-init : goal.loop-init
loop-init c tape s node base size count image z f rest h x = (met-by-on (omega arith) x, z)

pub returns-then-not-is_prefix : goal.returns-then-not-is_prefix
returns-then-not-is_prefix c tape s node base size count image z f rest h x = let i = c.loop.invariant tape s node base size count image z f rest h (due-met _ s node base f rest _ z _ size _ _ count image x (c.next-at.ensures tape)) in
    let p = c.is_prefix.ensures.0 (not-true _ c.if-not-is_prefix.true-raw) in
    (met-by-on (omega arith) i.0, p.0, p.1, i.1)

pub loop-preserved : goal.loop-preserved
loop-preserved c tape s node base size count image z f rest h x = let i = c.loop.invariant tape s node base size count image z f rest h x in
    let d = met-kept _ s node base _ _ _ _ _ c.args.left _ count image f rest i.1 (omega arith) (omega arith) i.0 (c.is_prefix.ensures.1 (not-false _ c.if-not-is_prefix.false-raw)) c.keep-up.ensures in
    (met-by-on (omega arith) (due-met _ s node base f rest _ d.1 _ _ _ _ count image d.0 (c.next-at-in-loop.ensures tape)), d.1)

pub returns : goal.returns
returns c tape s node base size count image z f rest h x = let i = c.loop.invariant tape s node base size count image z f rest h (due-met _ s node base f rest _ z _ size _ _ count image x (c.next-at.ensures tape)) in
    absurd (omega (arith, i.0.met.short))
