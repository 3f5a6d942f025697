-- `build::attributes::attributes` meets its contract.
use mathlib.Core.Path.{refl, ◌∙◌}
use native.Mathlib.Omega.{arith}
use Rattle.build.proofs.AttributeLaws.{told-on, told-first}
use Rattle.build.proofs.attributes.attributes.Goals as goal

pub loop-init : goal.loop-init
loop-init c = (λ whole before parent size k room site n h m t. (told-on (omega arith) t, room), refl)

pub returns-then-at-lt12 : goal.returns-then-at-lt12
returns-then-at-lt12 c = let i = c.loop.invariant in
    (λ whole before parent size k room site h m z o. let t = i.0 whole before parent size k room site o.counted h m (told-first o z (c.next.ensures site.known.ready.tape)) in (told-on (omega arith) t.0, c.if-at-lt12.true, t.1), i.1)

pub loop-preserved : goal.loop-preserved
loop-preserved c = let i = c.loop.invariant in
    (λ whole before parent size k room site n h m t. let j = i.0 whole before parent size k room site n h m t in let y = c.attribute-a.ensures.0 whole before parent _ k j.1 site n (omega arith) (omega arith) j.0 in (told-on (omega arith) y.0, y.1), c.attribute-a.ensures.1 ∙ i.1)

pub returns : goal.returns
returns c = let i = c.loop.invariant in
    (λ whole before parent size k room site h m z o. absurd (omega (arith, (i.0 whole before parent size k room site o.counted h m (told-first o z (c.next.ensures site.known.ready.tape))).0.short)), i.1)
