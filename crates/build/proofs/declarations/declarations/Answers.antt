use mathlib.Core.Path.{refl}
use native.Mathlib.Omega.{arith}
use Rattle.build.proofs.DeclarationLaws.{begins, lookup-declared, command-declared, root-heard}
use Rattle.build.proofs.declarations.declarations.Goals as goal
use Rattle.build.proofs.declarations.declarations.Goals.{then-says-gt2, else-says-gt2}

pub loop-init : goal.loop-init
loop-init c = (omega arith, omega arith, λ whole k few low room t. t)

pub returns-then-says-gt5 : goal.returns-then-says-gt5
returns-then-says-gt5 c whole p k few low room size zeros = root-heard _ whole _ _ _ _ _ _ _ _ _ (c.loop.invariant.2 whole k few low room (begins _ whole _ _ _ _ _ _ p size zeros c.begin.ensures k (c.next-at.ensures k))) (omega arith)

pub overflow_sub-says : goal.overflow_sub-says
overflow_sub-says c = omega arith

pub overflow_add-lookups : goal.overflow_add-lookups
overflow_add-lookups c = omega arith

pub overflow_add-commands : goal.overflow_add-commands
overflow_add-commands c = omega arith

pub loop-preserved : goal.loop-preserved
loop-preserved c = let x = c.loop in
    elim c.if-says-gt2.branch [
      | then-says-gt2 w ↦ (
        omega (arith, x.invariant.0, w.commands-is),
        omega (arith, x.invariant.1, w.lookups-is),
        λ whole k few low room t. lookup-declared _ whole _ _ _ _ _ _ _ _ _ (x.invariant.2 whole k few low room t) _ _ _ _ _ _ _ _ _ few low room w.if-says-gt2.true (omega arith) refl w.lookup.ensures w.image-is w.kind-is w.at-is w.commands-is w.lookups-is (c.next-at-in-loop.ensures k),
      )
      | else-says-gt2 w ↦ (
        omega (arith, x.invariant.0, w.commands-is),
        omega (arith, x.invariant.1, w.lookups-is),
        λ whole k few low room t. command-declared _ whole _ _ _ _ _ _ _ _ _ (x.invariant.2 whole k few low room t) _ _ _ _ _ _ _ _ (omega (arith, w.if-says-gt2.false)) (w.next-at-else-says-gt2.ensures k) w.number.ensures w.image-is w.kind-is w.at-is w.commands-is w.lookups-is (c.next-at-in-loop.ensures k),
      )
    ]

pub returns : goal.returns
returns c whole p k few low room size zeros = let t = c.loop.invariant.2 whole k few low room (begins _ whole _ _ _ _ _ _ p size zeros c.begin.ensures k (c.next-at.ensures k)) in
    absurd (omega (arith, t.short))
