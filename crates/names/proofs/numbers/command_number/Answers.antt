-- `names::numbers::command_number` meets its contract. The invariant: of the commands that have been told the number of the command i is as it says.
use mathlib.Core.Path.{refl, sym, ◌∙◌}
use native.Mathlib.Omega.{arith}
use Rattle.names.proofs.Halfway.{all_told, newly, halfway-start, onwards}
use Rattle.names.proofs.Upright.{count-le}
use Rattle.names.proofs.NumberLaws.{numbering-same, numbering-last, numbered}
use Rattle.names.proofs.numbers.command_number.Goals as goal

pub loop-next-init : goal.loop-next-init
loop-next-init c = (c.start-w.ensures.bounded, omega arith, λ l a k. halfway-start _ _ _ c.start-w.result c.start-w.ensures refl l a k (record { many = refl; here = refl }))

pub step-requires : goal.step-requires
step-requires c = c.loop-next.invariant.0

pub returns : goal.returns
returns c l a k = numbered _ l _ _ _ a (all_told _ _ _ _ l a k c.in_default.ensures (c.loop-next.invariant.2 l a k)).1

pub counted-n-requires : goal.counted-n-requires
counted-n-requires c = omega (arith, c.in-Some.ensures.onward, c.in-Some.ensures.bounded.place, c.loop-next.invariant.1)

pub number_at-number-requires : goal.number_at-number-requires
number_at-number-requires c = (c.in-Some.ensures.ordered, c.in-Some.ensures.within)

pub loop-next-smaller-then-tells_number : goal.loop-next-smaller-then-tells_number
loop-next-smaller-then-tells_number c = omega (arith, c.in-Some.ensures.onward, c.loop-next.invariant.0.place)

pub loop-next-preserved-then-tells_number : goal.loop-next-preserved-then-tells_number
loop-next-preserved-then-tells_number c = (
  c.in-Some.ensures.bounded,
  rw c.counted-n.ensures (count-le _ _ _ _ c.loop-next.invariant.1 (c.in-Some.ensures.onward)),
  λ l a k. let n = newly _ _ _ _ l a k c.in-Some.ensures (c.loop-next.invariant.2 l a k) in
      onwards n (numbering-last _ _ _ n _ c.counted-n.ensures (sym c.tells_number.ensures ∙ c.if-tells_number.true) _ c.number_at-number.ensures),
)

pub loop-next-smaller : goal.loop-next-smaller
loop-next-smaller c = omega (arith, c.in-Some.ensures.onward, c.loop-next.invariant.0.place)

pub loop-next-preserved : goal.loop-next-preserved
loop-next-preserved c = (
  c.in-Some.ensures.bounded,
  rw c.counted-n.ensures (count-le _ _ _ _ c.loop-next.invariant.1 (c.in-Some.ensures.onward)),
  λ l a k. let n = newly _ _ _ _ l a k c.in-Some.ensures (c.loop-next.invariant.2 l a k) in
      onwards n (numbering-same _ _ _ n _ c.counted-n.ensures (sym c.tells_number.ensures ∙ c.if-tells_number.false)),
)
