-- `names::kinds::fill_kinds` meets its contract. The invariant: the table has the kinds that have been told.
use mathlib.Core.Path.{refl}
use native.Mathlib.Omega.{arith}
use Rattle.names.proofs.Halfway.{all_told, newly, halfway-start, onwards}
use Rattle.names.proofs.KindLaws.{tabled-none, kinding-same, kinding-full, kinding-more, kinded}
use Rattle.names.proofs.kinds.fill_kinds.Goals as goal

pub loop-next-init : goal.loop-next-init
loop-next-init c = (c.start-w.ensures.bounded, λ l x a k. halfway-start _ _ _ c.start-w.result c.start-w.ensures refl l a k (tabled-none _ x))

pub step-requires : goal.step-requires
step-requires c = c.loop-next.invariant.0

pub returns : goal.returns
returns c l x a k = kinded _ l _ _ _ a (all_told _ _ _ _ l a k c.in_default.ensures (c.loop-next.invariant.1 l x a k)).1

pub loop-next-smaller-then-n-lt128 : goal.loop-next-smaller-then-n-lt128
loop-next-smaller-then-n-lt128 c = omega (arith, c.in-Some.ensures.onward, c.loop-next.invariant.0.place)

pub loop-next-preserved-then-n-lt128 : goal.loop-next-preserved-then-n-lt128
loop-next-preserved-then-n-lt128 c = (
  c.in-Some.ensures.bounded,
  λ l x a k. let n = newly _ _ _ _ l a k c.in-Some.ensures (c.loop-next.invariant.1 l x a k) in onwards n (kinding-more _ _ _ n _ c.if-w-eq2.true c.if-n-lt128.true c.kind_said.ensures),
)

pub loop-next-smaller-else-n-lt128 : goal.loop-next-smaller-else-n-lt128
loop-next-smaller-else-n-lt128 c = omega (arith, c.in-Some.ensures.onward, c.loop-next.invariant.0.place)

pub loop-next-preserved-else-n-lt128 : goal.loop-next-preserved-else-n-lt128
loop-next-preserved-else-n-lt128 c = (
  c.in-Some.ensures.bounded,
  λ l x a k. let n = newly _ _ _ _ l a k c.in-Some.ensures (c.loop-next.invariant.1 l x a k) in onwards n (kinding-full _ _ _ n c.if-w-eq2.true c.if-n-lt128.false),
)

pub loop-next-smaller : goal.loop-next-smaller
loop-next-smaller c = omega (arith, c.in-Some.ensures.onward, c.loop-next.invariant.0.place)

pub loop-next-preserved : goal.loop-next-preserved
loop-next-preserved c = (
  c.in-Some.ensures.bounded,
  λ l x a k. let n = newly _ _ _ _ l a k c.in-Some.ensures (c.loop-next.invariant.1 l x a k) in onwards n (kinding-same _ _ _ n c.if-w-eq2.false),
)
