-- `names::in_text::find` meets its contract. The invariant: as many of the sort as are counted have been told, and none of them is called so.
use Rattle.names.proofs.GoingUp.{small-nowhere, small_at, none-is, some-is}
use mathlib.Core.Path.{refl, ap, sym, ◌∙◌}
use native.Mathlib.Omega.{arith}
use Rattle.recognise.specs.Hears.{piece}
use Rattle.names.specs.Seek.{seek}
use Rattle.names.specs.Answers.{found_of}
use Rattle.names.proofs.Halfway.{all_told, newly, halfway-start, onwards}
use Rattle.names.proofs.Search.{nothing-told, hit, miss, pass}
use Rattle.names.proofs.in_text.find.Goals as goal

pub loop-next-init : goal.loop-next-init
loop-next-init c = (
  c.start-w.ensures.bounded,
  omega arith,
  λ l a k. halfway-start _ _ _ c.start-w.result c.start-w.ensures refl l a k (nothing-told c.args.sort c.args.m c.args.x.now c.requires),
)

pub step-requires : goal.step-requires
step-requires c = c.loop-next.invariant.0

pub returns : goal.returns
unfolding seek
returns c = (λ l a k. none-is ∙ ap found_of (sym (all_told _ _ _ _ l a k c.in_default.ensures (c.loop-next.invariant.2 l a k)).1.1), small-nowhere none-is)

pub returns-then-is_called : goal.returns-then-is_called
unfolding piece
returns-then-is_called c = (λ l a k. some-is _ ∙ ap found_of (sym (hit _ _ _ _ c.requires (newly _ _ _ _ l a k c.in-Some.ensures (c.loop-next.invariant.2 l a k)) (sym c.sort_of.ensures ∙ c.if-sort_of-sort.true) (sym c.is_called.ensures ∙ c.if-is_called.true))), small_at _ (some-is _) (omega (arith, c.in-Some.ensures.onward, c.in-Some.ensures.bounded.place, c.loop-next.invariant.1)))

pub overflow_add-count : goal.overflow_add-count
overflow_add-count c = omega (arith, c.in-Some.ensures.onward, c.in-Some.ensures.bounded.place, c.loop-next.invariant.1)

pub loop-next-smaller-then-sort_of-sort : goal.loop-next-smaller-then-sort_of-sort
loop-next-smaller-then-sort_of-sort c = omega (arith, c.in-Some.ensures.onward, c.loop-next.invariant.0.place)

pub loop-next-preserved-then-sort_of-sort : goal.loop-next-preserved-then-sort_of-sort
unfolding piece
loop-next-preserved-then-sort_of-sort c = (c.in-Some.ensures.bounded, omega (arith, c.in-Some.ensures.onward, c.loop-next.invariant.1), λ l a k. let n = newly _ _ _ _ l a k c.in-Some.ensures (c.loop-next.invariant.2 l a k) in onwards n (miss _ _ _ _ c.requires n (sym c.sort_of.ensures ∙ c.if-sort_of-sort.true) (sym c.is_called.ensures ∙ c.if-is_called.false)))

pub loop-next-smaller : goal.loop-next-smaller
loop-next-smaller c = omega (arith, c.in-Some.ensures.onward, c.loop-next.invariant.0.place)

pub loop-next-preserved : goal.loop-next-preserved
loop-next-preserved c = (c.in-Some.ensures.bounded, omega (arith, c.in-Some.ensures.onward, c.loop-next.invariant.1), λ l a k. let n = newly _ _ _ _ l a k c.in-Some.ensures (c.loop-next.invariant.2 l a k) in onwards n (pass _ _ _ _ c.requires n (λ e. c.if-sort_of-sort.false (c.sort_of.ensures ∙ e))))
