-- `names::in_text::node` meets its contract. The invariant: at most n nodes have begun.
use mathlib.Core.Path.{refl, sym, ◌∙◌}
use native.Mathlib.Omega.{arith}
use Rattle.names.specs.Answers.{tale_said}
use Rattle.names.proofs.Halfway.{all_told, newly, halfway-start, onwards}
use Rattle.names.proofs.SearchNode.{no_node, the-node, other-node, no-new-node}
use Rattle.names.proofs.in_text.node.Goals as goal

pub loop-next-init : goal.loop-next-init
loop-next-init c = (
  c.start-w.ensures.bounded,
  λ l a k. halfway-start _ _ _ c.start-w.result c.start-w.ensures refl l a k (omega arith),
)

pub step-requires : goal.step-requires
step-requires c = c.loop-next.invariant.0

pub returns : goal.returns
returns c = (λ l a k. no_node _ (tale_said l) _ (all_told _ _ _ _ l a k c.in_default.ensures (c.loop-next.invariant.1 l a k)).1, record { ordered = omega arith; within = omega arith })

pub returns-then-here-n : goal.returns-then-here-n
returns-then-here-n c = (λ l a k. the-node _ (newly _ _ _ _ l a k c.in-Some.ensures (c.loop-next.invariant.1 l a k)) (sym c.sort_of.ensures ∙ c.if-sort_of-eq3.true) (sym c.here.ensures ∙ c.if-here-n.true), record { ordered = c.in-Some.ensures.ordered; within = c.in-Some.ensures.within })

pub loop-next-smaller-else-here-n : goal.loop-next-smaller-else-here-n
loop-next-smaller-else-here-n c = omega (arith, c.in-Some.ensures.onward, c.loop-next.invariant.0.place)

pub loop-next-preserved-else-here-n : goal.loop-next-preserved-else-here-n
loop-next-preserved-else-here-n c = (c.in-Some.ensures.bounded, λ l a k. let n = newly _ _ _ _ l a k c.in-Some.ensures (c.loop-next.invariant.1 l a k) in onwards n (other-node _ n (sym c.sort_of.ensures ∙ c.if-sort_of-eq3.true) (λ e. c.if-here-n.false (c.here.ensures ∙ e))))

pub loop-next-smaller : goal.loop-next-smaller
loop-next-smaller c = omega (arith, c.in-Some.ensures.onward, c.loop-next.invariant.0.place)

pub loop-next-preserved : goal.loop-next-preserved
loop-next-preserved c = (c.in-Some.ensures.bounded, λ l a k. let n = newly _ _ _ _ l a k c.in-Some.ensures (c.loop-next.invariant.1 l a k) in onwards n (no-new-node _ n (λ e. c.if-sort_of-eq3.false (c.sort_of.ensures ∙ e))))
