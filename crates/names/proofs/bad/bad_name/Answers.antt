-- `names::bad::bad_name` meets its contract. The invariant: what has been told is counted, and each name of it is in order.
use Rattle.names.proofs.GoingUp.{none-is}
use mathlib.Core.Path.{refl, ap, sym, ◌∙◌}
use native.Mathlib.Omega.{arith}
use Rattle.notation.specs.Hearing.{draft_of}
use Rattle.names.specs.Answers.{found_of}
use Rattle.names.specs.Judging as Judging
use Rattle.names.proofs.Halfway.{all_told, newly, halfway-start, onwards}
use Rattle.names.proofs.Upright.{nothing-bad, newly-hearing, newly-index, newly-path, newly-here, found-bad, upright-on, all-fine, count-le}
use Rattle.names.proofs.bad.bad_name.Goals as goal

pub loop-next-init : goal.loop-next-init
unfolding Judging.held_from
loop-next-init c = (
  c.start-w.ensures.bounded,
  omega arith,
  omega arith,
  omega arith,
  rw c.held_from-p.ensures (record { ordered = omega arith; within = omega arith; small = omega arith }),
  λ l a r. halfway-start _ _ _ c.start-w.result c.start-w.ensures refl l a r.tape (rw c.held_from-p.ensures (nothing-bad _ (draft_of l))),
)

pub step-requires : goal.step-requires
step-requires c = c.loop-next.invariant.0

pub returns : goal.returns
returns c = λ l a r. none-is ∙ ap found_of (sym (all-fine _ l a _ _ _ _ _ (all_told _ _ _ _ l a r.tape c.in_default.ensures (c.loop-next.invariant.5 l a r)).1))

pub judge-bad-requires : goal.judge-bad-requires
judge-bad-requires c = (record { ordered = c.in-Some.ensures.ordered; within = c.in-Some.ensures.within; small = omega (arith, c.in-Some.ensures.bounded.nodes, c.in-Some.ensures.bounded.place) }, c.loop-next.invariant.4)

pub returns-then-is_some : goal.returns-then-is_some
unfolding Judging.Judged
returns-then-is_some c = λ l a r. let n = newly _ _ _ _ l a r.tape c.in-Some.ensures (c.loop-next.invariant.5 l a r) in found-bad _ l a _ _ _ _ n _ (c.judge-bad.ensures l a r n.tale n.said (newly-hearing _ l a _ _ _ _ n) (λ h. c.index_of-i.ensures ∙ newly-index _ l a _ _ _ _ n h) n.known.path) (sym c.is_some.ensures ∙ c.if-is_some.true)

pub path_after-p-requires : goal.path_after-p-requires
path_after-p-requires c = (record { ordered = c.in-Some.ensures.ordered; within = c.in-Some.ensures.within; small = omega (arith, c.in-Some.ensures.bounded.nodes, c.in-Some.ensures.bounded.place) }, c.loop-next.invariant.4)

pub after-counts-requires : goal.after-counts-requires
after-counts-requires c = record {
  commands = omega (arith, c.in-Some.ensures.onward, c.in-Some.ensures.bounded.place, c.loop-next.invariant.1);
  lookups = omega (arith, c.in-Some.ensures.onward, c.in-Some.ensures.bounded.place, c.loop-next.invariant.2);
  variables = omega (arith, c.in-Some.ensures.onward, c.in-Some.ensures.bounded.place, c.loop-next.invariant.3);
}

pub loop-next-smaller : goal.loop-next-smaller
loop-next-smaller c = omega (arith, c.in-Some.ensures.onward, c.loop-next.invariant.0.place)

pub loop-next-preserved : goal.loop-next-preserved
unfolding Judging.Judged Judging.PathGoes
loop-next-preserved c = (
  c.in-Some.ensures.bounded,
  rw c.after-counts.ensures.0 (count-le _ _ _ _ c.loop-next.invariant.1 (c.in-Some.ensures.onward)),
  rw c.after-counts.ensures.1 (count-le _ _ _ _ c.loop-next.invariant.2 (c.in-Some.ensures.onward)),
  rw c.after-counts.ensures.2 (count-le _ _ _ _ c.loop-next.invariant.3 (c.in-Some.ensures.onward)),
  c.path_after-p.ensures.1,
  λ l a r.
      let n = newly _ _ _ _ l a r.tape c.in-Some.ensures (c.loop-next.invariant.5 l a r) in
      rw (c.after-counts.ensures.0, c.after-counts.ensures.1, c.after-counts.ensures.2)
      (onwards n (upright-on _ l a _ _ _ _ n c.judge-bad.result _ (c.judge-bad.ensures l a r n.tale n.said (newly-hearing _ l a _ _ _ _ n) (λ h. c.index_of-i.ensures ∙ newly-index _ l a _ _ _ _ n h) n.known.path) (sym c.is_some.ensures ∙ c.if-is_some.false) (c.path_after-p.ensures.0 l a r n.tale n.said (newly-hearing _ l a _ _ _ _ n) (newly-path _ l a _ _ _ _ n) (newly-here _ l a _ _ _ _ n) n.known.path))),
)
