-- A step of the loop is a step of the climb.
use native.Mathlib.Omega.{arith}
use Rattle.std.specs.Prelude.{is_some, suc}
use mathlib.Core.Path.{ap, sym, ◌∙◌}
use Rattle.notation.specs.Hearing.{draft_of, parent_in}
use Rattle.names.specs.Answers.{found_of}
use Rattle.names.specs.Climb.{go_up}
use Rattle.names.proofs.GoingUp.{up-found, up-root, up-last, up-on}
use Rattle.names.proofs.table.Tables.climb.Goals as goal

pub loop-init : goal.loop-init
loop-init g c = (λ l a r f h. ap (λ k. go_up f (parent_in (draft_of l).nodes) (suc k) c.args.n) (omega arith), c.requires.here, omega arith)

pub own-there-requires : goal.own-there-requires
own-there-requires g c = c.loop.invariant.1

pub returns-then-is_some-clause-climbed : goal.returns-then-is_some-clause-climbed
returns-then-is_some-clause-climbed g c = λ l a r f h. let t = h.told _ _ c.loop.invariant.2 c.own-there.ensures in t ∙ ap found_of (sym (c.loop.invariant.0 l a r f h ∙ up-found f (parent_in (draft_of l).nodes) _ _ (ap is_some (sym t) ∙ sym c.is_some.ensures ∙ c.if-is_some.true)))

pub returns-then-is_some-clause-answered : goal.returns-then-is_some-clause-answered
returns-then-is_some-clause-answered g c = (_, c.loop.invariant.2, c.own-there.ensures)

pub returns-then-node-eq0-clause-climbed : goal.returns-then-node-eq0-clause-climbed
returns-then-node-eq0-clause-climbed g c = λ l a r f h. h.told _ _ c.loop.invariant.2 c.own-there.ensures ∙ ap found_of (sym (c.loop.invariant.0 l a r f h ∙ up-root f (parent_in (draft_of l).nodes) _ _ c.if-node-eq0.true))

pub loop-preserved : goal.loop-preserved
loop-preserved g c = (
  λ l a r f h. c.loop.invariant.0 l a r f h ∙ up-on f (parent_in (draft_of l).nodes) _ _ c.parent_of-node.result (ap is_some (sym (h.told _ _ c.loop.invariant.2 c.own-there.ensures)) ∙ sym c.is_some.ensures ∙ c.if-is_some.false) c.if-node-eq0.false (λ z. omega (arith, z, c.loop-test.true)) (c.parent_of-node.ensures.0 l a r).parent ∙ ap (λ k. go_up f (parent_in (draft_of l).nodes) (suc k) c.parent_of-node.result) (omega arith),
  c.requires.above _ c.parent_of-node.ensures.1,
  omega (arith, c.parent_of-node.ensures.1),
)

pub own-requires : goal.own-requires
own-requires g c = c.loop.invariant.1

pub returns-clause-climbed : goal.returns-clause-climbed
returns-clause-climbed g c = λ l a r f h. h.told _ _ c.loop.invariant.2 c.own.ensures ∙ ap found_of (sym (c.loop.invariant.0 l a r f h ∙ up-last f (parent_in (draft_of l).nodes) _ _ (omega (arith, c.loop-test.false))))

pub returns-clause-answered : goal.returns-clause-answered
returns-clause-answered g c = (_, c.loop.invariant.2, c.own.ensures)
