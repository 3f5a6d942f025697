-- The lowest number that passes.
use mathlib.Core.Path.{refl, sym, ◌∙◌}
use Rattle.plexil.proofs.LoopLaws.{upto-start, upto-found, upto_next, upto-end}
use Rattle.plexil.proofs.lists.first.Goals as goal

pub loop-k-init : goal.loop-k-init
loop-k-init g c f h = upto-start _ _

pub returns-then-test : goal.returns-then-test
returns-then-test g c f h = upto-found (c.loop-k.invariant f h) refl c.loop-k-test.true (sym (h _ _ c.loop-k-test.true c.test.ensures) ∙ c.if-test.true)

pub loop-k-preserved : goal.loop-k-preserved
loop-k-preserved g c f h = upto_next (c.loop-k.invariant f h) refl c.loop-k-test.true (sym (h _ _ c.loop-k-test.true c.test.ensures) ∙ c.if-test.false)

pub returns : goal.returns
returns g c f h = upto-end (c.loop-k.invariant f h) refl c.loop-k-test.false
