-- Some number below n passes.
use mathlib.Core.Path.{sym, ◌∙◌}
use Rattle.plexil.proofs.LoopLaws.{any_none, any_next, any-end, any_found}
use Rattle.plexil.proofs.lists.any_below.Goals as goal

pub loop-k-init : goal.loop-k-init
loop-k-init g c f h = any_none f

pub returns-then-test : goal.returns-then-test
returns-then-test g c f h = any_found _ _ f c.loop-k-test.true (sym (h _ _ c.loop-k-test.true c.test.ensures) ∙ c.if-test.true)

pub loop-k-preserved : goal.loop-k-preserved
loop-k-preserved g c f h = any_next _ f (c.loop-k.invariant f h) (sym (h _ _ c.loop-k-test.true c.test.ensures) ∙ c.if-test.false)

pub returns : goal.returns
returns g c f h = any-end f c.loop-k.auto.k-end c.loop-k-test.false (c.loop-k.invariant f h)
