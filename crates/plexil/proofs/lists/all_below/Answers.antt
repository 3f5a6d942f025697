-- Each number below n passes.
use mathlib.Core.Path.{refl, sym, ◌∙◌}
use Rattle.plexil.proofs.LoopLaws.{all_none, all-next, all_end, all-fails}
use Rattle.plexil.proofs.lists.all_below.Goals as goal

pub loop-k-init : goal.loop-k-init
loop-k-init g c f h = all_none f

pub returns-then-not-test : goal.returns-then-not-test
returns-then-not-test g c f h = all-fails _ _ f refl c.loop-k-test.true (sym (h _ _ c.loop-k-test.true c.test.ensures) ∙ c.if-not-test.true)

pub loop-k-preserved : goal.loop-k-preserved
loop-k-preserved g c f h = all-next _ f (c.loop-k.invariant f h) (sym (h _ _ c.loop-k-test.true c.test.ensures) ∙ c.if-not-test.false)

pub returns : goal.returns
returns g c f h = all_end _ f refl c.loop-k.auto.k-end c.loop-k-test.false (c.loop-k.invariant f h)
