use mathlib.Core.Path.{◌∙◌}
use native.Mathlib.Omega.{arith}
use Rattle.build.proofs.Puts.{words-begin, words-length, words-again, words-end}
use Rattle.build.proofs.write.words.Goals as goal

pub loop-i-init : goal.loop-i-init
loop-i-init c = (omega arith, λ e. (e, words-begin _ _ _))

pub overflow_mul-i : goal.overflow_mul-i
overflow_mul-i c = omega arith

pub overflow_add-at : goal.overflow_add-at
overflow_add-at c = omega arith

pub bounds-ws-i : goal.bounds-ws-i
bounds-ws-i c = omega arith

pub loop-i-preserved : goal.loop-i-preserved
loop-i-preserved c = (omega arith, λ e. let t = c.loop-i.invariant.1 e in (words-length _ _ _ _ t.0 (omega arith) (c.little.ensures t.0), words-again _ _ _ _ _ c.loop-i-test.true t.0 (omega arith) (c.little.ensures t.0) ∙ t.1))

pub returns : goal.returns
returns c e = words-end _ _ _ _ c.loop-i-test.false ∙ (c.loop-i.invariant.1 e).1
