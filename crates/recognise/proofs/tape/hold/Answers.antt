-- `hold` meets its contract: by the saying's half of its place.
use mathlib.Core.Path.{refl}
use borrow.Author.Tests.{eq-eqb, ne_eqb}
use Rattle.recognise.specs.Tape.{holding}
use Rattle.recognise.proofs.tape.hold.Goals as goal

-- src/tape.rt:39:9
pub returns-then-i-eq0 : goal.returns-then-i-eq0
unfolding holding
returns-then-i-eq0 c = rw (eq-eqb _ _ c.if-i-eq0.true) refl

-- src/tape.rt:32:1
pub returns : goal.returns
unfolding holding
returns c = rw (ne_eqb _ _ c.if-i-eq0.false) refl
