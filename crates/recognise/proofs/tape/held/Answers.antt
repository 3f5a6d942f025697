-- `held` meets its contract: by the saying's half of its place.
use mathlib.Core.Path.{refl}
use borrow.Author.Tests.{eq-eqb, ne_eqb}
use Rattle.recognise.specs.Tape.{held_in}
use Rattle.recognise.proofs.tape.held.Goals as goal

-- src/tape.rt:26:9
pub returns-then-i-eq0 : goal.returns-then-i-eq0
unfolding held_in
returns-then-i-eq0 c = rw (eq-eqb _ _ c.if-i-eq0.true) refl

-- src/tape.rt:20:1
pub returns : goal.returns
unfolding held_in
returns c = rw (ne_eqb _ _ c.if-i-eq0.false) refl
