-- `names::walk::owner_at` meets its contract: by its tests.
use borrow.Author.Tests.{eq-eqb, ne_eqb, lt-ltb, le-ltb}
use Rattle.names.specs.Walking as Walking
use Rattle.names.proofs.walk.owner_at.Goals as goal

pub returns-then-depth-eq0 : goal.returns-then-depth-eq0
unfolding Walking.owner_at
returns-then-depth-eq0 c = simp (eq-eqb _ _ c.if-depth-eq0.true)

pub returns-then-depth-gt16 : goal.returns-then-depth-gt16
unfolding Walking.owner_at
returns-then-depth-gt16 c = simp (ne_eqb _ _ c.if-depth-eq0.false, lt-ltb _ _ c.if-depth-gt16.true)

pub returns : goal.returns
unfolding Walking.owner_at
returns c = simp (ne_eqb _ _ c.if-depth-eq0.false, le-ltb _ _ c.if-depth-gt16.false)
