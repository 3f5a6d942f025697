-- `names::walk::keep` meets its contract: by its tests.
use borrow.Author.Tests.{eq-eqb, ne_eqb, lt-ltb, le-ltb}
use Rattle.names.specs.Walking as Walking
use Rattle.names.proofs.walk.keep.Goals as goal

pub returns-then-depth-lt16 : goal.returns-then-depth-lt16
unfolding Walking.lists_no
returns-then-depth-lt16 c = simp (eq-eqb _ _ c.if-role-eq5.true, lt-ltb _ _ c.if-depth-lt16.true)

pub returns-else-depth-lt16 : goal.returns-else-depth-lt16
unfolding Walking.lists_no
returns-else-depth-lt16 c = simp (eq-eqb _ _ c.if-role-eq5.true, le-ltb _ _ c.if-depth-lt16.false)

pub returns-else-role-eq5 : goal.returns-else-role-eq5
unfolding Walking.lists_no
returns-else-role-eq5 c = simp (ne_eqb _ _ c.if-role-eq5.false)
