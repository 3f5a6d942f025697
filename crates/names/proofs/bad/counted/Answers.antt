-- `names::bad::counted` meets its contract.
use borrow.Author.Tests.{eq-eqb, ne_eqb}
use Rattle.names.specs.Judging as Judging
use Rattle.names.proofs.bad.counted.Goals as goal

pub returns-then-role-sort : goal.returns-then-role-sort
unfolding Judging.count_no
returns-then-role-sort c = simp (eq-eqb _ _ c.if-role-sort.true)

pub returns : goal.returns
unfolding Judging.count_no
returns c = simp (ne_eqb _ _ c.if-role-sort.false)
