-- `names::in_text::sort_of` meets its contract: by its tests.
use borrow.Author.Tests.{eq-eqb, ne_eqb}
use Rattle.names.specs.Walking as Walking
use Rattle.names.proofs.in_text.sort_of.Goals as goal

pub returns-then-role-eq4 : goal.returns-then-role-eq4
unfolding Walking.sort_no
returns-then-role-eq4 c = simp (eq-eqb _ _ c.if-role-eq4.true)

pub returns-else-role-eq4 : goal.returns-else-role-eq4
unfolding Walking.sort_no
returns-else-role-eq4 c = simp (ne_eqb _ _ c.if-role-eq4.false)
