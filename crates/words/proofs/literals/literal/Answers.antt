-- `words::literal` meets its contract: each group tells the class of its words, as `group-right` says. Assumes nothing.
use Rattle.std.proofs.Common.{refl, rules}
use Rattle.words.proofs.GroupsHold.{tests, NoneIn, lengths, group-tells, no-group}
use Rattle.words.proofs.literals.literal.Goals as goal

pub returns-in-1 : goal.returns-in-1
returns-in-1 c = group-tells _ _ c.found.ensures 1 c.in-1.is (unfold tests in refl)

pub returns-in-2 : goal.returns-in-2
returns-in-2 c = group-tells _ _ c.found-in-2.ensures 2 c.in-2.is (unfold tests in refl)

pub returns-in-3 : goal.returns-in-3
returns-in-3 c = group-tells _ _ c.found-in-3.ensures 3 c.in-3.is (unfold tests in refl)

pub returns-in-4 : goal.returns-in-4
returns-in-4 c = group-tells _ _ c.found-in-4.ensures 4 c.in-4.is (unfold tests in refl)

pub returns-in-5 : goal.returns-in-5
returns-in-5 c = group-tells _ _ c.found-in-5.ensures 5 c.in-5.is (unfold tests in refl)

pub returns-in-6 : goal.returns-in-6
returns-in-6 c = group-tells _ _ c.found-in-6.ensures 6 c.in-6.is (unfold tests in refl)

pub returns-in-7 : goal.returns-in-7
returns-in-7 c = group-tells _ _ c.found-in-7.ensures 7 c.in-7.is (unfold tests in refl)

pub returns-in-8 : goal.returns-in-8
returns-in-8 c = group-tells _ _ c.found-in-8.ensures 8 c.in-8.is (unfold tests in refl)

pub returns-in-9 : goal.returns-in-9
returns-in-9 c = group-tells _ _ c.found-in-9.ensures 9 c.in-9.is (unfold tests in refl)

pub returns-in-10 : goal.returns-in-10
returns-in-10 c = group-tells _ _ c.found-in-10.ensures 10 c.in-10.is (unfold tests in refl)

pub returns-in-11 : goal.returns-in-11
returns-in-11 c = group-tells _ _ c.found-in-11.ensures 11 c.in-11.is (unfold tests in refl)

pub returns-in-12 : goal.returns-in-12
returns-in-12 c = group-tells _ _ c.found-in-12.ensures 12 c.in-12.is (unfold tests in refl)

pub returns-in-13 : goal.returns-in-13
returns-in-13 c = group-tells _ _ c.found-in-13.ensures 13 c.in-13.is (unfold tests in refl)

pub returns-in-14 : goal.returns-in-14
returns-in-14 c = group-tells _ _ c.found-in-14.ensures 14 c.in-14.is (unfold tests in refl)

pub returns-in-15 : goal.returns-in-15
returns-in-15 c = group-tells _ _ c.found-in-15.ensures 15 c.in-15.is (unfold tests in refl)

pub returns-in-18 : goal.returns-in-18
returns-in-18 c = group-tells _ _ c.found-in-18.ensures 18 c.in-18.is (unfold tests in refl)

pub returns-in-20 : goal.returns-in-20
returns-in-20 c = group-tells _ _ c.found-in-20.ensures 20 c.in-20.is (unfold tests in refl)

pub returns-in_default : goal.returns-in_default
unfolding NoneIn lengths
returns-in_default c = no-group _ (search rules)
