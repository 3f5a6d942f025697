-- `place_of` meets its contract.
use Rattle.recognise.specs.Counting.{changed}
use borrow.Author.Tests.{lt-ltb, le-ltb}
use Rattle.recognise.proofs.counting.place_of.Goals as goal

pub returns-then-c : goal.returns-then-c
unfolding changed
returns-then-c c = simp c.if-c.true

pub returns-then-c-gt16 : goal.returns-then-c-gt16
unfolding changed
returns-then-c-gt16 c = simp (c.if-c.false, lt-ltb _ _ c.if-c-gt16.true)

pub returns-else-c-gt16 : goal.returns-else-c-gt16
unfolding changed
returns-else-c-gt16 c = simp (c.if-c.false, le-ltb _ _ c.if-c-gt16.false)
