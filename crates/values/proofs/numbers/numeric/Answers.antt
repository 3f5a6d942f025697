-- Each operator on two of one kind, by what its closures answer.
use Rattle.std.proofs.Common.{rules, ◌∙◌}
use Rattle.arithmetic.proofs.Integers.{both-back}
use Rattle.plexil.specs.Values.{numeric}
use Rattle.values.proofs.numbers.numeric.Goals as goal

pub returns-in-Ints : goal.returns-in-Ints
unfolding numeric
returns-in-Ints g c = λ f r h k. rw c.in-Ints.is (h _ _ _ c.ints.ensures ∙ both-back f (search rules) (search rules))

pub returns-in-Reals : goal.returns-in-Reals
unfolding numeric
returns-in-Reals g c = λ f r h k. rw c.in-Reals.is (k _ _ _ c.reals.ensures)
