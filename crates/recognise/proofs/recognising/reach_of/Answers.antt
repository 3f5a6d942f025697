-- By the halt: the text's end, the place where it is broken, or what is viable of the token.
use Rattle.recognise.specs.Reaching.{reached_by, Lies}
use Rattle.recognise.specs.Hears.{piece}
use native.Mathlib.Omega.{arith}
use mathlib.Core.Path.{refl}
use Rattle.recognise.proofs.recognising.reach_of.Goals as goal

pub slice_bounds-viable_at-count : goal.slice_bounds-viable_at-count
unfolding Lies
slice_bounds-viable_at-count c = (rw c.in-Refused.is at c.requires).ordered

pub slice_bounds-viable_at-start : goal.slice_bounds-viable_at-start
unfolding Lies
slice_bounds-viable_at-start c = (rw c.in-Refused.is at c.requires).ordered

pub slice_bounds-viable_at-end : goal.slice_bounds-viable_at-end
unfolding Lies
slice_bounds-viable_at-end c = (rw c.in-Refused.is at c.requires).high

pub overflow_add-result : goal.overflow_add-result
unfolding Lies piece
overflow_add-result c = let h = (rw c.in-Refused.is at c.requires).counted in omega (arith, h, c.viable_at.ensures)

pub returns-in-Done : goal.returns-in-Done
unfolding reached_by
returns-in-Done c = rw c.in-Done.is refl

pub returns-in-Broken : goal.returns-in-Broken
unfolding reached_by
returns-in-Broken c = rw c.in-Broken.is refl

pub returns-in-Refused : goal.returns-in-Refused
unfolding reached_by piece
returns-in-Refused c = rw (c.in-Refused.is, c.viable_at.ensures) refl
