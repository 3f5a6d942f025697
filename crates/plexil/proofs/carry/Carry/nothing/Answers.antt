-- The state's own places, and no writer.
use mathlib.Core.Path.{refl}
use Rattle.plexil.specs.Order.{carry_nothing}
use Rattle.plexil.proofs.carry.Carry.nothing.Goals as goal

pub returns : goal.returns
unfolding carry_nothing
returns c = refl
