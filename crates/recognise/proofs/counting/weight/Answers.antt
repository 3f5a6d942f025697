-- `weight` meets its contract: the table is the list of the definition.
use Rattle.recognise.specs.Counting.{weights}
use mathlib.Core.Path.{refl}
use Rattle.recognise.proofs.counting.weight.Goals as goal

pub returns : goal.returns
unfolding weights
returns c = refl
