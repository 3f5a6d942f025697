-- `build::building::counted` meets its contract.
use mathlib.Core.Path.{refl}
use Rattle.build.specs.Building.{counted_told}
use Rattle.build.proofs.building.counted.Goals as goal

pub returns : goal.returns
unfolding counted_told
returns c = refl
