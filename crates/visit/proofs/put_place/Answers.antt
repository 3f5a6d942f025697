-- Five stores.
use mathlib.Core.Path.{refl}
use Rattle.plexil.specs.Order.{put_place}
use Rattle.visit.proofs.put_place.Goals as goal

pub returns : goal.returns
unfolding put_place
returns c = refl
