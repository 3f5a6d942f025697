-- `base` meets its contract: the table is the list of the definition.
use Rattle.recognise.specs.Tables.{bases}
use mathlib.Core.Path.{refl}
use Rattle.recognise.proofs.tables.base.Goals as goal

pub returns : goal.returns
unfolding bases
returns c = refl
