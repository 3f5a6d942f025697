-- `owner` meets its contract: the table is the list of the definition.
use Rattle.recognise.specs.Tables.{owners}
use mathlib.Core.Path.{refl}
use Rattle.recognise.proofs.tables.owner.Goals as goal

pub returns : goal.returns
unfolding owners
returns c = refl
