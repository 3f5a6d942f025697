-- `build::attributes::rank` meets its contract.
use Rattle.recognise.specs.Hears.{piece}
use Rattle.build.proofs.AttributeLaws.{ranked}
use Rattle.build.proofs.attributes.rank.Goals as goal

pub returns-in-Some : goal.returns-in-Some
unfolding piece
returns-in-Some c = ranked _ _ _ (rw c.in-Some.ensures.lookup.0.2 at c.number_of.ensures)
