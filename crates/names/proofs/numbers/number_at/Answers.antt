-- `names::numbers::number_at` meets its contract: a part of the text is its bytes.
use Rattle.recognise.specs.Hears.{piece}
use Rattle.names.proofs.numbers.number_at.Goals as goal

pub returns : goal.returns
unfolding piece
returns c = c.number_of.ensures
