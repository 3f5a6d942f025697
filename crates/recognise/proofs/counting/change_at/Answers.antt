-- The table is the list of the definition.
use Rattle.recognise.specs.Counting.{changes}
use Rattle.recognise.proofs.counting.change_at.Goals as goal

pub returns : goal.returns
unfolding changes
returns c = c.change_code.ensures
