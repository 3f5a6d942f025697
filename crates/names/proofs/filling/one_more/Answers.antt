-- `names::filling::one_more` meets its contract.
use Rattle.names.specs.Tables.{more_of}
use Rattle.names.proofs.filling.one_more.Goals as goal

pub returns : goal.returns
unfolding more_of
returns c = rw (c.counted-4.ensures, c.counted-3.ensures, c.counted-2.ensures, c.counted.ensures)
