use Rattle.recognise.specs.Hears.{piece}
use Rattle.build.proofs.KnownLaws.{means-variable}
use Rattle.build.proofs.known.variable.Goals as goal

pub returns : goal.returns
unfolding piece
returns c d k h = rw c.unwrap_or-number.ensures (means-variable _ d _ k _ _ _ _ (rw c.in-Some.ensures.lookup.0.2 at c.variable_of-f.ensures) (rw c.unwrap_or-number.ensures at c.standing-kind.ensures))
