use Rattle.plexil.specs.Assemble.{lookup}
use Rattle.build.proofs.write.put_lookup.Goals as goal

pub returns : goal.returns
unfolding lookup
returns c e = c.pair.ensures e
