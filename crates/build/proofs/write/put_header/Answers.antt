use Rattle.build.specs.Standing.{header}
use Rattle.build.proofs.write.put_header.Goals as goal

pub returns : goal.returns
unfolding header
returns c e = c.words.ensures e
