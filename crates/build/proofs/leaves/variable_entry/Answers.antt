use Rattle.notation.specs.Draft.{Entry}
use Rattle.build.proofs.LeafLaws.{variable-bytes}
use Rattle.build.proofs.leaves.variable_entry.Goals as goal

pub returns : goal.returns
returns c s es kn room low few t lies = c.emit.ensures s es (Entry.variable _ _) room low few t (variable-bytes s.whole _ _ _ _ _ (c.variable-v.ensures s.whole kn lies))
