use Rattle.notation.specs.Draft.{Entry}
use Rattle.build.proofs.LeafLaws.{lookup-bytes}
use Rattle.build.proofs.leaves.lookup_entry.Goals as goal

pub returns : goal.returns
returns c s es kn room low few t lies = c.emit.ensures s es (Entry.lookup _) room low few t (lookup-bytes s.whole _ _ _ _ (c.lookup-v.ensures s.whole kn lies))
