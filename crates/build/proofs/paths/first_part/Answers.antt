use native.Mathlib.Omega.{arith}
use Rattle.recognise.specs.Hears.{piece}
use Rattle.build.proofs.PathLaws.{first-means}
use Rattle.build.proofs.paths.first_part.Goals as goal

pub returns-then-n-ge65535 : goal.returns-then-n-ge65535
returns-then-n-ge65535 c = (λ d k n l. absurd (omega arith), omega arith)

pub node_up-requires : goal.node_up-requires
node_up-requires c = omega arith

pub returns : goal.returns
unfolding piece
returns c = (λ d k n l. first-means _ d _ _ _ (rw (rw c.in_ok-name.was at c.get.ensures).lookup.0.2 at c.node_up.ensures.0 k.said k.accepted k.ready) k.draft, c.node_up.ensures.1)
