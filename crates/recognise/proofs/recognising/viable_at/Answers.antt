-- The most over the classes so far.
use Rattle.recognise.proofs.ViableLaws.{viable-zero, viable-next}
use Rattle.recognise.proofs.recognising.viable_at.Goals as goal

pub loop-k-init : goal.loop-k-init
loop-k-init c = viable-zero _ _ _

pub loop-k-preserved : goal.loop-k-preserved
loop-k-preserved c = viable-next _ _ _ _ _ c.loop-k.invariant c.more_of-most.ensures
