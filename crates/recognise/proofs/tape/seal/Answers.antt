-- `seal` meets its contract.
use mathlib.Core.Path.{ap}
use lib.ListN.{set}
use Rattle.recognise.proofs.tape.seal.Goals as goal

-- src/tape.rt:73:1
pub returns : goal.returns
returns c = ap (set c.args.owner.now 704) c.sealed.ensures
