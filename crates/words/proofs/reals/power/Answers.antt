use Rattle.std.proofs.Common.{arith}
use Rattle.words.proofs.PlaceLaws.{power-told}
use Rattle.words.proofs.reals.power.Goals as goal

pub returns : goal.returns
returns c = power-told _ _ (omega arith) c.pow.ensures
