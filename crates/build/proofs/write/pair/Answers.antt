use native.Mathlib.Omega.{arith}
use Rattle.build.proofs.Puts.{put_two}
use Rattle.build.proofs.write.pair.Goals as goal

pub returns : goal.returns
returns c e = put_two _ _ _ _ (omega arith)
