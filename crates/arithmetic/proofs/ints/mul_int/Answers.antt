use Rattle.std.proofs.Common.{◌*ℤ◌}
use Rattle.arithmetic.proofs.Checked.{checked_of}
use Rattle.arithmetic.proofs.ints.mul_int.Goals as goal

pub returns : goal.returns
returns c = checked_of ◌*ℤ◌ _ _ c.ranges.x c.ranges.y _ _ c.checked_mul.ensures c.map_or.ensures
