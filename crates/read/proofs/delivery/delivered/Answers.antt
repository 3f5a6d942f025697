-- The verdict on the image decides.
use native.Mathlib.Omega.{arith}
use lib.ListN.{length-take}
use Rattle.read.proofs.Handed.{image-refused, image-admitted}
use Rattle.read.proofs.delivery.delivered.Goals as goal

pub slice_bounds-check-end : goal.slice_bounds-check-end
slice_bounds-check-end c = simp length-take (omega arith)

pub returns-in-Refused : goal.returns-in-Refused
returns-in-Refused c = image-refused _ _ _ c.check-checked.ensures _ _ _ _ c.in-Refused.is c.rule_number.ensures c.refused.ensures

pub returns-in-Admitted : goal.returns-in-Admitted
returns-in-Admitted c = image-admitted _ _ _ c.check-checked.ensures _ _ _ c.in-Admitted.is (simp length-take (omega arith)) c.made.ensures c.copy.ensures
