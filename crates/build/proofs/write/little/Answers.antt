use mathlib.Core.Path.{◌≡◌, refl, ◌∙◌}
use native.Mathlib.Omega.{arith}
use lib.ListN.{length, length-set}
use Rattle.build.proofs.Puts.{put_first, put-again, put_all}
use Rattle.build.proofs.write.little.Goals as goal

pub loop-i-init : goal.loop-i-init
loop-i-init c = (omega arith, refl, λ e. put_first _ _ _ _)

pub loop-i-preserved : goal.loop-i-preserved
loop-i-preserved c = let h : length c.loop-i.image ≡ length c.args.image.now = c.loop-i.invariant.1 in (omega arith, length-set c.loop-i.image _ _ ∙ h, λ e. put-again _ _ _ _ _ _ _ (omega arith) (omega arith) (c.loop-i.invariant.2 e))

pub returns : goal.returns
returns c e = put_all _ _ _ _ _ _ _ (omega arith) (c.loop-i.invariant.2 e)
