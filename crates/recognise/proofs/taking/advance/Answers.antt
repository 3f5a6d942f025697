-- What is to be heard at the cursor is still to be heard where the loop stands, and each token lies further on.
use native.Mathlib.Omega.{arith}
use mathlib.Core.Path.{sym, ◌∙◌}
use Rattle.recognise.proofs.Advances.{advanced-over, advanced-heard, kept_on, further}
use Rattle.recognise.proofs.taking.advance.Goals as goal

pub loop-t-init : goal.loop-t-init
loop-t-init c = record { onward = omega arith; hears = λ l g. g }

pub returns-then-t-ne0 : goal.returns-then-t-ne0
returns-then-t-ne0 c = advanced-heard _ c.well_formed.0.0 c.args.c _ _ c.loop-t.invariant _ (sym c.in-Ok.is ∙ c.take.ensures) c.if-t-ne0.true

pub loop-t-smaller : goal.loop-t-smaller
loop-t-smaller c = let f = further _ c.well_formed.0.0 c.args.c _ _ c.loop-t.invariant _ (sym c.in-Ok.is ∙ c.take.ensures) in omega arith

pub loop-t-preserved : goal.loop-t-preserved
loop-t-preserved c = kept_on _ c.well_formed.0.0 c.args.c _ _ c.loop-t.invariant _ (sym c.in-Ok.is ∙ c.take.ensures) c.if-t-ne0.false

pub returns : goal.returns
returns c = advanced-over _ c.well_formed.0.0 c.args.c _ _ c.loop-t.invariant _ (sym c.in_default.is ∙ c.take.ensures)
