-- What the survey refuses is the reply; else the reply is that of the image that was built.
use mathlib.Core.Path.{refl, sym}
use native.Mathlib.Omega.{arith}
use Rattle.read.proofs.Made.{survey-refused, image-made, image-left}
use Rattle.read.proofs.reading.read.Goals as goal

pub returns-in-Err : goal.returns-in-Err
returns-in-Err c = let s = rw c.in-Err.is at c.survey.ensures refl refl refl in survey-refused _ _ _ s.0 s.1

pub slice_bounds-delivered-end : goal.slice_bounds-delivered-end
slice_bounds-delivered-end c = sym (image-made _ c.args.image.now _ _ _ _ (rw c.in-Ok.is at c.survey.ensures refl refl refl) _ (λ l a seen filled few. c.build.ensures l a seen filled few refl)).size

pub delivered-requires : goal.delivered-requires
delivered-requires c = let m = image-made _ c.args.image.now _ _ _ _ (rw c.in-Ok.is at c.survey.ensures refl refl refl) _ (λ l a seen filled few. c.build.ensures l a seen filled few refl) in
    record { n_in_bounds = omega (arith, m.size, m.within); n_in_bounds_2 = m.room }

pub returns : goal.returns
returns c = image-left _ _ _ _ _ _ (image-made _ c.args.image.now _ _ _ _ (rw c.in-Ok.is at c.survey.ensures refl refl refl) _ (λ l a seen filled few. c.build.ensures l a seen filled few refl)) c.delivered.ensures
