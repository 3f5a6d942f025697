use Rattle.std.proofs.Common.{rules}
use Rattle.plexil.specs.Values.{mul_of}
use Rattle.values.proofs.numbers.mul_of.Goals as goal

pub returns : goal.returns
unfolding mul_of
returns c = c.numeric.ensures _ _ (λ x y w h. search rules) (λ x y w h. search rules)
