use Rattle.std.proofs.Common.{rules}
use Rattle.plexil.specs.Values.{le_of}
use Rattle.values.proofs.numbers.le_of.Goals as goal

pub returns : goal.returns
unfolding le_of
returns c = c.numeric.ensures _ _ (λ x y w h. search rules) (λ x y w h. search rules)
