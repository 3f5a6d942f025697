use Rattle.std.proofs.Common.{rules}
use Rattle.plexil.specs.Values.{add_of}
use Rattle.values.proofs.numbers.add_of.Goals as goal

pub returns : goal.returns
unfolding add_of
returns c = c.numeric.ensures _ _ (λ x y w h. search rules) (λ x y w h. search rules)
