use Rattle.std.proofs.Common.{rules}
use Rattle.plexil.specs.Values.{sub_of}
use Rattle.values.proofs.numbers.sub_of.Goals as goal

pub returns : goal.returns
unfolding sub_of
returns c = c.numeric.ensures _ _ (λ x y w h. search rules) (λ x y w h. search rules)
