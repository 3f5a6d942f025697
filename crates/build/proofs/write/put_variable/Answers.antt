use mathlib.Core.Path.{refl}
use mathlib.Core.List.{[], ◌∷◌}
use native.Mathlib.Omega.{arith}
use Rattle.plexil.specs.Assemble.{bytes, words16, variable}
use Rattle.build.proofs.Puts.{put_next}
use Rattle.build.proofs.write.put_variable.Goals as goal

pub returns : goal.returns
unfolding bytes words16 variable
returns c e = let x = c.args in
    let one = c.pair.ensures e in
    let two = put_next _ _ _ _ 2 (x.kind ∷ (x.known ∷ [])) (bytes 2 x.owner) e refl (omega arith) one c.little.ensures in
    let three = put_next _ _ _ _ 4 _ (bytes 4 0) e refl (omega arith) two c.little-2.ensures in
    put_next _ _ _ _ 8 _ (bytes 8 x.w) e refl (omega arith) three c.little-3.ensures
