use mathlib.Core.Path.{refl}
use mathlib.Core.List.{[], ◌∷◌}
use native.Mathlib.Omega.{arith}
use Rattle.plexil.specs.Assemble.{bytes, words16, expr}
use Rattle.build.proofs.Puts.{put_next}
use Rattle.build.proofs.write.put_entry.Goals as goal

pub returns : goal.returns
unfolding bytes words16 expr
returns c e = let x = c.args.e in
    let one = c.pair.ensures e in
    let two = put_next _ _ _ _ 2 (x.op ∷ (x.kind ∷ [])) (bytes 2 x.a) e refl (omega arith) one c.little.ensures in
    let three = put_next _ _ _ _ 4 _ (bytes 2 x.b) e refl (omega arith) two c.little-2.ensures in
    let four = put_next _ _ _ _ 6 _ (bytes 2 0) e refl (omega arith) three c.little-3.ensures in
    put_next _ _ _ _ 8 _ (bytes 8 x.word) e refl (omega arith) four c.little-4.ensures
