use mathlib.Core.Path.{◌≡◌, refl, ◌∙◌, ap}
use mathlib.Core.List.{[], ◌∷◌, ◌++◌}
use native.Mathlib.Omega.{arith}
use lib.ListN.{length, length-append}
use Rattle.plexil.specs.Lists.{put}
use Rattle.plexil.specs.Assemble.{bytes, words16}
use Rattle.build.proofs.Puts.{put_next, words_size, node-record}
use Rattle.build.proofs.write.put_node.Goals as goal

pub returns : goal.returns
unfolding bytes
returns c e = let x = c.args.r in
    let g = words16 x.given.now in
    let n : length g ≡ 14 = omega (arith, words_size x.given.now) in
    let one = c.little.ensures e in
    let two = put_next _ _ _ _ 2 (bytes 2 x.parent) (x.form ∷ (0 ∷ [])) e refl (omega arith) one c.pair.ensures in
    let three = put_next _ _ _ _ 4 _ (bytes 2 x.priority) e refl (omega arith) two c.little-2.ensures in
    let head = bytes 2 x.parent ++ (x.form ∷ (0 ∷ [])) ++ bytes 2 x.priority in
    let four = put_next _ _ _ _ 6 head g e refl (omega arith) three c.words.ensures in
    let m : length (head ++ g) ≡ 20 = omega (arith, length-append head g) in
    let five = put_next _ _ _ _ 20 (head ++ g) (bytes 2 x.what) e m (omega arith) four c.little-3.ensures in
    let k : length (head ++ g ++ bytes 2 x.what) ≡ 22 = omega (arith, length-append (head ++ g) (bytes 2 x.what)) in
    let six = put_next _ _ _ _ 22 (head ++ g ++ bytes 2 x.what) (bytes 2 x.value) e k (omega arith) five c.little-4.ensures in
    six ∙ ap (put _ _) (node-record x.parent x.form x.priority x.given.now x.what x.value)
