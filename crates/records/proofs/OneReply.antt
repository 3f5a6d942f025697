-- A search's contract permits one reply.
use Prim.Native.Nat.{ℕ}
use mathlib.Core.Path.{◌≡◌, refl, sym, ap, ◌∙◌}
use Rattle.std.specs.Prelude.{Option, Some, None}
use Rattle.plexil.specs.Lists.{Found, at, nowhere}
use Rattle.plexil.specs.Searches.{found_of}
use Rattle.records.specs.Broken.{OneFound}

back : Found → Option ℕ
back (at i) = Some i
back nowhere = None

back_is : (a : Option ℕ) → back (found_of a) ≡ a
unfolding back
back_is (Some i) = refl
back_is None = refl

pub one_found : OneFound
one_found r p a b e f = sym (back_is a) ∙ ap back (e ∙ sym f) ∙ back_is b
