-- A test of each place, by the library's word and by the definitions'.
use mathlib.Core.Path.{◌≡◌, refl}
use mathlib.Core.Bool.{Bool, true, false}
use mathlib.Core.List.{List, [], ◌∷◌}
use Rattle.std.specs.List.{list_all}
use Rattle.plexil.specs.Lists.{all_in}

pub each-in : {A : Type 0} (f : A → Bool) (xs : List A) → list_all f xs ≡ all_in f xs
unfolding all_in
each-in f [] = refl
each-in f (x ∷ xs) = by (f x) refl (each-in f xs)
  where
    by : (b : Bool) → f x ≡ b → list_all f xs ≡ all_in f xs → list_all f (x ∷ xs) ≡ all_in f (x ∷ xs)
    by true e h = rw (e, all_in) h
    by false e h = rw (e, all_in) refl
