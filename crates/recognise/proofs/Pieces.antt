-- A part of the text, by its ends or by its start and length.
use Prim.Native.Nat.{ℕ, zero, suc, ◌-◌}
use mathlib.Core.Path.{◌≡◌, refl, ◌∙◌, sym, ap}
use mathlib.Core.List.{List, [], ◌∷◌}
use native.Mathlib.Omega.{arith}
use lib.ListN.{take, drop}
use lib.Seq.{slice}

take-nil : (n : ℕ) → take {A = ℕ} n [] ≡ []
take-nil zero = refl
take-nil (suc n) = refl

pub slice-part : (f t : ℕ) (u : List ℕ) → slice f t u ≡ take (t - f) (drop f u)
slice-part zero t u = let z : t ≡ t - 0 = omega arith in ap (λ (n : ℕ). take n u) z
slice-part (suc f) zero u = let z : 0 ≡ 0 - suc f = omega arith in ap (λ (n : ℕ). take n (drop (suc f) u)) z
slice-part (suc f) (suc t) [] = sym (take-nil (suc t - suc f))
slice-part (suc f) (suc t) (x ∷ u) = let z : t - f ≡ suc t - suc f = omega arith in slice-part f t u ∙ ap (λ (n : ℕ). take n (drop f u)) z
