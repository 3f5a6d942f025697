-- The numbers of the effects.
use Prim.Native.Nat.{ℕ, zero, suc, ◌+◌, ◌-◌, ◌<◌, ◌≤◌}
use mathlib.Core.Path.{◌≡◌, refl, ◌∙◌, ap}
use mathlib.Core.List.{List, [], ◌∷◌}
use native.Mathlib.Omega.{arith}
use lib.ListN.{length, get_or}
use Rattle.recognise.specs.Steps.{refuses, closes_paren, marks, effect_list, effect_of}

effect-marks : (n : ℕ) → n < 8 → effect_of (10 + n) ≡ marks n
unfolding effect_list effect_of
effect-marks zero h = refl
effect-marks (suc zero) h = refl
effect-marks (suc (suc zero)) h = refl
effect-marks (suc (suc (suc zero))) h = refl
effect-marks (suc (suc (suc (suc zero)))) h = refl
effect-marks (suc (suc (suc (suc (suc zero))))) h = refl
effect-marks (suc (suc (suc (suc (suc (suc zero)))))) h = refl
effect-marks (suc (suc (suc (suc (suc (suc (suc zero))))))) h = refl
effect-marks (suc (suc (suc (suc (suc (suc (suc (suc n)))))))) h = absurd (omega arith)

pub effect-marked : (e : ℕ) → 10 ≤ e → e < 18 → effect_of e ≡ marks (e - 10)
effect-marked e l u =
    let s : e ≡ 10 + (e - 10) = omega arith in
    ap effect_of s ∙ effect-marks (e - 10) (omega arith)

get_or_past : {A : Type 0} (l : List A) (i : ℕ) (d : A) → length l ≤ i → get_or l i d ≡ d
get_or_past [] i d h = refl
get_or_past (x ∷ l) zero d h = absurd (native.Mathlib.Nat.not-suc-le-zero h)
get_or_past (x ∷ l) (suc i) d h = get_or_past l i d (omega arith)

pub effect-beyond : (e : ℕ) → 18 ≤ e → effect_of e ≡ refuses
unfolding effect_list effect_of
effect-beyond e h = get_or_past effect_list e refuses h

-- an effect that is none of those before the last
pub effect-last : (e : ℕ) → e < 10 → (e ≡ 0 → ⊥) → (e ≡ 1 → ⊥) → (e ≡ 2 → ⊥) → (e ≡ 3 → ⊥) → (e ≡ 4 → ⊥) → (e ≡ 5 → ⊥) → (e ≡ 6 → ⊥) → (e ≡ 7 → ⊥) → (e ≡ 8 → ⊥) → effect_of e ≡ closes_paren
unfolding effect_list effect_of
effect-last zero h n0 n1 n2 n3 n4 n5 n6 n7 n8 = absurd (n0 refl)
effect-last (suc zero) h n0 n1 n2 n3 n4 n5 n6 n7 n8 = absurd (n1 refl)
effect-last (suc (suc zero)) h n0 n1 n2 n3 n4 n5 n6 n7 n8 = absurd (n2 refl)
effect-last (suc (suc (suc zero))) h n0 n1 n2 n3 n4 n5 n6 n7 n8 = absurd (n3 refl)
effect-last (suc (suc (suc (suc zero)))) h n0 n1 n2 n3 n4 n5 n6 n7 n8 = absurd (n4 refl)
effect-last (suc (suc (suc (suc (suc zero))))) h n0 n1 n2 n3 n4 n5 n6 n7 n8 = absurd (n5 refl)
effect-last (suc (suc (suc (suc (suc (suc zero)))))) h n0 n1 n2 n3 n4 n5 n6 n7 n8 = absurd (n6 refl)
effect-last (suc (suc (suc (suc (suc (suc (suc zero))))))) h n0 n1 n2 n3 n4 n5 n6 n7 n8 = absurd (n7 refl)
effect-last (suc (suc (suc (suc (suc (suc (suc (suc zero)))))))) h n0 n1 n2 n3 n4 n5 n6 n7 n8 = absurd (n8 refl)
effect-last (suc (suc (suc (suc (suc (suc (suc (suc (suc zero))))))))) h n0 n1 n2 n3 n4 n5 n6 n7 n8 = refl
effect-last (suc (suc (suc (suc (suc (suc (suc (suc (suc (suc e)))))))))) h n0 n1 n2 n3 n4 n5 n6 n7 n8 = absurd (omega arith)
