-- The digits after '.', and the power of ten that they divide by.
use Rattle.std.proofs.Common.{◌≡◌, ℕ, zero, suc, [], ◌∷◌, ◌-◌, ◌^◌, ◌<◌, ◌≤◌, List, length, get_or, refl, arith, eq-eqb, ne_eqb}
use native.Mathlib.Nat.{pow-le-pow_right, one-le-pow}
use Rattle.notation.specs.Numbers.{places}

-- the first '.' stands at place i
pub point-found : (t : List ℕ) (i : ℕ) → i < length t → get_or t i 0 ≡ 46 → ((j : ℕ) → j < i → get_or t j 0 ≡ 46 → ⊥) → length t - i - 1 ≡ places t
unfolding places
point-found [] i h e n = absurd (omega arith)
point-found (b ∷ t) zero h e n = rw (eq-eqb b 46 e) (omega arith)
point-found (b ∷ t) (suc i) h e n = rw (ne_eqb b 46 (n 0 (omega arith))) (let z = point-found t i (omega arith) e (λ j l. n (suc j) (omega arith)) in omega (arith, z))

pub point-none : (t : List ℕ) → ((j : ℕ) → j < length t → get_or t j 0 ≡ 46 → ⊥) → 0 ≡ places t
unfolding places
point-none [] n = refl
point-none (b ∷ t) n = rw (ne_eqb b 46 (n 0 (omega arith))) (point-none t (λ j l. n (suc j) (omega arith)))

-- 10 to the power k
pub power-told : (k r : ℕ) → k ≤ 15 → r ≡ 10 ^ k → (0 < r) × (r ≤ 1000000000000000) × (k ≤ 15 → r ≡ 10 ^ k)
power-told k r h e = (rw e (one-le-pow k 10 (omega arith)), rw e (pow-le-pow_right {n = 10} (omega arith) {i = k} {j = 15} h), λ l. e)
