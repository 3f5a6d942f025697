-- The kinds that no value has, and the tags that are one more than a kind.
use Prim.Native.Nat.{ℕ, zero, suc, ◌-◌}
use mathlib.Core.Path.{◌≡◌, refl, ap}
use mathlib.Core.Bool.{false}
use native.Mathlib.Omega.{arith}
use Rattle.plexil.specs.Values.{known, good_bits, decode}
use Rattle.plexil.specs.declared.Worked.TheVariants as w

pub no-known : (k b : ℕ) → (k ≡ 0 → ⊥) → (k ≡ 1 → ⊥) → (k ≡ 2 → ⊥) → w.Unknown ≡ known k b
unfolding known
no-known zero b h i j = absurd (h refl)
no-known (suc zero) b h i j = absurd (i refl)
no-known (suc (suc zero)) b h i j = absurd (j refl)
no-known (suc (suc (suc k))) b h i j = refl

pub no_bits : (k b : ℕ) → (k ≡ 0 → ⊥) → (k ≡ 1 → ⊥) → (k ≡ 2 → ⊥) → false ≡ good_bits k b
unfolding good_bits
no_bits zero b h i j = absurd (h refl)
no_bits (suc zero) b h i j = absurd (i refl)
no_bits (suc (suc zero)) b h i j = absurd (j refl)
no_bits (suc (suc (suc k))) b h i j = refl

pub by_kind : (t b : ℕ) → (t ≡ 0 → ⊥) → known (t - 1) b ≡ decode t b
unfolding decode
by_kind zero b h = absurd (h refl)
by_kind (suc k) b h = ap (λ n. known n b) (omega arith)
