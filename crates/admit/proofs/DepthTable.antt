-- The table of depths, and the next entry from it.
use Prim.Native.Nat.{ℕ, ◌+◌, ◌≤◌, ◌<◌, max}
use mathlib.Core.Path.{◌≡◌, sym, ◌∙◌, subst}
use mathlib.Core.List.{List}
use mathlib.Core.Logic.{◌⊎◌, inl, inr}
use native.Mathlib.Omega.{arith}
use lib.ListN.{length, get_or, set, length-set}
use lib.Seq.{get_or-set_same, get_or-set_other}
use Rattle.plexil.specs.Image.{Image, expr_count, operator, operand_a, operand_b}
use Rattle.plexil.proofs.ListLaws.{same?}
use Rattle.admit.specs.Depth.{Depth, Passed, Filled}
use Rattle.admit.proofs.DepthLaws.{depth-not, depth-both}
use Rattle.admit.proofs.Ordered.{few, known-operator, first-lower, second-lower}

pub filled_next : (p : Image) (e d : ℕ) (t : List ℕ) → Filled p e t → e < 2048 → Depth p e d → d ≤ 12 → Filled p (e + 1) (set t e d)
filled_next p e d t f b h s =
    record { long = length-set t e d ∙ f.long; depths = λ j l. depths j l (same? j e); shallow = λ j l. shallow j l (same? j e) }
  where
    here : get_or (set t e d) e 0 ≡ d
    here = get_or-set_same t e d 0 (rw f.long b)

    depths : (j : ℕ) → j < e + 1 → (j ≡ e) ⊎ (j ≡ e → ⊥) → Depth p j (get_or (set t e d) j 0)
    depths j l (inl q) = rw (q, here) h
    depths j l (inr q) = rw (get_or-set_other t e j d 0 q) (f.depths j (omega (arith, q)))

    shallow : (j : ℕ) → j < e + 1 → (j ≡ e) ⊎ (j ≡ e → ⊥) → get_or (set t e d) j 0 ≤ 12
    shallow j l (inl q) = rw (q, here) s
    shallow j l (inr q) = rw (get_or-set_other t e j d 0 q) (f.shallow j (omega (arith, q)))

pub filled-start : (p : Image) (t : List ℕ) → length t ≡ 2048 → Filled p 0 t
filled-start p t h = record { long = h; depths = λ j l. absurd (omega arith); shallow = λ j l. absurd (omega arith) }

-- ---- an entry by its operator op and the numbers a and b of its operands
module _ {p : Image} {e : ℕ} {t : List ℕ} (pre : Passed p × ((e < expr_count p) × Filled p e t)) {op a : ℕ} (is : op ≡ operator p e) (is-a : a ≡ operand_a p e) where
  pub first_below : 6 ≤ op → a < e
  first_below h = omega (arith, first-lower p pre.0 e pre.1.0 is h)

  pub first-within : 6 ≤ op → a < 2048
  first-within h = omega (arith, first_below h, few p pre.0, pre.1.0)

  pub first-shallow : 6 ≤ op → get_or t a 0 ≤ 12
  first-shallow h = pre.1.1.shallow a (first_below h)

  depth-a : 6 ≤ op → Depth p (operand_a p e) (get_or t a 0)
  depth-a h = subst (λ (k : ℕ). Depth p k (get_or t a 0)) is-a (pre.1.1.depths a (first_below h))

  pub not_entry : op ≡ 6 → Depth p e (get_or t a 0 + 1)
  not_entry h = depth-not p e is (get_or t a 0) h (depth-a (omega arith))

  module _ {b : ℕ} (is_b : b ≡ operand_b p e) (from : 6 ≤ op) (other : op ≡ 6 → ⊥) where
    pub second_below : b < e
    second_below = omega (arith, second-lower p pre.0 e pre.1.0 is from other)

    pub second-within : b < 2048
    second-within = omega (arith, second_below, few p pre.0, pre.1.0)

    pub second-shallow : get_or t b 0 ≤ 12
    second-shallow = pre.1.1.shallow b second_below

    depth-b : Depth p (operand_b p e) (get_or t b 0)
    depth-b = subst (λ (k : ℕ). Depth p k (get_or t b 0)) is_b (pre.1.1.depths b second_below)

    pub deeper-entry : {m : ℕ} → m ≡ max (get_or t a 0) (get_or t b 0) → Depth p e (m + 1)
    deeper-entry {m} q = subst (λ (k : ℕ). Depth p e (k + 1)) (sym q)
        (depth-both p e is _ _ (omega (arith, other)) (known-operator p pre.0 e pre.1.0 is) (depth-a from) depth-b)
