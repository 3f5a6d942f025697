-- The depth of an entry from its operands'.
use Prim.Native.Nat.{ℕ, zero, suc, ◌+◌, ◌≤◌, ◌<◌, max}
use mathlib.Core.Path.{◌≡◌, refl, sym, ◌∙◌}
use mathlib.Core.Bool.{Bool, true, false}
use mathlib.Core.List.{[], ◌∷◌}
use native.Mathlib.Omega.{arith}
use native.Mathlib.Numerals.{add-one}
use lib.Dec.{leb, leb-suc-suc}
use borrow.Author.Tests.{leb-true, leb-false, le-leb, lt-leb}
use Rattle.plexil.specs.Lists.{every}
use Rattle.plexil.specs.Image.{Image, operator, operand_a, operand_b}
use Rattle.plexil.specs.Expressions.{operator_of, operator_at}
use Rattle.plexil.specs.Scope.{operands_pass, depth_within}
use Rattle.admit.specs.Depth.{Depth}
use Rattle.plexil.proofs.TestLaws.{one-fails, and-then, and_last}
use Rattle.plexil.proofs.OperatorNumbers.{a-leaf, a-binary}

-- ---- one level more
one_deeper : (t d : ℕ) → leb t d ≡ leb (t + 1) (suc d)
one_deeper t d = rw (add-one t) (sym (leb-suc-suc t d))

deepest : (a b d : ℕ) → leb (max a b) d ≡ every (leb a d ∷ leb b d ∷ [])
deepest a b d = go (leb a d) refl (leb b d) refl
  where
    go : (t : Bool) → leb a d ≡ t → (u : Bool) → leb b d ≡ u → leb (max a b) d ≡ every (leb a d ∷ leb b d ∷ [])
    go true e true f = le-leb (max a b) d (omega (arith, leb-true a d e, leb-true b d f)) ∙ and-then _ e (and_last (sym f))
    go true e false f = lt-leb (max a b) d (omega (arith, leb-false b d f)) ∙ one-fails _ 1 f
    go false e u f = lt-leb (max a b) d (omega (arith, leb-false a d e)) ∙ one-fails _ 0 e

-- op is the operator of entry e
module _ (p : Image) (e : ℕ) {op : ℕ} (is : op ≡ operator p e) where
  pub depth-leaf : op < 6 → Depth p e 1
  unfolding depth_within operator_at operands_pass
  depth-leaf h zero = refl
  depth-leaf h (suc d) = rw (← is, (a-leaf op h).1) (sym (le-leb 1 (suc d) (omega arith)))

  pub depth-not : (a : ℕ) → op ≡ 6 → Depth p (operand_a p e) a → Depth p e (a + 1)
  unfolding depth_within operator_at operator_of operands_pass
  depth-not a h f zero = sym (lt-leb (a + 1) 0 (omega arith))
  depth-not a h f (suc d) = rw (← is, h) (f d ∙ one_deeper a d)

  module _ (a b : ℕ) (h : 6 < op) (g : op ≤ 14) (fa : Depth p (operand_a p e) a) (fb : Depth p (operand_b p e) b) where
    pub depth-both : Depth p e (max a b + 1)
    unfolding depth_within operator_at operands_pass
    depth-both zero = sym (lt-leb (max a b + 1) 0 (omega arith))
    depth-both (suc d) = rw (← is, (a-binary op h g).1, fa d, fb d) (sym (deepest a b d) ∙ one_deeper (max a b) d)
