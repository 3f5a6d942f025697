-- What touches an entry, by its operator's number.
use Prim.Native.Nat.{ℕ, ◌+◌, ◌*◌}
use mathlib.Core.Path.{◌≡◌, refl, ◌∙◌}
use mathlib.Core.Bool.{Bool, true, false}
use mathlib.Core.List.{List, [], ◌∷◌}
use native.Mathlib.Omega.{arith}
use lib.Dec.{leb}
use borrow.Author.Tests.{leb-true, leb-false}
use Rattle.plexil.specs.Lists.{some}
use Rattle.plexil.specs.Bytes.{byte_at}
use Rattle.plexil.specs.Image.{Image, exprs_at, expr_at, operator, operand_a, operand_b}
use Rattle.plexil.specs.Expressions.{Leaf, leaf, operator_of, operator_at}
use Rattle.plexil.proofs.OperatorNumbers.{a-binary, no-operator, NoneOf, past}
use Rattle.answers.specs.Changes.{up, leaf_touched, touched_by, touched}

-- entry e, whose section stands at base
module _ (p : Image) (e : ℕ) (altered changed : List ℕ) {base op : ℕ} (at : base ≡ exprs_at p) (is : op ≡ byte_at p (base + 16 * e)) where
  by_number : touched_by (operator_of op) p altered changed e ≡ touched p altered changed e
  unfolding touched operator_at operator expr_at
  by_number = rw (is, at)

  pub touched-leaf : (o : Leaf) {k : ℕ} {t : Bool} → op ≡ k → operator_of k ≡ leaf o → t ≡ leaf_touched o p altered e → t ≡ touched p altered changed e
  unfolding touched_by
  touched-leaf o h w et = et ∙ (rw (h, w) at by_number)

  pub touched-not : {t : Bool} → op ≡ 6 → t ≡ up changed (operand_a p e) → t ≡ touched p altered changed e
  unfolding touched_by operator_of
  touched-not h et = et ∙ (rw h at by_number)

  pub touched-two : {t : Bool} → NoneOf 0 7 op → t ≡ some (up changed (operand_a p e) ∷ up changed (operand_b p e) ∷ []) → t ≡ touched p altered changed e
  unfolding touched_by
  touched-two h et = et ∙ (by (leb op 14) refl ∙ by_number)
    where
      by : (w : Bool) → leb op 14 ≡ w → some (up changed (operand_a p e) ∷ up changed (operand_b p e) ∷ []) ≡ touched_by (operator_of op) p altered changed e
      by true w = rw (a-binary op (omega (arith, past 0 7 op h (omega arith))) (leb-true op 14 w)).1
      by false w = rw (no-operator op (leb-false op 14 w))
