-- One entry's answer by its operator's number, `sub` answering for the operands.
use Prim.Native.Nat.{ℕ, ◌+◌, ◌*◌, ◌<◌}
use mathlib.Core.Path.{◌≡◌, refl, ap, ap₂, ◌∙◌}
use mathlib.Core.Bool.{Bool, true, false}
use lib.Dec.{leb}
use borrow.Author.Tests.{leb-true, leb-false}
use Rattle.plexil.specs.declared.Worked.{Worked}
use Rattle.plexil.specs.Values.{not_of}
use Rattle.plexil.specs.Bytes.{byte_at, le16}
use Rattle.plexil.specs.Image.{Image, exprs_at, expr_at, operator, operand_a, operand_b}
use Rattle.plexil.specs.Places.{Seen}
use Rattle.plexil.specs.Expressions.{operator_of, operator_at, answer_of}
use Rattle.plexil.proofs.OperatorNumbers.{a-binary, no-operator}
use Rattle.evaluate.specs.Binary.{join_of}
use Rattle.evaluate.specs.Leaves.{leaf_answer}
use Rattle.evaluate.proofs.Laws.{is-a, is_b, leaf-answers}

-- entry e, whose section stands at base
module _ (p : Image) (r : Seen) (e : ℕ) (sub : ℕ → Worked) {base op : ℕ} (at : base ≡ exprs_at p) (is : op ≡ byte_at p (base + 16 * e)) where
  by_number : answer_of (operator_of op) p r e sub ≡ answer_of (operator_at p e) p r e sub
  unfolding operator_at operator expr_at
  by_number = rw (is, at)

  pub by-leaf : {x : Worked} → op < 6 → x ≡ leaf_answer p (base + 16 * e) op r → x ≡ answer_of (operator_at p e) p r e sub
  by-leaf l ex = ex ∙ (leaf-answers p r e sub at l ∙ by_number)

  module _ {a : ℕ} {x : Worked} (ea : a ≡ le16 p (base + 16 * e + 2)) (ex : x ≡ sub a) where
    pub by-not : op ≡ 6 → not_of x ≡ answer_of (operator_at p e) p r e sub
    unfolding answer_of operator_of
    by-not h = ap not_of (ex ∙ ap sub (is-a p e at ea)) ∙ (rw h at by_number)

    pub by-join : {b : ℕ} {y : Worked} → b ≡ le16 p (base + 16 * e + 4) → y ≡ sub b → 6 < op → join_of (operator_of op) x y ≡ answer_of (operator_at p e) p r e sub
    unfolding answer_of join_of
    by-join eb ey h = ap₂ (join_of (operator_of op)) (ex ∙ ap sub (is-a p e at ea)) (ey ∙ ap sub (is_b p e at eb)) ∙ (by (leb op 14) refl ∙ by_number)
      where
        by : (t : Bool) → leb op 14 ≡ t → join_of (operator_of op) (sub (operand_a p e)) (sub (operand_b p e)) ≡ answer_of (operator_of op) p r e sub
        by true t = rw (a-binary op h (leb-true op 14 t)).1
        by false t = rw (no-operator op (leb-false op 14 t))
