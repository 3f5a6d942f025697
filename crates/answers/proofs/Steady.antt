-- An entry's value does not depend on how many levels are left, once they are enough for its tree: its value is its operator's answer on its operands' values.
use Prim.Native.Nat.{ℕ, zero, suc, ◌<◌}
use mathlib.Core.Path.{◌≡◌, refl, sym, ap, ap₂}
use Rattle.plexil.specs.declared.Worked.{Worked}
use Rattle.plexil.specs.Values.{not_of}
use Rattle.plexil.specs.Image.{Image, expr_count}
use Rattle.plexil.specs.Places.{Seen}
use Rattle.plexil.specs.Expressions.{Operator, leaf, not_op, binary, no_operator, operator_at, binary_of, answer_of, eval_of, value_of}
use Rattle.plexil.specs.Scope.{shallow}
use Rattle.plexil.specs.Promises.{IsAdmitted}
use Rattle.plexil.proofs.Admitted.{is-shallow}
use Rattle.plexil.proofs.EntryKinds.{Each, each_map, Within, no-level, operands-within}

-- equal answers of the operands give one answer
pub answer-same : (o : Operator) (p : Image) (r : Seen) (e : ℕ) (f g : ℕ → Worked) → Each o p e (λ x. f x ≡ g x) → answer_of o p r e f ≡ answer_of o p r e g
unfolding answer_of
answer-same (leaf o) p r e f g h = refl
answer-same not_op p r e f g h = ap not_of h
answer-same (binary o) p r e f g h = ap₂ (binary_of o) h.0 h.1
answer-same no_operator p r e f g h = refl

module _ (p : Image) (a : IsAdmitted p) (r : Seen) where
  -- one level more than enough changes nothing
  steady : (d e : ℕ) → Within p d e → eval_of p r (suc d) e ≡ eval_of p r d e
  unfolding eval_of
  steady zero e w = absurd (no-level p e w.deep)
  steady (suc d) e w = answer-same (operator_at p e) p r e _ _ (each_map (operator_at p e) p e _ _ (steady d) (operands-within p a d e w))

  pub value-answers : (e : ℕ) → e < expr_count p → value_of p r e ≡ answer_of (operator_at p e) p r e (value_of p r)
  unfolding shallow value_of eval_of
  value-answers e b =
      answer-same (operator_at p e) p r e _ _
      (each_map (operator_at p e) p e _ _ (λ x w. sym (steady 11 x w)) (operands-within p a 11 e (record { there = b; deep = is-shallow p a e b })))
