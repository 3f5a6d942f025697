-- An entry that reads nothing that changed has its value still: "fewer evaluations on quiet nodes with identical results".
use Prim.Native.Nat.{ℕ, ◌<◌}
use mathlib.Core.Path.{◌≡◌, refl, sym, ap, ap₂, ◌∙◌}
use mathlib.Core.Bool.{Bool, true, false, true≢false}
use mathlib.Core.List.{List, [], ◌∷◌}
use Rattle.plexil.specs.declared.Worked.{Worked}
use Rattle.plexil.specs.declared.State.{State}
use Rattle.plexil.specs.Lists.{when◌then◌else◌, some}
use Rattle.plexil.specs.Values.{not_of, decode}
use Rattle.plexil.specs.Image.{Image, expr_count}
use Rattle.plexil.specs.Places.{Seen, seen}
use Rattle.plexil.specs.Expressions.{Leaf, constant_op, variable_op, lookup_op, status_op, outcome_op, failure_op, Operator, leaf, not_op, binary, no_operator, operator_at, leaf_of, binary_of, answer_of, value_of}
use Rattle.plexil.specs.Promises.{IsAdmitted, IsKept}
use Rattle.plexil.proofs.EntryKinds.{Each, each_map, operands-lower}
use Rattle.answers.specs.Table.{answer}
use Rattle.answers.specs.Changes.{up, Covers, leaf_touched, touched_by, touched, Untouched}
use Rattle.answers.proofs.Steady.{value-answers}
use Rattle.answers.proofs.Filling.{answer-tells}

-- ---- no test of two passes
neither-first : (a b : Bool) → some (a ∷ b ∷ []) ≡ false → a ≡ false
unfolding some when◌then◌else◌
neither-first true b h = absurd (true≢false h)
neither-first false b h = refl

neither-second : (a b : Bool) → some (a ∷ b ∷ []) ≡ false → b ≡ false
unfolding some when◌then◌else◌
neither-second true b h = absurd (true≢false h)
neither-second false true h = absurd (true≢false h)
neither-second false false h = refl

module _ (p : Image) (r q : Seen) (altered : List ℕ) (v : Covers r q altered) where
  -- ---- equal reads give equal values
  leaf-same : (o : Leaf) (e : ℕ) → leaf_touched o p altered e ≡ false → leaf_of o p r e ≡ leaf_of o p q e
  unfolding leaf_touched leaf_of
  leaf-same constant_op e h = refl
  leaf-same variable_op e h = rw ((v.vars _ h).tag, (v.vars _ h).bits)
  leaf-same lookup_op e h = rw ((v.looks _ h).tag, (v.looks _ h).bits)
  leaf-same status_op e h = rw (v.nodes _ h).status
  leaf-same outcome_op e h = rw (v.nodes _ h).outcome
  leaf-same failure_op e h = rw (v.nodes _ h).failure

  pub answer-leaf-same : (o : Leaf) (e : ℕ) (f g : ℕ → Worked) → leaf_touched o p altered e ≡ false → answer_of (leaf o) p r e f ≡ answer_of (leaf o) p q e g
  unfolding answer_of
  answer-leaf-same o e f g h = leaf-same o e h

  answer-untouched : (o : Operator) (changed : List ℕ) (e : ℕ) (f g : ℕ → Worked) → touched_by o p altered changed e ≡ false
      → Each o p e (λ x. up changed x ≡ false → f x ≡ g x) → answer_of o p r e f ≡ answer_of o p q e g
  unfolding touched_by answer_of
  answer-untouched (leaf o) changed e f g h w = leaf-same o e h
  answer-untouched not_op changed e f g h w = ap not_of (w h)
  answer-untouched (binary o) changed e f g h w = ap₂ (binary_of o) (w.0 (neither-first _ _ h)) (w.1 (neither-second _ _ h))
  answer-untouched no_operator changed e f g h w = refl

pub untouched : Untouched
unfolding touched
untouched p r q altered a v changed e b u h =
    value-answers p a r e b
    ∙ (answer-untouched p r q altered v (operator_at p e) changed e _ _ h (each_map (operator_at p e) p e _ _ (λ x m. u x m) (operands-lower p a e b))
    ∙ sym (value-answers p a q e b))

-- an entry that was worked out anew and whose cell came out as it was has its value still
pub same-cell : (p : Image) (s t : State) → IsAdmitted p → IsKept p s → IsKept p t → (e : ℕ) → e < expr_count p
    → (answer p (seen s) e).tag ≡ (answer p (seen t) e).tag → (answer p (seen s) e).bits ≡ (answer p (seen t) e).bits → value_of p (seen s) e ≡ value_of p (seen t) e
same-cell p s t a ks kt e b ht hb = sym (answer-tells p a s ks e b) ∙ (ap₂ decode ht hb ∙ answer-tells p a t kt e b)
