-- One turn of the evaluation: it answers as the definition does, and what is pending below the top stays.
use Prim.Native.Nat.{ℕ, zero, suc, ◌+◌, ◌-◌, ◌*◌, ◌≤◌, ◌<◌}
use mathlib.Core.Path.{◌≡◌, refl, sym, ap, ◌∙◌}
use mathlib.Core.List.{List}
use native.Mathlib.Omega.{arith}
use lib.ListN.{length, get_or, set}
use lib.Seq.{get_or-set_same, get_or-set_other}
use Rattle.plexil.specs.declared.Worked.{Worked}
use Rattle.plexil.specs.declared.Worked.TheVariants.{Clash}
use Rattle.plexil.specs.Image.{Image, exprs_at, expr_at, operator}
use Rattle.plexil.specs.Bytes.{byte_at, le16}
use Rattle.plexil.specs.Places.{Seen}
use Rattle.plexil.specs.Expressions.{Operator, Leaf, leaf, binary, not_op, no_operator, operator_of, operator_at, answer_of, eval_of}
use Rattle.plexil.proofs.OperatorNumbers.{a-leaf, a-binary, no-operator}
use Rattle.evaluate.specs.Binary.{join_of}
use Rattle.evaluate.specs.Leaves.{leaf_answer}
use Rattle.evaluate.specs.Pending.{entered_by, entered_of, ended_of, resumed, turns_of, turns_to_end, pending_turns}
use Rattle.evaluate.specs.declared.entries.Pending.{Pending}
use Rattle.evaluate.specs.declared.entries.Pending.TheVariants.{Not, First, Second}
use Rattle.evaluate.specs.declared.entries.Entry.{Entry}
use Rattle.evaluate.specs.declared.entries.Entry.TheVariants.{Value, Operand}
use Rattle.evaluate.proofs.Laws.{is-a, is_b, leaf-answers}

-- ---- the turn of an entry, whose section stands at base, by its depth and the number of its operator
pub entered_deep : (p : Image) (s : Seen) (depth e : ℕ) → 12 ≤ depth → Value Clash ≡ entered_of p s (12 - depth) e
unfolding entered_of
entered_deep p s depth e h = ap (λ k. entered_of p s k e) {x = 0} {y = 12 - depth} (omega (arith, h))

module _ (p : Image) (s : Seen) (e : ℕ) {depth base op : ℕ} (deep : 12 ≤ depth → ⊥) (at : base ≡ exprs_at p) (is : op ≡ byte_at p (base + 16 * e)) where
  entered-is : entered_by (operator_of op) p s e ≡ entered_of p s (12 - depth) e
  unfolding entered_of operator_at operator expr_at
  entered-is = rw (is, at) (sym (ap (λ k. entered_of p s k e) (pred_of depth deep)))
    where
      pred_of : (d : ℕ) → (12 ≤ d → ⊥) → 12 - d ≡ suc (11 - d)
      pred_of d n = omega (arith, n)

  pub entered_leaf : op < 6 → (v : Worked) → v ≡ leaf_answer p (base + 16 * e) op s → Value v ≡ entered_of p s (12 - depth) e
  unfolding entered_by answer_of
  entered_leaf l v h = rw h (by (operator_of op) (a-leaf op l).0 (a-leaf op l).1 (leaf-answers p s e (λ x. Clash) at l) entered-is)
    where
      by : (o : Operator) (f : Leaf) → o ≡ leaf f → {v : Worked} {t : Entry} → v ≡ answer_of o p s e (λ x. Clash) → entered_by o p s e ≡ t → Value v ≡ t
      by o f g h t = ap Value (rw g at h) ∙ (rw g at t)

  pub entered_none : 14 < op → Value Clash ≡ entered_of p s (12 - depth) e
  unfolding entered_by
  entered_none l = rw (no-operator op l) at entered-is

  pub entered_not : op ≡ 6 → (a : ℕ) → a ≡ le16 p (base + 16 * e + 2) → Operand Not a ≡ entered_of p s (12 - depth) e
  unfolding entered_by operator_of
  entered_not l a h = rw (is-a p e at h) (rw l at entered-is)

  pub entered_binary : 6 < op → op ≤ 14 → (a b : ℕ) → a ≡ le16 p (base + 16 * e + 2) → b ≡ le16 p (base + 16 * e + 4) → Operand (First op b) a ≡ entered_of p s (12 - depth) e
  unfolding entered_by operator expr_at
  entered_binary l g a b h k = rw (is-a p e at h, is_b p e at k, is, at) (rw (a-binary op l g).1 at entered-is)

-- ---- an entry that comes to a value, and one whose operator waits, which has a level for its operands
abbrev pub Answers : Image → Seen → ℕ → Worked → Entry → Type 0
Answers p s left r (Value v) = v ≡ r
Answers p s left r (Operand w a) = (0 < left) × (ended_of p s (left - 1) w (eval_of p s (left - 1) a) ≡ r)

pub entered-answers : (p : Image) (s : Seen) (left e : ℕ) → Answers p s left (eval_of p s left e) (entered_of p s left e)
unfolding entered_of entered_by eval_of answer_of ended_of join_of operator_at
entered-answers p s zero e = refl
entered-answers p s (suc left) e = by (operator_at p e) refl
  where
    one : suc left - 1 ≡ left
    one = omega arith

    by : (o : Operator) → operator_at p e ≡ o → Answers p s (suc left) (answer_of o p s e (λ x. eval_of p s left x)) (entered_by o p s e)
    by (leaf o) h = refl
    by not_op h = (omega arith, rw one refl)
    by (binary o) h = (omega arith, rw (one, h) refl)
    by no_operator h = refl

-- ---- what is pending below n is told by the places below n
abbrev Alike : ℕ → List Pending → List Pending → Type 0
Alike n l m = (i : ℕ) → i < n → get_or l i Not ≡ get_or m i Not

alike-set : (l : List Pending) (n : ℕ) (w : Pending) → Alike n (set l n w) l
alike-set l n w i j = get_or-set_other l n i w Not (λ (e : i ≡ n). omega arith)

resumed-alike : (p : Image) (s : Seen) (n : ℕ) (l m : List Pending) (left : ℕ) (v : Worked) → Alike n l m → resumed p s n l left v ≡ resumed p s n m left v
unfolding resumed
resumed-alike p s zero l m left v f = refl
resumed-alike p s (suc n) l m left v f = rw (f n (omega arith)) (resumed-alike p s n l m (suc left) (ended_of p s left (get_or m n Not) v) (λ i h. f i (omega arith)))

turns-alike : (n : ℕ) (l m : List Pending) (left : ℕ) → Alike n l m → pending_turns n l left ≡ pending_turns n m left
unfolding pending_turns
turns-alike zero l m left f = refl
turns-alike (suc n) l m left f =
    rw (f n (omega arith)) (ap (λ (k : ℕ). turns_to_end left (get_or m n Not) + k) (turns-alike n l m (suc left) (λ i h. f i (omega arith))))

-- ---- an operator is put in place n, and its operand is gone into
pub pushed : (p : Image) (s : Seen) (pending : List Pending) (n left : ℕ) (w : Pending) (v : Worked) → n < length pending
    → resumed p s (suc n) (set pending n w) left v ≡ resumed p s n pending (suc left) (ended_of p s left w v)
unfolding resumed
pushed p s pending n left w v h = rw (get_or-set_same pending n w Not h) (resumed-alike p s n (set pending n w) pending (suc left) (ended_of p s left w v) (alike-set pending n w))

pub push-turns : (pending : List Pending) (n left : ℕ) (w : Pending) → n < length pending
    → pending_turns (suc n) (set pending n w) left ≡ turns_to_end left w + pending_turns n pending (suc left)
unfolding pending_turns
push-turns pending n left w h =
    rw (get_or-set_same pending n w Not h) (ap (λ (k : ℕ). turns_to_end left w + k) (turns-alike n (set pending n w) pending (suc left) (alike-set pending n w)))

pub some-turns : (left : ℕ) → 0 < turns_of left
unfolding turns_of
some-turns zero = omega arith
some-turns (suc left) = omega arith

pub end-turns : (left : ℕ) (w : Pending) → (0 < turns_to_end left w) × (turns_to_end left w ≤ turns_of left + 2)
unfolding turns_to_end
end-turns left Not = (omega arith, omega arith)
end-turns left (First op b) = (omega arith, omega arith)
end-turns left (Second op x) = (omega arith, omega arith)
