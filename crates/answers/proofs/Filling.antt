-- The table so far tells the operands' values, so that the entry's answer from it is the entry's value.
use Prim.Native.Nat.{ℕ, ◌+◌, ◌<◌, ◌≤◌}
use mathlib.Core.Path.{◌≡◌, sym, ap, ap₂, ◌∙◌}
use mathlib.Core.Logic.{⊎_elim}
use mathlib.Core.List.{List}
use native.Mathlib.Omega.{arith}
use lib.ListN.{length, set}
use lib.Seq.{get_or-set_same, get_or-set_other}
use Rattle.plexil.specs.declared.Cell.{Cell}
use Rattle.plexil.specs.declared.State.{State}
use Rattle.plexil.specs.Values.{decode, encode}
use Rattle.plexil.specs.Image.{Image, expr_count}
use Rattle.plexil.specs.Places.{Seen, seen}
use Rattle.plexil.specs.Expressions.{operator_at, answer_of, value_of}
use Rattle.plexil.specs.Scope.{shallow}
use Rattle.plexil.specs.Kinds.{Has}
use Rattle.plexil.specs.Promises.{IsAdmitted, IsKept}
use Rattle.plexil.proofs.ListLaws.{same?}
use Rattle.plexil.proofs.Admitted.{is-shallow}
use Rattle.plexil.proofs.EntryKinds.{each_map, operands-lower, eval-has}
use Rattle.answers.specs.Table.{answer, told, HasCell, Below, TableTells}
use Rattle.answers.proofs.Steady.{answer-same, value-answers}
use Rattle.answers.proofs.Lossless.{read_back}

-- ---- a cell by its parts
pub cell-has : {tags bits : List ℕ} {e : ℕ} {c d : Cell} → HasCell tags bits e c → c ≡ d → HasCell tags bits e d
cell-has h q = record { tag = h.tag ∙ ap (λ (z : Cell). z.tag) q; bit = h.bit ∙ ap (λ (z : Cell). z.bits) q }

-- ---- place n of a table is stored
module _ (tags bits : List ℕ) (n : ℕ) (c : Cell) where
  pub stored_here : {d : Cell} → n < length tags → n < length bits → c ≡ d → HasCell (set tags n c.tag) (set bits n c.bits) n d
  stored_here lt lb q = cell-has (record { tag = get_or-set_same tags n c.tag 0 lt; bit = get_or-set_same bits n c.bits 0 lb }) q

  pub stored-else : (e : ℕ) → (e ≡ n → ⊥) → {d : Cell} → HasCell tags bits e d → HasCell (set tags n c.tag) (set bits n c.bits) e d
  stored-else e apart h = record { tag = get_or-set_other tags n e c.tag 0 apart ∙ h.tag; bit = get_or-set_other bits n e c.bits 0 apart ∙ h.bit }

module _ (p : Image) (a : IsAdmitted p) (s : State) (k : IsKept p s) where
  value-has : (e : ℕ) → e < expr_count p → (n : ℕ) × Has n (value_of p (seen s) e)
  unfolding value_of shallow
  value-has e b = (_, eval-has p a s k 12 e (record { there = b; deep = is-shallow p a e b }))

  -- an entry's cell keeps its value
  pub answer-tells : (e : ℕ) → e < expr_count p → decode (answer p (seen s) e).tag (answer p (seen s) e).bits ≡ value_of p (seen s) e
  unfolding answer
  answer-tells e b = read_back (value-has e b).1

  pub cell-tells : {tags bits : List ℕ} (e : ℕ) → e < expr_count p → HasCell tags bits e (answer p (seen s) e) → told tags bits e ≡ value_of p (seen s) e
  cell-tells e b h = ap₂ decode h.tag h.bit ∙ answer-tells e b

  -- an entry worked out from a table that answers those below it; arrays is how the code has what the state shows
  pub worked-out : {tags bits : List ℕ} (e : ℕ) → e < expr_count p → {arrays : Seen} → seen s ≡ arrays → Below p (seen s) e tags bits
      → encode (answer_of (operator_at p e) p arrays e (told tags bits)) ≡ answer p (seen s) e
  unfolding answer
  worked-out {tags} {bits} e b h u =
      ap (λ (r : Seen). encode (answer_of (operator_at p e) p r e (told tags bits))) (sym h)
      ∙ ap encode
      (answer-same (operator_at p e) p (seen s) e _ _ (each_map (operator_at p e) p e _ _ (λ x m. cell-tells x (omega arith) (u x m)) (operands-lower p a e b))
      ∙ sym (value-answers p a (seen s) e b))

-- ---- the table as a loop goes
pub below_none : (p : Image) (s : State) (tags bits : List ℕ) → Below p (seen s) 0 tags bits
below_none p s tags bits e b = absurd (omega arith)

pub below_next : (p : Image) (s : State) (tags bits : List ℕ) (n : ℕ) (c : Cell) → n < length tags → n < length bits → Below p (seen s) n tags bits → c ≡ answer p (seen s) n
    → Below p (seen s) (n + 1) (set tags n c.tag) (set bits n c.bits)
below_next p s tags bits n c lt lb h q e b =
    ⊎_elim
    (λ (w : e ≡ n). rw w (stored_here tags bits n c lt lb q))
    (λ apart. stored-else tags bits n c e apart (h e (omega arith)))
    (same? e n)

pub below_all : (p : Image) (s : State) (tags bits : List ℕ) {n : ℕ} → Below p (seen s) n tags bits → expr_count p ≤ n → Below p (seen s) (expr_count p) tags bits
below_all p s tags bits h m e b = h e (omega arith)

pub table-tells : TableTells
table-tells p s tags bits t e b = cell-tells p t.admitted s t.kept e b (t.right e b)
