-- The table of s made that of t, entry by entry.
use Prim.Native.Nat.{ℕ, ◌+◌, ◌<◌, ◌≤◌}
use mathlib.Core.Path.{◌≡◌, refl, sym, ap, ap₂, ◌∙◌}
use mathlib.Core.Logic.{⊎_elim}
use mathlib.Core.Bool.{Bool, true, false, not}
use mathlib.Core.List.{List}
use native.Mathlib.Omega.{arith}
use lib.Dec.{eqb, ltb}
use lib.ListN.{get_or, length, set}
use lib.Seq.{get_or-set_same, get_or-set_other}
use borrow.Author.Tests.{ltb-true, ltb-false, eqb-true}
use Rattle.plexil.specs.declared.Cell.{Cell}
use Rattle.plexil.specs.Values.{encode}
use Rattle.plexil.specs.Image.{Image, expr_count}
use Rattle.plexil.specs.Places.{Seen}
use Rattle.plexil.specs.Expressions.{value_of}
use Rattle.plexil.proofs.ListLaws.{tested, same?}
use Rattle.answers.specs.Table.{answer, HasCell, Below}
use Rattle.answers.specs.Changes.{up, Unchanged, Upto, Outside}
use Rattle.answers.proofs.Filling.{cell-has, stored_here, stored-else}

-- what a place holds, as a cell
pub cell-read : {tags bits : List ℕ} {e : ℕ} {c : Cell} → HasCell tags bits e c → record { tag = get_or tags e 0; bits = get_or bits e 0 } ≡ c
cell-read {c = c} h = ap₂ (λ (x y : ℕ). record { tag = x; bits = y }) h.tag h.bit

module _ (p : Image) (r q : Seen) where
  -- an entry that keeps its value keeps its cell
  pub kept-cell : (e : ℕ) → value_of p r e ≡ value_of p q e → answer p r e ≡ answer p q e
  unfolding answer
  kept-cell e v = ap encode v

  -- ---- the table as a loop goes
  pub upto-start : {tags bits : List ℕ} (lo hi : ℕ) → Outside p r q lo hi → Below p r (expr_count p) tags bits → Upto p r q lo tags bits
  upto-start lo hi o h = record { below = λ e b m. cell-has (h e m) (kept-cell e (o.under e b m)); from = λ e b m. h e m }

  pub upto_next : {n : ℕ} {tags bits : List ℕ} (c : Cell) → Upto p r q n tags bits → n < length tags → n < length bits → c ≡ answer p q n
      → Upto p r q (n + 1) (set tags n c.tag) (set bits n c.bits)
  upto_next {n} {tags} {bits} c u lt lb w =
      record { below = new; from = λ e b m. stored-else tags bits n c e (λ (k : e ≡ n). omega arith) (u.from e (omega arith) m) }
    where
      new : (e : ℕ) → e < n + 1 → e < expr_count p → HasCell (set tags n c.tag) (set bits n c.bits) e (answer p q e)
      new e b m =
          ⊎_elim
          (λ (k : e ≡ n). rw k (stored_here tags bits n c lt lb w))
          (λ apart. stored-else tags bits n c e apart (u.below e (omega arith) m))
          (same? e n)

  pub upto-end : {n hi : ℕ} {tags bits : List ℕ} (lo : ℕ) → Upto p r q n tags bits → Outside p r q lo hi → hi ≤ n → Below p q (expr_count p) tags bits
  upto-end {n} {hi} lo u o h e m =
      ⊎_elim
      (λ b. u.below e (ltb-true e n b) m)
      (λ b. cell-has (u.from e (ltb-false e n b) m) (kept-cell e (o.over e (omega (arith, ltb-false e n b)) m)))
      (tested (ltb e n))

  -- ---- the flags as a loop goes
  pub flags-start : (changed : List ℕ) (lo hi : ℕ) → Outside p r q lo hi → lo ≤ expr_count p → Unchanged p r q changed lo
  flags-start changed lo hi o h e b d = o.under e b (omega arith)

  down : (f : ℕ) → not (eqb f 0) ≡ false → f ≡ 0
  down f h = eqb-true f 0 (by (eqb f 0) h)
    where
      by : (b : Bool) → not b ≡ false → b ≡ true
      by true w = refl
      by false w = sym w

  pub flags-next : {n f : ℕ} (changed : List ℕ) → Unchanged p r q changed n → n < length changed → (f ≡ 0 → value_of p r n ≡ value_of p q n)
      → Unchanged p r q (set changed n f) (n + 1)
  unfolding up
  flags-next {n} {f} changed u l v e b d =
      ⊎_elim
      (λ (k : e ≡ n). rw k (v (sym (get_or-set_same changed n f 0 l) ∙ ap (λ (j : ℕ). get_or (set changed n f) j 0) (sym k) ∙ down _ d)))
      (λ apart. u e (omega arith) (ap (λ (z : ℕ). not (eqb z 0)) (sym (get_or-set_other changed n e f 0 apart)) ∙ d))
      (same? e n)

  pub flags-end : {n hi : ℕ} (changed : List ℕ) (lo : ℕ) → Unchanged p r q changed n → Outside p r q lo hi → hi ≤ n → Unchanged p r q changed (expr_count p)
  flags-end {n} {hi} changed lo u o h e m d =
      ⊎_elim (λ b. u e (ltb-true e n b) d) (λ b. o.over e (omega (arith, ltb-false e n b)) m) (tested (ltb e n))
