-- Below e the table is that of the new state, from e on that of the old one.
use Prim.Native.Nat.{ℕ, ◌<◌}
use mathlib.Core.Path.{◌∙◌}
use native.Mathlib.Omega.{arith}
use lib.ListN.{length, length-set}
use Rattle.plexil.specs.Image.{expr_count}
use Rattle.plexil.proofs.Admitted.{few-entries}
use Rattle.image.proofs.Laws.{exprs_at-below}
use Rattle.answers.proofs.Renewing.{cell-read, upto-start, upto_next, upto-end, flags-start, flags-next, flags-end}
use Rattle.answers.proofs.renewal.refresh.Goals as goal

pub loop-e-init : goal.loop-e-init
loop-e-init c = (c.requires.3, c.requires.4, c.requires.5, λ s t b kt h v o. (upto-start _ _ _ _ _ o b.right, flags-start _ _ _ _ _ _ o c.requires.1))

pub bounds-tags-k : goal.bounds-tags-k
bounds-tags-k c = omega (arith, few-entries _ c.requires.0, c.requires.2)

pub bounds-bits-k : goal.bounds-bits-k
bounds-bits-k c = omega (arith, few-entries _ c.requires.0, c.requires.2)

pub entry_anew-r-requires : goal.entry_anew-r-requires
entry_anew-r-requires c = let at = c.exprs_at-base.ensures in
    (c.requires.0, at, omega (arith, at, exprs_at-below c.args.image.now c.type_inv.image), omega (arith, c.requires.2))

pub bounds-tags-k-in-loop-e : goal.bounds-tags-k-in-loop-e
bounds-tags-k-in-loop-e c = omega (arith, few-entries _ c.requires.0, c.requires.2)

pub bounds-bits-k-in-loop-e : goal.bounds-bits-k-in-loop-e
bounds-bits-k-in-loop-e c = omega (arith, few-entries _ c.requires.0, c.requires.2)

pub bounds-changed-k : goal.bounds-changed-k
bounds-changed-k c = omega (arith, few-entries _ c.requires.0, c.requires.2)

pub loop-e-preserved : goal.loop-e-preserved
loop-e-preserved c = let l = c.loop-e in
    let few = few-entries _ c.requires.0 in
    let b : l.e < expr_count c.args.image.now = omega (arith, c.requires.2) in
    let lt : l.e < length l.tags = omega (arith, few, l.invariant.0) in
    let lb : l.e < length l.bits = omega (arith, few, l.invariant.1) in
    let lc : l.e < length l.changed = omega (arith, few, l.invariant.2) in (
      length-set {A = ℕ} l.tags l.e c.entry_anew-r.result.cell.tag ∙ l.invariant.0,
      length-set {A = ℕ} l.bits l.e c.entry_anew-r.result.cell.bits ∙ l.invariant.1,
      length-set {A = ℕ} l.changed l.e c.entry_anew-r.result.changed ∙ l.invariant.2,
      λ s t a kt h v o.
          let u = l.invariant.3 s t a kt h v o in
          let w = c.entry_anew-r.ensures s t a.kept kt h v u.0 u.1 (cell-read (u.0.from l.e (omega arith) b)) in
          (upto_next _ _ _ c.entry_anew-r.result.cell u.0 lt lb w.0, flags-next _ _ _ _ u.1 lc w.1),
    )

pub returns : goal.returns
returns c = λ s t a kt h v o.
    let u = c.loop-e.invariant.3 s t a kt h v o in
    (record { admitted = a.admitted; kept = kt; right = upto-end _ _ _ _ u.0 o (omega arith) }, flags-end _ _ _ _ _ u.1 o (omega arith))
