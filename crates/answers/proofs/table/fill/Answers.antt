-- After e turns the first e entries are answered, so that the operands of entry e are.
use Prim.Native.Nat.{ℕ, ◌<◌}
use mathlib.Core.Path.{ap, ◌∙◌}
use native.Mathlib.Omega.{arith}
use lib.ListN.{length, length-set}
use Rattle.plexil.specs.Values.{encode}
use Rattle.plexil.specs.Image.{expr_count}
use Rattle.plexil.proofs.Admitted.{few-entries}
use Rattle.image.proofs.Laws.{exprs_at-below}
use Rattle.answers.proofs.Filling.{below_none, below_next, below_all, worked-out}
use Rattle.answers.proofs.table.fill.Goals as goal

pub loop-e-init : goal.loop-e-init
loop-e-init c = (c.expr_count-e-end.ensures, c.requires.1, c.requires.2, λ s h k. below_none _ s _ _)

pub answer-requires : goal.answer-requires
answer-requires c = (c.exprs_at-base.ensures, omega (arith, c.exprs_at-base.ensures, exprs_at-below c.args.image.now c.type_inv.image))

pub bounds-tags-k : goal.bounds-tags-k
bounds-tags-k c = omega (arith, few-entries _ c.requires.0)

pub bounds-bits-k : goal.bounds-bits-k
bounds-bits-k c = omega (arith, few-entries _ c.requires.0)

pub loop-e-preserved : goal.loop-e-preserved
loop-e-preserved c = let l = c.loop-e in
    let few = few-entries _ c.requires.0 in
    let b : l.e < expr_count c.args.image.now = omega arith in
    let lt : l.e < length l.tags = omega (arith, few, l.invariant.1) in
    let lb : l.e < length l.bits = omega (arith, few, l.invariant.2) in (
      l.invariant.0,
      length-set {A = ℕ} l.tags l.e c.encode-c.result.tag ∙ l.invariant.1,
      length-set {A = ℕ} l.bits l.e c.encode-c.result.bits ∙ l.invariant.2,
      λ s h k. below_next _ s l.tags l.bits l.e c.encode-c.result lt lb (l.invariant.3 s h k)
          (c.encode-c.ensures ∙ (ap encode c.answer.ensures ∙ worked-out _ c.requires.0 s k l.e b h (l.invariant.3 s h k))),
    )

pub returns : goal.returns
returns c = λ s h k. record { admitted = c.requires.0; kept = k; right = below_all _ s _ _ (c.loop-e.invariant.3 s h k) (omega arith) }
