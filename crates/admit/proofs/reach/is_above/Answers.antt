-- One node up in each turn.
use Prim.Native.Nat.{ℕ}
use mathlib.Core.Path.{sym, ap, ◌∙◌}
use native.Mathlib.Omega.{arith}
use Rattle.plexil.specs.Image.{parent}
use Rattle.plexil.specs.Scope.{is_above}
use Rattle.admit.proofs.Scope.{above-here, above-top, above-up, above-none}
use Rattle.admit.proofs.reach.is_above.Goals as goal

pub returns-then-owner-i : goal.returns-then-owner-i
returns-then-owner-i c = sym (c.loop.invariant ∙ above-here _ _ _ _ (omega arith) c.if-owner-i.true)

pub returns-then-i-eq0 : goal.returns-then-i-eq0
returns-then-i-eq0 c = sym (c.loop.invariant ∙ above-top _ _ _ _ c.if-owner-i.false c.if-i-eq0.true)

pub loop-preserved : goal.loop-preserved
loop-preserved c = c.loop.invariant
    ∙ above-up _ _ _ _ (omega arith) c.if-owner-i.false c.if-i-eq0.false
    ∙ ap (λ (n : ℕ). is_above c.args.image.now n c.args.owner (parent c.args.image.now c.loop.i)) (omega arith)
    ∙ ap (is_above _ _ _) (sym c.parent-i.ensures)

pub returns : goal.returns
returns c = sym (c.loop.invariant ∙ above-none _ _ _ _ (omega arith))
