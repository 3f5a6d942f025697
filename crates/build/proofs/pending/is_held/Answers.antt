-- `build::pending::is_held` meets its contract.
use mathlib.Core.Bool.{true≢false}
use native.Mathlib.Omega.{arith}
use borrow.Author.Tests.{ltb-true, ltb-false}
use Rattle.build.specs.Pendings.{group}
use Rattle.build.proofs.UnwindLaws.{held-weaker}
use Rattle.build.proofs.pending.is_held.Goals as goal

pub returns-then-t-gt2048 : goal.returns-then-t-gt2048
returns-then-t-gt2048 c h = absurd (omega arith)

pub returns-then-pending-i-ne0 : goal.returns-then-pending-i-ne0
returns-then-pending-i-ne0 c h = (λ e z. group c.if-pending-i-ne0.true, λ e. absurd (true≢false e))

pub returns : goal.returns
returns c h = (λ e z. held-weaker _ _ _ _ z c.weight.ensures (ltb-true _ _ e), λ e. (c.if-pending-i-ne0.false, c.weight.result, c.weight.ensures, ltb-false _ _ e))
