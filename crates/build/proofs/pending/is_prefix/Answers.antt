-- `build::pending::is_prefix` meets its contract.
use mathlib.Core.Bool.{true≢false}
use native.Mathlib.Omega.{arith}
use borrow.Author.Tests.{eqb-true, eqb-false}
use Rattle.build.proofs.pending.is_prefix.Goals as goal

pub returns-then-says-eq91 : goal.returns-then-says-eq91
returns-then-says-eq91 c = (λ e. absurd (true≢false e), λ e f. absurd (f (omega arith)))

pub returns : goal.returns
returns c = (λ e. (λ z. absurd (omega arith), eqb-false _ _ e), λ e f. eqb-true _ _ e)
