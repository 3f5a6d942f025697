-- `build::pending::end_one` meets its contract.
use native.Mathlib.Omega.{arith}
use Rattle.build.proofs.UnwindLaws.{emits-last}
use Rattle.build.proofs.pending.end_one.Goals as goal

pub returns-then-says-eq79 : goal.returns-then-says-eq79
returns-then-says-eq79 c = (λ e. emits-last _ _ _ _ _ _ c.last.ensures c.emit.ensures, λ f. absurd (f (omega arith)))

pub returns : goal.returns
returns c = (λ e. absurd (omega arith), λ f. c.end_operator.ensures)
