use native.Mathlib.Omega.{arith}
use Rattle.build.proofs.Numbers.{swapped, unswapped}
use Rattle.build.proofs.entries.first.Goals as goal

pub returns-then-says-eq86 : goal.returns-then-says-eq86
returns-then-says-eq86 c o e = swapped o _ _ _ e (omega arith) (omega arith)

pub returns-then-says-eq87 : goal.returns-then-says-eq87
returns-then-says-eq87 c o e = swapped o _ _ _ e (omega arith) (omega arith)

pub returns-else-says-eq87 : goal.returns-else-says-eq87
returns-else-says-eq87 c o e = unswapped o _ _ _ e (λ q. omega arith) (λ q. omega arith)
