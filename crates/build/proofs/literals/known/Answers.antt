use native.Mathlib.Omega.{arith}
use Rattle.build.proofs.LiteralLaws.{known-are, unknown-are}
use Rattle.build.proofs.literals.known.Goals as goal

pub returns-then-says-lt39 : goal.returns-then-says-lt39
returns-then-says-lt39 c x l e h = known-are x l _ e c.if-says-lt39.true

pub returns-else-says-lt39 : goal.returns-else-says-lt39
returns-else-says-lt39 c x l e h = unknown-are x l _ e (omega arith)
