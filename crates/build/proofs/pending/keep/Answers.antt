-- `build::pending::keep` meets its contract.
use mathlib.Core.Path.{refl}
use native.Mathlib.Omega.{arith}
use Rattle.build.proofs.pending.keep.Goals as goal

pub returns-then-says-eq91 : goal.returns-then-says-eq91
returns-then-says-eq91 c = (λ e. (c.raise.ensures, refl), λ f. absurd (f (omega arith)))

pub returns : goal.returns
returns c = (λ e. absurd (omega arith), λ f. c.push.ensures)
