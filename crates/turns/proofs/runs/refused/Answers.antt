-- The reply is the record that the contract names.
use mathlib.Core.Path.{refl}
use Rattle.turns.proofs.runs.refused.Goals as goal

pub returns : goal.returns
returns c = refl
