-- `names::judge::held_from` meets its contract: it is made so.
use mathlib.Core.Path.{refl}
use Rattle.names.specs.Judging as Judging
use Rattle.names.proofs.judge.held_from.Goals as goal

pub returns : goal.returns
unfolding Judging.held_from
returns c = refl
