use mathlib.Core.Path.{◌∙◌}
use Rattle.build.proofs.PathLaws.{ops-are}
use Rattle.build.proofs.paths.ask_op.Goals as goal

pub returns : goal.returns
returns c h m = c.row.ensures.inside h ∙ ops-are _ h m
