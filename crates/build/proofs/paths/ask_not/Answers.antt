use mathlib.Core.Path.{◌∙◌}
use Rattle.build.proofs.PathLaws.{nots-are}
use Rattle.build.proofs.paths.ask_not.Goals as goal

pub returns : goal.returns
returns c h m = c.row.ensures.inside h ∙ nots-are _ h m
