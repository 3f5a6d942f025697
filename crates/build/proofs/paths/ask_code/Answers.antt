use mathlib.Core.Path.{◌∙◌}
use Rattle.build.proofs.PathLaws.{codes-are}
use Rattle.build.proofs.paths.ask_code.Goals as goal

pub returns : goal.returns
returns c h m = c.row.ensures.inside h ∙ codes-are _ h m
