use Rattle.build.proofs.Numbers.{row-binds}
use Rattle.build.proofs.entries.strength.Goals as goal

pub returns : goal.returns
returns c = row-binds _ _ c.row.ensures.inside c.row.ensures.before
