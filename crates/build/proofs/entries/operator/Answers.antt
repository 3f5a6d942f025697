use mathlib.Core.Path.{◌∙◌}
use native.Mathlib.Omega.{arith}
use Rattle.build.proofs.Numbers.{operator-range, code_at}
use Rattle.build.proofs.entries.operator.Goals as goal

pub returns : goal.returns
returns c o e = c.row.ensures.inside (omega (arith, operator-range o)) ∙ code_at _ o e
