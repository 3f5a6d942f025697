-- `names::Tables::row` meets its contract: a row whose name does not lie in the text is in no fair table.
use native.Mathlib.Omega.{arith}
use mathlib.Core.Path.{refl}
use Rattle.names.proofs.RowLaws.{outside}
use Rattle.names.specs.Tables.{row_at, Fair}
use Rattle.names.proofs.table.Tables.row.Goals as goal

pub returns-in-Some : goal.returns-in-Some
unfolding row_at
returns-in-Some c = (λ f. record { name = refl; owner = refl }, record { ordered = c.in-Some.ensures.lookup.0.0; within = c.in-Some.ensures.lookup.0.1 })

pub returns-in-None : goal.returns-in-None
unfolding Fair
returns-in-None c = (λ f. absurd (outside c.in-None.ensures.lookup.0 f.0 f.1), record { ordered = omega arith; within = omega arith })
