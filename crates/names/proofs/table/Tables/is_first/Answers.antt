-- `names::Tables::is_first` meets its contract: the first is this one.
use mathlib.Core.Path.{sym, ◌∙◌}
use Rattle.names.proofs.Paths.{first-is, first-none}
use Rattle.names.proofs.table.Tables.is_first.Goals as goal

pub returns-in-Some : goal.returns-in-Some
returns-in-Some c = λ l a r. first-is _ _ _ (sym c.in-Some.is ∙ c.find.ensures.0 l a r)

pub returns-in-None : goal.returns-in-None
returns-in-None c = λ l a r. first-none _ _ (sym c.in-None.is ∙ c.find.ensures.0 l a r)
