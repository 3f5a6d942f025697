-- `names::Tables::lookup_of` meets its contract: it is sought in the tale.
use mathlib.Core.Path.{ap, sym, ◌∙◌}
use Rattle.names.specs.Answers.{found_of}
use Rattle.names.proofs.Resolved.{lookup-said}
use Rattle.names.proofs.table.Tables.lookup_of.Goals as goal

pub returns : goal.returns
returns c = λ l a r. c.find.ensures.0 l a r ∙ ap found_of (sym (lookup-said _ l a _))
