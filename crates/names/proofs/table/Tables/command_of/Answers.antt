-- `names::Tables::command_of` meets its contract: it is sought in the tale.
use mathlib.Core.Path.{ap, sym, ◌∙◌}
use Rattle.names.specs.Answers.{found_of}
use Rattle.names.proofs.Resolved.{command-said}
use Rattle.names.proofs.table.Tables.command_of.Goals as goal

pub returns : goal.returns
returns c = λ l a r. c.find.ensures.0 l a r ∙ ap found_of (sym (command-said _ l a _))
