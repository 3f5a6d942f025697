-- `names::Tables::ask` meets its contract: the path is followed, and may be lost.
use Rattle.names.proofs.GoingUp.{none-is}
use mathlib.Core.Path.{ap, sym, ◌∙◌}
use Rattle.notation.specs.Hearing.{draft_of}
use Rattle.names.specs.Answers.{found_of}
use Rattle.names.proofs.Paths.{ask-none, ask-path, lost-at}
use Rattle.names.proofs.table.Tables.ask.Goals as goal

pub returns-in-Route : goal.returns-in-Route
returns-in-Route c = λ l a r ts z. c.err.ensures.value ∙ lost-at _ ∙ ap found_of (sym (ask-path _ (draft_of l) _ _ _ (c.path_first-q.ensures.0 l a r) c.in-Route.is ts z))

pub returns-in_default : goal.returns-in_default
returns-in_default c = λ l a r ts z. none-is ∙ ap found_of (sym (ask-none _ (draft_of l) _ _ _ (c.path_first-q.ensures.0 l a r) c.in_default.not-Route ts z))
