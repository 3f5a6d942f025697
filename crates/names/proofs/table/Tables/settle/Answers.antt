-- `names::Tables::settle` meets its contract: a held name is looked for as a variable.
use Rattle.names.proofs.GoingUp.{none-is}
use mathlib.Core.Path.{ap, sym, ◌∙◌}
use Rattle.notation.specs.Hearing.{draft_of}
use Rattle.recognise.specs.Hears.{piece}
use Rattle.names.specs.Answers.{found_of}
use Rattle.names.specs.Judging.{unless_of}
use Rattle.names.proofs.Paths.{settle-none, settle-one}
use Rattle.names.proofs.Judgements.{answer-found}
use Rattle.names.proofs.table.Tables.settle.Goals as goal

pub returns-in-Nothing : goal.returns-in-Nothing
returns-in-Nothing c = λ l a r ts z. none-is ∙ ap found_of (sym (settle-none _ (draft_of l) _ _ c.in-Nothing.is ts z))

pub returns-in_default : goal.returns-in_default
unfolding piece
returns-in_default c = λ l a r ts z. c.unless.ensures ∙ ap (λ t. found_of (unless_of t c.args.p.from)) (c.is_some.ensures ∙ answer-found _ _ (c.variable_of-f.ensures l a r)) ∙ ap found_of (sym (settle-one _ (draft_of l) _ _ c.in_default.not-Nothing ts z))
