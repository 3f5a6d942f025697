-- Each arm is what the change asks.
use Rattle.recognise.proofs.CountBy.{count_by, weight-small, flagged-small, byte-flagged, settles-by, node_by, closes-by}
use Rattle.recognise.specs.Counting.{adds, command, lookup, node, opens, closes_one, variable, holds, answers, settles, changed}
use Rattle.recognise.specs.Replies.{change_is}
use native.Mathlib.Omega.{arith}
use mathlib.Core.Path.{◌∙◌, sym, ap}
use Rattle.recognise.proofs.counting.count.Goals as goal

pub overflow_add-r : goal.overflow_add-r
overflow_add-r c = omega (arith, weight-small c.args.says, c.weight-w.ensures, c.requires.1.entries, flagged-small c.args.c.held)

pub overflow_add-result-in-Settles : goal.overflow_add-result-in-Settles
overflow_add-result-in-Settles c = omega (arith, weight-small c.args.says, c.weight-w.ensures, c.requires.1.entries, flagged-small c.args.c.held, byte-flagged c.args.c.held)

pub returns-in-Adds : goal.returns-in-Adds
unfolding changed change_is
returns-in-Adds c = count_by _ _ _ c.requires.0 c.weight-w.ensures adds (ap change_is (sym c.in-Adds.is) ∙ c.change_at.ensures)

pub returns-in-Command : goal.returns-in-Command
unfolding changed change_is
returns-in-Command c = count_by _ _ _ c.requires.0 c.weight-w.ensures command (ap change_is (sym c.in-Command.is) ∙ c.change_at.ensures)

pub returns-in-Lookup : goal.returns-in-Lookup
unfolding changed change_is
returns-in-Lookup c = count_by _ _ _ c.requires.0 c.weight-w.ensures lookup (ap change_is (sym c.in-Lookup.is) ∙ c.change_at.ensures)

pub returns-in-Node : goal.returns-in-Node
unfolding changed change_is
returns-in-Node c = node_by c.args.c c.weight-w.result c.args.place c.place_of.ensures ∙ count_by _ _ _ c.requires.0 c.weight-w.ensures node (ap change_is (sym c.in-Node.is) ∙ c.change_at.ensures)

pub returns-in-Opens : goal.returns-in-Opens
unfolding changed change_is
returns-in-Opens c = count_by _ _ _ c.requires.0 c.weight-w.ensures opens (ap change_is (sym c.in-Opens.is) ∙ c.change_at.ensures)

pub returns-in-ClosesOne : goal.returns-in-ClosesOne
unfolding changed change_is
returns-in-ClosesOne c = closes-by c.args.c c.weight-w.result c.args.place c.saturating_sub.ensures ∙ count_by _ _ _ c.requires.0 c.weight-w.ensures closes_one (ap change_is (sym c.in-ClosesOne.is) ∙ c.change_at.ensures)

pub returns-in-Variable : goal.returns-in-Variable
unfolding changed change_is
returns-in-Variable c = count_by _ _ _ c.requires.0 c.weight-w.ensures variable (ap change_is (sym c.in-Variable.is) ∙ c.change_at.ensures)

pub returns-in-Holds : goal.returns-in-Holds
unfolding changed change_is
returns-in-Holds c = count_by _ _ _ c.requires.0 c.weight-w.ensures holds (ap change_is (sym c.in-Holds.is) ∙ c.change_at.ensures)

pub returns-in-Answers : goal.returns-in-Answers
unfolding changed change_is
returns-in-Answers c = count_by _ _ _ c.requires.0 c.weight-w.ensures answers (ap change_is (sym c.in-Answers.is) ∙ c.change_at.ensures)

pub returns-in-Settles : goal.returns-in-Settles
unfolding changed change_is
returns-in-Settles c = settles-by c.args.c c.weight-w.result c.args.place (byte-flagged _) ∙ count_by _ _ _ c.requires.0 c.weight-w.ensures settles (ap change_is (sym c.in-Settles.is) ∙ c.change_at.ensures)
