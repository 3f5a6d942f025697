-- `names::judge::unless` meets its contract: a test and a place.
use Rattle.names.proofs.GoingUp.{none-is, some-is}
use mathlib.Core.Path.{ap, ◌∙◌}
use Rattle.names.specs.Answers.{found_of}
use Rattle.names.specs.Judging.{unless_of}
use Rattle.names.proofs.Paths.{unless-true, unless-false}
use Rattle.names.proofs.judge.unless.Goals as goal

pub returns-then-fine : goal.returns-then-fine
unfolding unless_of
returns-then-fine c = none-is ∙ ap found_of (unless-true _ c.if-fine.true)

pub returns : goal.returns
unfolding unless_of
returns c = some-is _ ∙ ap found_of (unless-false _ c.if-fine.false)
