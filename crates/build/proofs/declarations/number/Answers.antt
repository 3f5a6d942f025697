use mathlib.Core.Path.{sym, ◌∙◌}
use native.Mathlib.Omega.{arith}
use Rattle.recognise.specs.Hears.{piece}
use Rattle.build.proofs.DeclarationLaws.{number-heard}
use Rattle.build.proofs.RecordLaws.{command-recorded, command-passed}
use Rattle.build.proofs.declarations.number.Goals as goal

pub returns-then-i-lt256 : goal.returns-then-i-lt256
unfolding piece
returns-then-i-lt256 c base under old image cs ls d w t e h says n = command-recorded base under old image _ cs ls t d _ _ e (omega arith) (number-heard _ _ w h says _ (rw c.in-Some.ensures.lookup.0.2 at c.number_of.ensures) ∙ sym n)

pub returns-else-i-lt256 : goal.returns-else-i-lt256
returns-else-i-lt256 c base under old image cs ls d w t e h says n = command-passed base under old image _ cs ls t d _ e (omega arith)
