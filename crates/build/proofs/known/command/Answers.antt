-- `build::known::command` meets its contract: the table has the numbers of the first 256 commands, and the text those of the others.
use mathlib.Core.Path.{refl}
use Rattle.recognise.specs.Hears.{piece}
use Rattle.build.proofs.KnownLaws.{means-command, means-later}
use Rattle.build.proofs.known.command.Goals as goal

pub returns-then-i-lt256 : goal.returns-then-i-lt256
unfolding piece
returns-then-i-lt256 c d k h = means-command _ d _ k _ _ _ (rw c.in-Some.ensures.lookup.0.2 at c.command_of-f.ensures) (rw c.unwrap_or-i.ensures at c.if-i-lt256.true) (rw c.unwrap_or-i.ensures refl)

pub returns : goal.returns
unfolding piece
returns c d k h = means-later _ d _ k _ _ _ (rw c.in-Some.ensures.lookup.0.2 at c.command_of-f.ensures) (rw c.unwrap_or-i.ensures at c.command_number.ensures)
