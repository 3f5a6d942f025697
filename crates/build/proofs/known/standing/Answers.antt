use mathlib.Core.Path.{sym}
use Rattle.build.proofs.known.standing.Goals as goal

pub returns-then-count-i : goal.returns-then-count-i
returns-then-count-i c f h g z = sym (z _ c.if-count-i.true)
