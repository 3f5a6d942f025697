-- The side decides where it is d.
use mathlib.Core.Path.{sym}
use Rattle.plexil.proofs.ListLaws.{if-true, if-false}
use Rattle.plexil.specs.Values.{decides}
use Rattle.values.proofs.junctions.decided.Goals as goal

pub returns-then-side-d : goal.returns-then-side-d
unfolding decides
returns-then-side-d c = sym (if-true _ _ _ c.if-side-d.true)

pub returns-else-side-d : goal.returns-else-side-d
unfolding decides
returns-else-side-d c = sym (if-false _ _ _ c.if-side-d.false)
