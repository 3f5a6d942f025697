-- After j nodes each row of flags has the answer of the nodes below j.
use mathlib.Core.Path.{◌≡◌}
use Rattle.plexil.specs.Image.{node_count}
use Rattle.plexil.specs.Atomic.{is_finished, is_resting}
use Rattle.atomic.proofs.ChildLaws.{Row}
use Rattle.atomic.proofs.children.test_children.Given as goal

abbrev pub invariant-loop-j : goal.invariant-loop-j
invariant-loop-j l = (l.j-end ≡ node_count l.image) × Row l.image l.st is_finished l.j l.finished × Row l.image l.st is_resting l.j l.resting
