-- `build::nodes::task` meets its contract.
use native.Mathlib.Omega.{arith}
use Rattle.build.proofs.NodeLaws.{done-command, done-assignment}
use Rattle.build.proofs.nodes.task.Goals as goal

pub returns-then-at-eq10 : goal.returns-then-at-eq10
returns-then-at-eq10 c whole before size k room site n m f g t = rw c.course.ensures (done-command _ whole before _ size k _ _ _ t _ _ _ _ _ _ _ site n (omega arith) c.command.ensures c.add_node.ensures, room)

pub returns : goal.returns
returns c whole before size k room site n m f g t = rw c.course-2.ensures (done-assignment _ whole before _ size k _ _ _ t _ _ _ _ _ _ _ _ _ _ _ room site n m f c.if-at-eq10.false g _ c.variable.ensures c.expression-e.ensures c.last.ensures c.add_node-2.ensures)
