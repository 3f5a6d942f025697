-- `names::Tables::first_row` meets its contract. The invariant: what is sought is the first among the rows that are left.
use Prim.Native.Nat.{◌+◌, ◌≤◌, ◌-◌}
use mathlib.Core.Path.{◌≡◌}
use Rattle.notation.specs.Names.{find_from}
use Rattle.names.specs.Seek.{is_called}
use Rattle.names.specs.Tables.{rows, Fair}
use Rattle.names.proofs.table.Tables.first_row.Given as goal

abbrev pub invariant-loop-i : goal.invariant-loop-i
invariant-loop-i l = (l.i ≤ l.count) × (Fair l.self.text.now l.self.from.now l.self.to.now l.base l.count → Fair l.self.text.now l.self.from.now l.self.to.now (l.base + l.i) (l.count - l.i) × (find_from 0 (is_called l.m l.x) (rows l.self.text.now l.self.from.now l.self.to.now l.self.owner.now l.base l.count) ≡ find_from l.i (is_called l.m l.x) (rows l.self.text.now l.self.from.now l.self.to.now l.self.owner.now (l.base + l.i) (l.count - l.i))))

abbrev pub decreases-loop-i : goal.decreases-loop-i
decreases-loop-i l = l.count - l.i
