-- `names::bad::bad_name` meets its contract. The invariant: what has been told is counted, and each name of it is in order.
use Prim.Native.Nat.{◌≤◌, ◌-◌}
use mathlib.Core.List.{List}
use Rattle.grammar.specs.Table.{Said}
use Rattle.notation.specs.Sayings.{Saying}
use Rattle.notation.specs.Hearing.{draft_of}
use Rattle.names.specs.Walking.{Bounded}
use Rattle.names.specs.Answers.{Accepted}
use Rattle.names.specs.Tables.{Prepared}
use Rattle.names.specs.Judging.{PathIn}
use Rattle.names.proofs.Halfway.{Halfway}
use Rattle.names.proofs.Upright.{Upright}
use Rattle.names.proofs.bad.bad_name.Given as goal

abbrev pub invariant-loop-next : goal.invariant-loop-next
invariant-loop-next v = Bounded v.w × (v.counts.commands ≤ v.w.cursor.at) × (v.counts.lookups ≤ v.w.cursor.at) × (v.counts.variables ≤ v.w.cursor.at) × PathIn v.tables.text.now v.p
    × ((l : List (Said Saying)) → Accepted v.tables.text.now l → Prepared v.tables l → Halfway v.tables.text.now v.lists v.w l (Upright v.tables.text.now (draft_of l) v.counts.commands v.counts.lookups v.counts.variables v.p))

abbrev pub decreases-loop-next : goal.decreases-loop-next
decreases-loop-next v = 18446744073709551616 - v.w.cursor.at
