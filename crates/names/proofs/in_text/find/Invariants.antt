-- `names::in_text::find` meets its contract. The invariant: as many of the sort as are counted have been told, and none of them is called so.
use Prim.Native.Nat.{◌≤◌, ◌-◌}
use mathlib.Core.List.{List}
use Rattle.grammar.specs.Table.{Said}
use Rattle.notation.specs.Sayings.{Saying}
use Rattle.recognise.specs.Tape.{Tape}
use Rattle.names.specs.Walking.{Bounded}
use Rattle.names.specs.Answers.{Accepted}
use Rattle.names.proofs.Halfway.{Halfway}
use Rattle.names.proofs.Search.{Seeking}
use Rattle.names.proofs.in_text.find.Given as goal

abbrev pub invariant-loop-next : goal.invariant-loop-next
invariant-loop-next v = Bounded v.w × (v.count ≤ v.w.cursor.at) × ((l : List (Said Saying)) → Accepted v.text l → Tape v.text v.owner → Halfway v.text v.lists v.w l (Seeking v.sort v.m v.x v.count))

abbrev pub decreases-loop-next : goal.decreases-loop-next
decreases-loop-next v = 18446744073709551616 - v.w.cursor.at
