-- `names::numbers::command_number` meets its contract. The invariant: of the commands that have been told the number of the command i is as it says.
use Prim.Native.Nat.{◌≤◌, ◌-◌}
use mathlib.Core.List.{List}
use Rattle.grammar.specs.Table.{Said}
use Rattle.notation.specs.Sayings.{Saying}
use Rattle.recognise.specs.Tape.{Tape}
use Rattle.names.specs.Walking.{Bounded}
use Rattle.names.specs.Answers.{Accepted}
use Rattle.names.proofs.Halfway.{Halfway}
use Rattle.names.proofs.NumberLaws.{Numbering}
use Rattle.names.proofs.numbers.command_number.Given as goal

abbrev pub invariant-loop-next : goal.invariant-loop-next
invariant-loop-next v = Bounded v.w × (v.n ≤ v.w.cursor.at) × ((l : List (Said Saying)) → Accepted v.text l → Tape v.text v.owner → Halfway v.text v.lists v.w l (Numbering v.i v.n v.number))

abbrev pub decreases-loop-next : goal.decreases-loop-next
decreases-loop-next v = 18446744073709551616 - v.w.cursor.at
