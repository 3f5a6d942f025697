-- `names::filling::fill` meets its contract. The invariant: the rows of each sort are what has been told of it.
use Prim.Native.Nat.{◌-◌}
use mathlib.Core.Path.{◌≡◌}
use mathlib.Core.Bool.{true}
use mathlib.Core.List.{List}
use lib.ListN.{length}
use Rattle.grammar.specs.Table.{Said}
use Rattle.notation.specs.Sayings.{Saying}
use Rattle.recognise.specs.Tape.{Tape}
use Rattle.names.specs.Walking.{Bounded}
use Rattle.names.specs.Answers.{Accepted}
use Rattle.names.specs.Tables.{Roomy}
use Rattle.names.proofs.Halfway.{Halfway}
use Rattle.names.proofs.OneRow.{Rowed}
use Rattle.names.proofs.filling.fill.Given as goal

abbrev pub invariant-loop-next : goal.invariant-loop-next
invariant-loop-next v = Bounded v.w × Roomy v.t × (v.t.whole ≡ true)
    × ((l : List (Said Saying)) → length v.initial.from ≡ 704 → length v.initial.to ≡ 704 → length v.initial.owner ≡ 10525 → Accepted v.text l → Tape v.text v.initial.owner → (length v.from ≡ 704) × (length v.to ≡ 704) × (length v.owner ≡ 10525) × Tape v.text v.owner × Halfway v.text v.lists v.w l (Rowed v.text v.from v.to v.owner v.t))

abbrev pub decreases-loop-next : goal.decreases-loop-next
decreases-loop-next v = 18446744073709551616 - v.w.cursor.at
