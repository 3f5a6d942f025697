-- `names::kinds::fill_kinds` meets its contract. The invariant: the table has the kinds that have been told.
use Prim.Native.Nat.{◌-◌}
use mathlib.Core.Path.{◌≡◌}
use mathlib.Core.List.{List}
use lib.ListN.{length}
use Rattle.grammar.specs.Table.{Said}
use Rattle.notation.specs.Sayings.{Saying}
use Rattle.recognise.specs.Tape.{Tape}
use Rattle.names.specs.Walking.{Bounded}
use Rattle.names.specs.Answers.{Accepted}
use Rattle.names.proofs.Halfway.{Halfway}
use Rattle.names.proofs.KindLaws.{Kinding}
use Rattle.names.proofs.kinds.fill_kinds.Given as goal

abbrev pub invariant-loop-next : goal.invariant-loop-next
invariant-loop-next v = Bounded v.w × ((l : List (Said Saying)) → length v.initial.kind ≡ 704 → Accepted v.text l → Tape v.text v.owner → Halfway v.text v.lists v.w l (Kinding v.initial.kind v.kind v.n))

abbrev pub decreases-loop-next : goal.decreases-loop-next
decreases-loop-next v = 18446744073709551616 - v.w.cursor.at
