-- `names::in_text::node` meets its contract. The invariant: at most n nodes have begun.
use Prim.Native.Nat.{◌-◌}
use mathlib.Core.List.{List}
use Rattle.grammar.specs.Table.{Said}
use Rattle.notation.specs.Sayings.{Saying}
use Rattle.recognise.specs.Tape.{Tape}
use Rattle.names.specs.Walking.{Bounded}
use Rattle.names.specs.Answers.{Accepted}
use Rattle.names.proofs.Halfway.{Halfway}
use Rattle.names.proofs.SearchNode.{Before}
use Rattle.names.proofs.in_text.node.Given as goal

abbrev pub invariant-loop-next : goal.invariant-loop-next
invariant-loop-next v = Bounded v.w × ((l : List (Said Saying)) → Accepted v.text l → Tape v.text v.owner → Halfway v.text v.lists v.w l (Before v.n))

abbrev pub decreases-loop-next : goal.decreases-loop-next
decreases-loop-next v = 18446744073709551616 - v.w.cursor.at
