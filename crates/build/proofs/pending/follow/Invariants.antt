-- `build::pending::follow` meets its contract. The invariant: the parentheses that have been heard are closed.
use Prim.Native.Nat.{ℕ, ◌-◌, ◌≤◌}
use mathlib.Core.Path.{◌≡◌}
use mathlib.Core.List.{[]}
use lib.ListN.{length}
use Rattle.recognise.specs.Tape.{Tape}
use Rattle.build.specs.Standing.{Scene, Fair}
use Rattle.build.specs.Pendings.{places, PastBy}
use Rattle.build.proofs.pending.follow.Given as goal

abbrev pub invariant-loop : goal.invariant-loop
invariant-loop l = Tape l.source.names.text.now l.source.names.owner.now → (s : Scene) (node size : ℕ) → length l.initial.pending ≡ places → Fair s node l.source.base → s.whole.pending ≡ [] → size ≤ l.left → PastBy l.source.names.text.now s l.source.base l.initial.pending l.initial.top size l.initial.at l.initial.n l.initial.image
    → PastBy l.source.names.text.now s l.source.base l.pending l.top (size - l.counter) l.at l.n l.image × (l.initial.n ≤ l.n) × (length l.pending ≡ places)
