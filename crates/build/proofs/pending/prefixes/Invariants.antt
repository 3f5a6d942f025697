-- `build::pending::prefixes` meets its contract. The invariant: the parentheses and NOTs that have been heard are kept.
use Prim.Native.Nat.{ℕ, ◌-◌, ◌≤◌}
use mathlib.Core.Path.{◌≡◌}
use mathlib.Core.List.{List, []}
use lib.ListN.{length}
use Rattle.recognise.specs.Tape.{Tape}
use Rattle.build.specs.Standing.{Scene, Fair}
use Rattle.build.specs.Pendings.{places, MetBy}
use Rattle.build.proofs.pending.prefixes.Given as goal

abbrev pub invariant-loop : goal.invariant-loop
invariant-loop l = Tape l.names.text.now l.names.owner.now → (s : Scene) (node base size count : ℕ) (image : List ℕ) → length l.initial.pending ≡ places → Fair s node base → s.whole.pending ≡ [] → size ≤ l.left → MetBy l.names.text.now s base l.initial.pending l.initial.up size l.initial.at count image
    → MetBy l.names.text.now s base l.pending l.up (size - l.counter) l.at count image × (length l.pending ≡ places)
