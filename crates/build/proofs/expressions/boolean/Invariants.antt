-- `build::expressions::boolean` meets its contract. The invariant: an operand is due, and what is pending is kept.
use Prim.Native.Nat.{ℕ, ◌-◌, ◌≤◌}
use mathlib.Core.Path.{◌≡◌}
use mathlib.Core.List.{[]}
use lib.ListN.{length}
use Rattle.build.specs.Known.{Known, tables_of}
use Rattle.build.specs.Standing.{Scene, Fair}
use Rattle.build.specs.Pendings.{places, DueBy}
use Rattle.build.proofs.expressions.boolean.Given as goal

abbrev pub invariant-loop : goal.invariant-loop
invariant-loop l = (q : Scene) (size : ℕ) → length l.initial.pending ≡ places → Known l.source.names.text.now q.whole (tables_of l.source) → Fair q l.node l.source.base → q.whole.pending ≡ [] → size ≤ l.left → DueBy l.source.names.text.now q l.source.base l.initial.pending l.initial.s.top size l.initial.s.at l.initial.s.entries l.initial.image
    → DueBy l.source.names.text.now q l.source.base l.pending l.s.top (size - l.counter) l.s.at l.s.entries l.image × (length l.pending ≡ places)
