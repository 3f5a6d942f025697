-- `build::attributes::attributes` meets its contract.
use Prim.Native.Nat.{ℕ, ◌-◌, ◌≤◌}
use mathlib.Core.Path.{◌≡◌}
use mathlib.Core.List.{List}
use lib.ListN.{length}
use Rattle.notation.specs.Phrases.{Sayings}
use Rattle.notation.specs.Draft.{Node, Draft}
use Rattle.build.specs.Known.{tables_of}
use Rattle.build.specs.Pendings.{places}
use Rattle.build.specs.Laying.{Site}
use Rattle.build.specs.Telling.{Telling}
use Rattle.build.proofs.attributes.attributes.Given as goal

abbrev pub invariant-loop : goal.invariant-loop
invariant-loop l = ((whole : Draft) (before : List Node) (parent size : ℕ) (k : Sayings) → length l.initial.pending ≡ places → Site l.source.names.text.now whole (tables_of l.source) l.source.base l.source.vbase → l.node ≡ length before → size ≤ l.left → l.left ≤ length l.source.names.text.now → Telling l.source.names.text.now whole before parent size k l.initial.a l.initial.given l.initial.image
    → Telling l.source.names.text.now whole before parent (size - l.counter) k l.a l.given l.image × (length l.pending ≡ places))
    × (length l.given ≡ length l.initial.given)
