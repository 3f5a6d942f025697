-- `build::nodes::list` and `build::nodes::node`, which call each other, meet their contracts. The invariant of the list: what has been read of it has its records, and the others follow.
use Prim.Native.Nat.{ℕ, ◌-◌, ◌≤◌}
use mathlib.Core.Path.{◌≡◌}
use lib.ListN.{length}
use Rattle.notation.specs.Phrases.{Sayings}
use Rattle.notation.specs.Draft.{Draft}
use Rattle.build.specs.Known.{tables_of}
use Rattle.build.specs.Pendings.{places}
use Rattle.build.specs.Laying.{Site, Keeps}
use Rattle.build.specs.Telling.{Listing}
use Rattle.build.proofs.nodes.+list_node.Given as goal

abbrev pub decreases-list : goal.decreases-list
decreases-list l = l.left

abbrev pub decreases-node : goal.decreases-node
decreases-node l = l.left

abbrev pub invariant-list-loop : goal.invariant-list-loop
invariant-list-loop l =
    (whole d : Draft) (parent size : ℕ) (k : Sayings) → length l.initial.pending ≡ places → Site l.source.names.text.now whole (tables_of l.source) l.source.base l.source.vbase → size ≤ l.left → l.left ≤ length l.source.names.text.now → Listing l.source.names.text.now whole d l.above parent size k l.initial.s l.initial.image
    → (e : Draft) × Listing l.source.names.text.now whole e l.above parent (size - l.counter) k l.s l.image × Keeps d.nodes e.nodes × (length l.pending ≡ places)
