use Prim.Native.Nat.{◌≤◌}
use mathlib.Core.Path.{◌≡◌}
use lib.ListN.{length}
use Rattle.notation.specs.Draft.{Draft}
use Rattle.recognise.specs.Tape.{Tape}
use Rattle.build.proofs.DeclarationLaws.{Declaring}
use Rattle.build.proofs.declarations.declarations.Given as goal

abbrev pub invariant-loop : goal.invariant-loop
invariant-loop l = (l.commands ≤ l.counter) × (l.lookups ≤ l.counter)
    × ((whole : Draft) → Tape l.names.text.now l.names.owner.now → length whole.lookups ≤ 64 → l.base ≤ 40980 → length l.initial.image ≡ 41108 → Declaring l.names.text.now whole l.base l.initial.image l.initial.kind 0 l.initial.at 0 0 l.initial.image l.initial.kind → Declaring l.names.text.now whole l.base l.initial.image l.initial.kind l.counter l.at l.commands l.lookups l.image l.kind)
