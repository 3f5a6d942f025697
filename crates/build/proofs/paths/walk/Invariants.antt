use Rattle.std.specs.Prelude.{unwrap_or}
use Prim.Native.Nat.{ℕ, ◌-◌, ◌<◌}
use mathlib.Core.Path.{◌≡◌}
use mathlib.Core.List.{List, [], ◌∷◌}
use Rattle.grammar.specs.Spelling.{Placed}
use Rattle.notation.specs.Draft.{Entry, Mentioned, Pending}
use Rattle.notation.specs.Hearing.{all_bytes}
use Rattle.notation.specs.Names.{node_of}
use Rattle.names.specs.Answers.{found_of}
use Rattle.build.specs.Known.{Known, tables_of}
use Rattle.build.specs.Standing.{Scene}
use Rattle.build.specs.Named.{Held}
use Rattle.build.proofs.paths.walk.Given as goal

abbrev pub invariant-loop : goal.invariant-loop
invariant-loop l = (unwrap_or l.found 0 < 18446744073709551615) × ((s : Scene) (n : ℕ) (ps : List Pending) (size : ℕ) (es : List Entry) (ms : List Mentioned) (h : Placed) → Known l.source.names.text.now s.whole (tables_of l.source)
    → l.initial.found ≡ found_of (node_of s.whole l.node (all_bytes (h ∷ []))) → Held l.source.names.text.now s n ps size l.initial.to_ask es ms (h ∷ [])
    → (hs : List Placed) × Held l.source.names.text.now s n ps (size - l.counter) l.to_ask es ms (h ∷ hs) × (l.found ≡ found_of (node_of s.whole l.node (all_bytes (h ∷ hs)))))
