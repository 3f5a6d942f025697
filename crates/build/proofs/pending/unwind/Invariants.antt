-- `build::pending::unwind` meets its contract. The invariant: the operators above place t have ended.
use Prim.Native.Nat.{ℕ, ◌≤◌}
use mathlib.Core.Path.{◌≡◌}
use mathlib.Core.List.{List, []}
use lib.ListN.{length}
use Rattle.recognise.specs.declared.Cursor.{Cursor}
use Rattle.build.specs.Standing.{Scene, Fair}
use Rattle.build.specs.Operators.{Binds}
use Rattle.build.specs.Pendings.{places, PastBy}
use Rattle.build.proofs.pending.unwind.Given as goal

abbrev pub invariant-loop-t : goal.invariant-loop-t
invariant-loop-t l = (u : List ℕ) (s : Scene) (node size : ℕ) (c : Cursor) → length l.pending ≡ places → Fair s node l.base → s.whole.pending ≡ [] → Binds c.says l.k → PastBy u s l.base l.pending l.initial.t size c l.initial.m l.initial.image
    → PastBy u s l.base l.pending l.t size c l.m l.image × (l.initial.m ≤ l.m)
