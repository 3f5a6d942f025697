use Prim.Native.Nat.{◌+◌, ◌-◌, ◌≤◌}
use mathlib.Core.Path.{◌≡◌}
use lib.ListN.{length}
use Rattle.plexil.specs.Lists.{put}
use Rattle.plexil.specs.Assemble.{bytes}
use Rattle.build.proofs.write.little.Given as goal

abbrev pub invariant-loop-i : goal.invariant-loop-i
invariant-loop-i l = (l.i ≤ l.k) × (length l.image ≡ length l.initial.image) × (length l.initial.image ≡ 41108 → put l.image (l.at + l.i) (bytes (l.k - l.i) l.m) ≡ put l.initial.image l.at (bytes l.k l.n))
