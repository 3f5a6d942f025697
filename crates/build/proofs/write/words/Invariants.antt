use Prim.Native.Nat.{◌+◌, ◌*◌, ◌≤◌}
use mathlib.Core.Path.{◌≡◌}
use lib.ListN.{length, drop}
use Rattle.plexil.specs.Lists.{put}
use Rattle.plexil.specs.Assemble.{words16}
use Rattle.build.proofs.write.words.Given as goal

abbrev pub invariant-loop-i : goal.invariant-loop-i
invariant-loop-i l = (l.i ≤ length l.ws) × (length l.initial.image ≡ 41108 → (length l.image ≡ 41108) × (put l.image (l.at + 2 * l.i) (words16 (drop l.i l.ws)) ≡ put l.initial.image l.at (words16 l.ws)))
