-- What has been heard, on the tape too, the counts and the reach are kept, and each token lies further on.
use Prim.Native.Nat.{◌-◌}
use mathlib.Core.Path.{◌≡◌}
use lib.ListN.{length}
use Rattle.notation.specs.Spoken.{spoken}
use Rattle.recognise.proofs.Tapes.{Wound}
use Rattle.recognise.proofs.Following.{Following}
use Rattle.recognise.proofs.recognising.recognise.Given as goal

abbrev pub invariant-loop-t : goal.invariant-loop-t
invariant-loop-t l = (f : Following l.text l.at l.ahead l.n) × (length l.initial.owner ≡ 10525 → Wound l.text l.owner (spoken f.heard) l.sayings)

abbrev pub decreases-loop-t : goal.decreases-loop-t
decreases-loop-t l = length l.text - l.at
