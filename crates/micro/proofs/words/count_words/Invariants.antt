-- The count is that of the words of the nodes below i.
use mathlib.Core.Path.{◌≡◌}
use Prim.Native.Nat.{ℕ, ◌≤◌}
use lib.ListN.{length, get_or}
use Rattle.plexil.specs.Micro.{words_from}
use Rattle.micro.proofs.words.count_words.Given as goal

abbrev pub invariant-loop-i : goal.invariant-loop-i
invariant-loop-i l = (l.count ≤ l.i) × (l.count ≡ length (words_from (λ (k : ℕ). get_or l.sent k 0) 0 l.i))
