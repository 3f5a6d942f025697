-- The list's part begins with the words of the nodes below i.
use mathlib.Core.Path.{◌≡◌}
use lib.ListN.{length, get_or}
use Prim.Native.Nat.{ℕ}
use Rattle.plexil.specs.Lists.{put}
use Rattle.plexil.specs.Micro.{words_from}
use Rattle.micro.proofs.words.put_words.Given as goal

abbrev pub invariant-loop-i : goal.invariant-loop-i
invariant-loop-i l = (l.at ≡ length (words_from (λ (k : ℕ). get_or l.sent k 0) 0 l.i)) × (l.list ≡ put l.initial.list 0 (words_from (λ (k : ℕ). get_or l.sent k 0) 0 l.i)) × (length l.list ≡ length l.initial.list)
