-- The most over the classes so far.
use mathlib.Core.Path.{◌≡◌}
use Rattle.recognise.specs.Reaching.{viable_from}
use Rattle.recognise.proofs.recognising.viable_at.Given as goal

abbrev pub invariant-loop-k : goal.invariant-loop-k
invariant-loop-k l = l.most ≡ viable_from l.t l.a 0 l.k
