-- No number below k passes.
use Rattle.std.proofs.Common.{◌≡◌, ◌<◌, ℕ, Bool}
use Rattle.plexil.proofs.LoopLaws.{Upto}
use Rattle.plexil.proofs.lists.first.Given as goal

abbrev pub invariant-loop-k : goal.invariant-loop-k
invariant-loop-k g l = (f : ℕ → Bool) → ((k : ℕ) (r : Bool) → k < l.fn.n → goal.F-post g l.fn.test k r → r ≡ f k) → Upto f l.fn.n l.k
