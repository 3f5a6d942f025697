-- No number below k passes.
use Rattle.std.proofs.Common.{◌≡◌, ◌<◌, ℕ, Bool, false}
use Rattle.plexil.specs.Lists.{any_below}
use Rattle.plexil.proofs.lists.any_below.Given as goal

abbrev pub invariant-loop-k : goal.invariant-loop-k
invariant-loop-k g l = (f : ℕ → Bool) → ((k : ℕ) (r : Bool) → k < l.fn.n → goal.F-post g l.fn.test k r → r ≡ f k) → any_below l.k f ≡ false
