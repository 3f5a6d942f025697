-- Each number below k passes.
use Rattle.std.proofs.Common.{◌≡◌, ◌<◌, ℕ, Bool, true}
use Rattle.plexil.specs.Lists.{all_below}
use Rattle.plexil.proofs.lists.all_below.Given as goal

abbrev pub invariant-loop-k : goal.invariant-loop-k
invariant-loop-k g l = (f : ℕ → Bool) → ((k : ℕ) (r : Bool) → k < l.fn.n → goal.F-post g l.fn.test k r → r ≡ f k) → all_below l.k f ≡ true
