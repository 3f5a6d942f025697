-- The walk up from a node, towards the root.
use Rattle.std.specs.Prelude.{ℕ, zero, suc, ◌<◌, ◌≡◌, Option}
use Rattle.plexil.specs.Lists.{Found, at, nowhere}
use Rattle.names.specs.Answers.{found_of}

-- f at node n, else at its parent, and so on up, at most k nodes
unfoldable pub go_up : (ℕ → Found) → (ℕ → ℕ) → ℕ → ℕ → Found
go_up f p zero n = nowhere
go_up f p (suc k) zero = f 0
go_up f p (suc k) (suc n) = elim (f (suc n)) [ at v ↦ at v | nowhere ↦ go_up f p k (p (suc n)) ]

-- what a function of a node's number answers is f of it
pub record Finds (post : ℕ → Option ℕ → Type 0) (f : ℕ → Found) : Type 0 where
  pub told : (i : ℕ) (r : Option ℕ) → i < 18446744073709551616 → post i r → r ≡ found_of (f i)

-- opens every definition of this file
unfoldable pub opened : Unit {0}
unfolding go_up
opened = tt
