-- A walk may pass a node over that stays: its visit would carry on what it met.
use Rattle.std.specs.Prelude.{ℕ, ◌≡◌, false, get_or}
use Rattle.plexil.specs.declared.State.{State}
use Rattle.plexil.specs.declared.Move.TheVariants.{Stay}
use Rattle.plexil.specs.Image.{Image}
use Rattle.plexil.specs.Atomic.{move_of}
use Rattle.plexil.specs.Micro.{sent}
use Rattle.plexil.specs.Order.{Carry, visit}

-- node i's place is as in the state before the step, as it is until its visit
pub record Unmet (s : State) (c : Carry) (i : ℕ) : Type 0 where
  pub status : get_or s.status i 0 ≡ get_or c.status i 0
  pub outcome : get_or s.outcome i 0 ≡ get_or c.outcome i 0
  pub failure : get_or s.failure i 0 ≡ get_or c.failure i 0
  pub mark : get_or s.mark i 0 ≡ get_or c.mark i 0
  pub wrote : false ≡ get_or c.wrote i false

abbrev pub Passed : Type 0
Passed = (p : Image) (s : State) (i : ℕ) → move_of p s i ≡ Stay → (c : Carry) → Unmet s c i → visit p s c i ≡ c

-- it sends nothing
abbrev pub NoneSent : Type 0
NoneSent = (p : Image) (s : State) (i : ℕ) → move_of p s i ≡ Stay → sent p s i ≡ 0
