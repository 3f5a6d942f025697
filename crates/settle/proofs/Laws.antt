-- Laws of the settling: each test over the lists of s and c.
use Prim.Native.Nat.{ℕ}
use mathlib.Core.Path.{◌≡◌}
use mathlib.Core.List.{List, [], ◌∷◌}
use lib.Dec.{eqb, ltb}
use lib.ListN.{get_or}
use Rattle.plexil.specs.declared.State.{State}
use Rattle.plexil.specs.Lists.{when◌then◌else◌, every}
use Rattle.plexil.specs.Values.{cell}
use Rattle.plexil.specs.Image.{Image, what, owner}
use Rattle.plexil.specs.Places.{var_cell, initial}
use Rattle.plexil.specs.Records.{target}
use Rattle.plexil.specs.Order.{Carry, leads, lost, entered_waiting, settled_var}

-- ---- the tests over the lists of s and c
pub leads-by : (p : Image) (c : Carry) (i v : ℕ) (node tied : List ℕ) → v ≡ what p i → c.node ≡ node → c.tied ≡ tied
    → leads p c i ≡ every (eqb (get_or node v 0) i ∷ eqb (get_or tied v 0) 0 ∷ [])
unfolding leads target
leads-by p c i v node tied e h g = rw (h, g, ← e)

pub settled-by : (p : Image) (s : State) (c : Carry) (v : ℕ) (top tags bits tied : List ℕ)
    → c.top ≡ top → c.tags ≡ tags → c.bits ≡ bits → c.tied ≡ tied
    → settled_var p s c v
    ≡ (when every (ltb 0 (get_or top v 0) ∷ eqb (get_or tied v 0) 0 ∷ []) then cell (get_or tags v 0) (get_or bits v 0)
    else when entered_waiting s c (owner p v) then initial p v else var_cell s v)
unfolding settled_var
settled-by p s c v top tags bits tied h g k m = rw (h, g, k, m)

-- ---- what a loser gets in a list, x, and what the others keep
abbrev pub losers_get : Image → Carry → ℕ → List ℕ → ℕ → ℕ
losers_get p c x l i = when lost p c i then x else get_or l i 0
