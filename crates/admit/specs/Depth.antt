-- Rule 10 by a table of depths, which is filled entry after entry once the rules 3 and 9 have passed.
use Rattle.std.specs.Prelude.{ℕ, ◌≤◌, ◌<◌, ◌≡◌, List, leb, length, get_or}
use Rattle.plexil.specs.declared.Rule.TheVariants as rule
use Rattle.plexil.specs.Lists.{nowhere}
use Rattle.plexil.specs.Image.{Image}
use Rattle.plexil.specs.Scope.{depth_within}
use Rattle.records.specs.Broken.{lowest_broken}

-- t is the depth of entry e
abbrev pub Depth : Image → ℕ → ℕ → Type 0
Depth p e t = (d : ℕ) → depth_within p d e ≡ leb t d

-- the rules that bound the table and order its entries
pub record Passed (p : Image) : Type 0 where
  pub count : lowest_broken rule.Count p ≡ nowhere
  pub expression : lowest_broken rule.Expression p ≡ nowhere

-- the table has the depths of the entries below e, none over 12
pub record Filled (p : Image) (e : ℕ) (t : List ℕ) : Type 0 where
  pub long : length t ≡ 2048
  pub depths : (j : ℕ) → j < e → Depth p j (get_or t j 0)
  pub shallow : (j : ℕ) → j < e → get_or t j 0 ≤ 12
