-- Rule 12 by a table: what the variables of each entry's tree ask of the node that reads them, as one number.
use Rattle.std.specs.Prelude.{ℕ, suc, ◌-◌, ◌≤◌, ◌<◌, ◌≡◌, Bool, true, false, List, eqb, length, get_or}
use Rattle.plexil.specs.declared.Rule.TheVariants as rule
use Rattle.plexil.specs.Lists.{when◌then◌else◌, nowhere}
use Rattle.plexil.specs.Image.{Image, node_count}
use Rattle.plexil.specs.Scope.{is_above, tree_in_scope}
use Rattle.records.specs.Broken.{lowest_broken}

-- owners on two branches, which no node is below
abbrev pub nobody : ℕ
nobody = 257

-- 0 asks nothing, o asks that node i is node o - 1 or below it
unfoldable pub allows : Image → ℕ → ℕ → Bool
allows p o i = when eqb o 0 then true else (when eqb o nobody then false else is_above p (suc i) (o - 1) i)

-- o is what the tree at e asks
abbrev pub Asks : Image → ℕ → ℕ → Type 0
Asks p e o = (i : ℕ) → i < node_count p → tree_in_scope p i 12 e ≡ allows p o i

-- what an entry can ask
pub record Asked (p : Image) (o : ℕ) : Type 0 where
  pub small : o ≤ nobody
  pub node : (o ≡ 0 → ⊥) → (o ≡ nobody → ⊥) → o - 1 < node_count p

-- the rules that bound the tables and order nodes and entries
pub record Ordered (p : Image) : Type 0 where
  pub count : lowest_broken rule.Count p ≡ nowhere
  pub tree : lowest_broken rule.Tree p ≡ nowhere
  pub node : lowest_broken rule.Node p ≡ nowhere
  pub variable : lowest_broken rule.Variable p ≡ nowhere
  pub expression : lowest_broken rule.Expression p ≡ nowhere
  pub deep : lowest_broken rule.Deep p ≡ nowhere

-- the table has what the entries below e ask
pub record Owned (p : Image) (e : ℕ) (t : List ℕ) : Type 0 where
  pub long : length t ≡ 2048
  pub asks : (j : ℕ) → j < e → Asks p j (get_or t j 0)
  pub asked : (j : ℕ) → j < e → Asked p (get_or t j 0)
