-- A test of a table: each sort has a tree that grows from first rows.
use Prim.Native.Nat.{ℕ, zero, suc}
use mathlib.Core.List.{List, [], ◌∷◌}
use mathlib.Core.Option.{Option, none, some, IsSome}
use Rattle.grammar.specs.Grammar.{held, decided, follow, Trees, end, tree, join}
use Rattle.grammar.specs.Spelling.{Token}
use Rattle.grammar.specs.Leads.{bytes, Lead, the, name, up_to, real}
use Rattle.grammar.specs.Table.{Item, Row, Table, rows_of, choose_of, grammar}

-- a token that the lead takes
unfoldable pub sample : Lead → Token
sample (the w) = bytes w
sample name = 97 ∷ []
sample (up_to n) = 48 ∷ []
sample real = 48 ∷ (46 ∷ (48 ∷ []))

-- and one of the first row
unfoldable pub first_token : {S W : Type 0} → List (Row S W) → Token
first_token [] = []
first_token (r ∷ rs) = sample r.lead

module _ (Y : Table) where
  -- a tree for each sort, grown from its first rows: a test too
  unfoldable pub plant : (i : Item Y.Sort) (t : Token) (h : IsSome (choose_of Y i t))
      → Option (Trees (grammar Y) (follow (grammar Y) i t h)) → Option (Trees (grammar Y) (i ∷ []))
  plant i t h none = none
  plant i t h (some f) = some (tree t h f end)

  unfoldable pub sprout_from : (i : Item Y.Sort) (t : Token) → Option (IsSome (choose_of Y i t))
      → ((s : List (Item Y.Sort)) → Option (Trees (grammar Y) s)) → Option (Trees (grammar Y) (i ∷ []))
  sprout_from i t none f = none
  sprout_from i t (some h) f = plant i t h (f (follow (grammar Y) i t h))

  unfoldable pub graft : {i : Item Y.Sort} {s : List (Item Y.Sort)}
      → Option (Trees (grammar Y) (i ∷ [])) → Option (Trees (grammar Y) s) → Option (Trees (grammar Y) (i ∷ s))
  graft none g = none
  graft (some f) none = none
  graft (some f) (some g) = some (join (grammar Y) f g)

  unfoldable pub sprout_all : ((i : Item Y.Sort) → Option (Trees (grammar Y) (i ∷ []))) → (s : List (Item Y.Sort)) → Option (Trees (grammar Y) s)
  sprout_all f [] = some end
  sprout_all f (i ∷ s) = graft (f i) (sprout_all f s)

  unfoldable pub sprout : ℕ → (i : Item Y.Sort) → Option (Trees (grammar Y) (i ∷ []))
  unfolding plant sprout_from graft sprout_all first_token sample decided follow join held
  sprout zero i = none
  sprout (suc n) i = let t = first_token (rows_of Y i) in sprout_from i t (decided (choose_of Y i t)) (sprout_all (sprout n))
