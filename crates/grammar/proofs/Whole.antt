-- A test of a table: each literal of its rows is a token. Then only such literals are ever to come.
use Prim.Native.String.{String}
use mathlib.Core.Path.{◌≡◌}
use mathlib.Core.Bool.{Bool, true, false, ◌&&◌, cond}
use mathlib.Core.List.{List, [], ◌∷◌}
use mathlib.Core.Option.{some, IsSome}
use Rattle.grammar.specs.Grammar.{held, Each}
use Rattle.grammar.specs.Spelling.{Token, whole}
use Rattle.grammar.specs.Leads.{bytes, fits, accepts}
use Rattle.grammar.specs.Table.{Item, lit, sort, Row, Table, pick, choose_of, grammar}
use Rattle.grammar.proofs.Bools.{both, both_true}
use Rattle.grammar.proofs.Same.{same_self}

-- each literal is a token: a test of the rows
unfoldable pub whole_items : {S : Type 0} → List (Item S) → Bool
whole_items [] = true
whole_items (lit w ∷ s) = whole (bytes w) && whole_items s
whole_items (sort x ∷ s) = whole_items s

unfoldable pub whole_rows : {S W : Type 0} → List (Row S W) → Bool
whole_rows [] = true
whole_rows (r ∷ rs) = whole_items r.rest && whole_rows rs

pub pick-fine : {S W : Type 0} (reserved : List String) (rs : List (Row S W)) (t : Token) (h : IsSome (pick reserved rs t))
    → whole_rows rs ≡ true → whole_items (held (pick reserved rs t) h).rest ≡ true
unfolding pick whole_rows held
pick-fine reserved [] t h e = absurd h
pick-fine reserved (r ∷ rs) t h e = go (accepts reserved r.lead t) h (λ k. pick-fine reserved rs t k b.1)
  where
    b : (whole_items r.rest ≡ true) × (whole_rows rs ≡ true)
    b = both (whole_items r.rest) (whole_rows rs) e

    go : (k : Bool) (h : IsSome (cond k (some r) (pick reserved rs t)))
        → ((h : IsSome (pick reserved rs t)) → whole_items (held (pick reserved rs t) h).rest ≡ true)
        → whole_items (held (cond k (some r) (pick reserved rs t)) h).rest ≡ true
    go true h f = b.0
    go false h f = f h

module _ (Y : Table) where
  abbrev pub FineItem : Item Y.Sort → Type 0
  FineItem (lit w) = whole (bytes w) ≡ true
  FineItem (sort x) = Unit {0}

  pub items-fine : (s : List (Item Y.Sort)) → whole_items s ≡ true → Each (grammar Y) FineItem s
  unfolding whole_items
  items-fine [] e = tt
  items-fine (lit w ∷ s) e = let h = both (whole (bytes w)) (whole_items s) e in (h.0, items-fine s (h.1))
  items-fine (sort x ∷ s) e = (tt, items-fine s e)

  pub lit-some : (w : String) → whole (bytes w) ≡ true → IsSome (choose_of Y (lit w) (bytes w))
  unfolding accepts fits pick
  lit-some w e = rw (both_true _ _ e (same_self (bytes w))) tt
