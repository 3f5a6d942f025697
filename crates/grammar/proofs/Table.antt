-- The tests of a table say exactly which bytes can become a token that an item begins with, so `reach` is right for any table.
use Prim.Native.Nat.{ℕ, ◌≤◌}
use Prim.Native.String.{String}
use lib.ListN.{length, take}
use mathlib.Core.Path.{◌≡◌, refl}
use mathlib.Core.Logic.{◌↔◌}
use mathlib.Core.Bool.{Bool, true, false, cond}
use mathlib.Core.List.{List, [], ◌∷◌, ◌++◌}
use mathlib.Core.Option.{none, some, IsSome}
use Rattle.grammar.specs.Grammar.{held, follow, Trees, end, tree, Each}
use Rattle.grammar.specs.Spelling.{Token, goes_on, whole}
use Rattle.grammar.specs.Leads.{bytes, the, accepts}
use Rattle.grammar.specs.Text.{BeginsText, start, reads, Hopes, alive_at, reach}
use Rattle.grammar.specs.Table.{Item, lit, sort, Row, Table, pick, rows_of, choose_of, grammar, hope_of}
use Rattle.grammar.proofs.Names.{none_low}
use Rattle.grammar.proofs.Picks.{pick-sound, pick-complete, pick-whole}
use Rattle.grammar.proofs.Whole.{whole_items, whole_rows, pick-fine, FineItem, items-fine, lit-some}
use Rattle.grammar.proofs.Sprout.{sprout}
use Rattle.grammar.proofs.Alive.{text-alive}
use Rattle.grammar.proofs.Reach.{reach-longest}

module _ (Y : Table) where
  pub sound : none_low Y.reserved ≡ true → (i : Item Y.Sort) (q : Token) → whole q ≡ true → hope_of Y i q ≡ true
      → (v : List ℕ) × (goes_on q v ≡ true) × IsSome (choose_of Y i (q ++ v))
  unfolding hope_of
  sound n i q h e = pick-sound Y.reserved n (rows_of Y i) q h e

  pub complete : (i : Item Y.Sort) (q v : Token) → goes_on q v ≡ true → IsSome (choose_of Y i (q ++ v)) → hope_of Y i q ≡ true
  unfolding hope_of
  complete i q v g h = pick-complete Y.reserved (rows_of Y i) q v g h

  pub proper : (i : Item Y.Sort) (t : Token) → IsSome (choose_of Y i t) → whole t ≡ true
  proper i t h = pick-whole Y.reserved (rows_of Y i) t h

  -- nothing follows a literal
  lit-end : (w : String) (t : Token) (h : IsSome (choose_of Y (lit w) t)) → Trees (grammar Y) (follow (grammar Y) (lit w) t h)
  unfolding follow pick held
  lit-end w t h = go (accepts Y.reserved (the w) t) h
    where
      row : Row Y.Sort Y.Saying
      row = record { lead = the w; rest = []; says = Y.silence }

      go : (k : Bool) (h : IsSome (cond k (some row) none)) → Trees (grammar Y) (held (cond k (some row) none) h).rest
      go true h = end
      go false h = absurd h

  -- what a table must show: three tests that compute
  module _ (free : none_low Y.reserved ≡ true) (sure : (x : Y.Sort) → whole_rows (Y.rows x) ≡ true)
      (n : ℕ) (grown : (x : Y.Sort) → IsSome (sprout Y n (sort x))) where
    sure-rows : (i : Item Y.Sort) → whole_rows (rows_of Y i) ≡ true
    unfolding whole_rows whole_items
    sure-rows (lit w) = refl
    sure-rows (sort x) = sure x

    pub keeps : (i : Item Y.Sort) (t : Token) (h : IsSome (choose_of Y i t)) → FineItem Y i
        → Each (grammar Y) (FineItem Y) (follow (grammar Y) i t h)
    unfolding follow
    keeps i t h e =
        items-fine Y (held (choose_of Y i t) h).rest (pick-fine Y.reserved (rows_of Y i) t h (sure-rows i))

    pub least : (i : Item Y.Sort) → FineItem Y i → Trees (grammar Y) (i ∷ [])
    unfolding follow
    least (lit w) e = tree (bytes w) (lit-some Y w e) (lit-end w (bytes w) (lit-some Y w e)) end
    least (sort x) e = held (sprout Y n (sort x)) (grown x)

    unfoldable pub hopes : Hopes (grammar Y) (hope_of Y)
    hopes =
        record { sound = sound free; complete = complete; proper = proper; productive = record { Fine = FineItem Y; keeps = keeps; least = least } }

    -- a prefix is alive exactly when some text of the sort begins with it, and `reach` is the length of the longest
    pub table-alive : (x : Y.Sort) (u : List ℕ)
        → alive_at (grammar Y) (hope_of Y) (reads (grammar Y) (start (grammar Y) (sort x ∷ [])) u) ≡ true ↔ BeginsText (grammar Y) (sort x ∷ []) u
    unfolding hopes alive_at
    table-alive x u = text-alive (grammar Y) (hope_of Y) hopes (sort x ∷ []) u (tt, tt)

    pub table-reach : (x : Y.Sort) (u : List ℕ)
        → BeginsText (grammar Y) (sort x ∷ []) (take (reach (grammar Y) (hope_of Y) (start (grammar Y) (sort x ∷ [])) u) u)
        × ((n : ℕ) → n ≤ length u
        → BeginsText (grammar Y) (sort x ∷ []) (take n u) → n ≤ reach (grammar Y) (hope_of Y) (start (grammar Y) (sort x ∷ [])) u)
    unfolding hopes
    table-reach x u = reach-longest (grammar Y) (hope_of Y) hopes (sort x ∷ []) u (tt, tt)
