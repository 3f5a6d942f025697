-- A grammar written as a table: for each sort of phrase its rows, each with what it begins with, what follows, and what its first token says.
use Rattle.std.specs.Prelude.{ℕ, Bool, false, ◌||◌, cond, List, [], ◌∷◌, ◌++◌}
use Prim.Native.String.{String}
use Rattle.std.proofs.Math.Option.{Option, none, some}
use Rattle.grammar.specs.Grammar.{Grammar}
use Rattle.grammar.specs.Spelling.{Token, Placed, between, after, shut, placed}
use Rattle.grammar.specs.Leads.{Lead, the, accepts, could}

-- a word or sign of the notation, or a phrase
pub data Item (S : Type 0) : Type 0 where
  lit : String → Item S
  sort : S → Item S

-- `lead` then `rest` is a phrase; its first token says `says`
pub record Row (S : Type 0) (W : Type 0) : Type 0 where
  pub lead : Lead
  pub rest : List (Item S)
  pub says : W

-- a notation: its sorts, what a token can say, the words that are no names, what the words and signs within a row say, and the rows
pub record Table : Type 1 where
  pub Sort : Type 0
  pub Saying : Type 0
  pub reserved : List String
  pub silence : Saying
  pub rows : Sort → List (Row Sort Saying)

-- the first row that the token begins
unfoldable pub pick : {S W : Type 0} → List String → List (Row S W) → Token → Option (Row S W)
pick reserved [] t = none
pick reserved (r ∷ rs) t = let later = pick reserved rs t in cond (accepts reserved r.lead t) (some r) later

-- some row can begin so
unfoldable pub any_could : {S W : Type 0} → List (Row S W) → Token → Bool
any_could [] q = false
any_could (r ∷ rs) q = could r.lead q || any_could rs q

-- a token and what it says
pub record Said (W : Type 0) : Type 0 where
  pub what : W
  pub token : Placed

module _ (Y : Table) where
  -- a word or sign is a phrase of one row, which says nothing
  abbrev pub rows_of : Item Y.Sort → List (Row Y.Sort Y.Saying)
  rows_of (lit w) = record { lead = the w; rest = []; says = Y.silence } ∷ []
  rows_of (sort x) = Y.rows x

  -- the row that a token begins
  abbrev pub choose_of : Item Y.Sort → Token → Option (Row Y.Sort Y.Saying)
  choose_of i t = pick Y.reserved (rows_of i) t

  -- the grammar of the table
  abbrev pub grammar : Grammar Token
  grammar = record { Symbol = Item Y.Sort; Row = λ i. Row Y.Sort Y.Saying; rest = λ {a = i} r. r.rest; choose = choose_of }

  -- bytes can become a token that the item begins with
  unfoldable pub hope_of : Item Y.Sort → Token → Bool
  hope_of i q = any_could (rows_of i) q

  -- what the tokens say, where they are of the items, and none where they are not
  unfoldable pub on_said : Placed → Option (Row Y.Sort Y.Saying) → (Row Y.Sort Y.Saying → Option (List (Said Y.Saying)))
      → Option (List (Said Y.Saying))
  on_said t none f = none
  on_said t (some r) f = elim (f r) [ none ↦ none | some l ↦ some (record { what = r.says; token = t } ∷ l) ]

  unfoldable pub said : List (Item Y.Sort) → List Placed → Option (List (Said Y.Saying))
  said [] [] = some []
  said [] (t ∷ w) = none
  said (i ∷ s) [] = none
  said (i ∷ s) (t ∷ w) = on_said t (choose_of i t.bytes) (λ r. said (r.rest ++ s) w)

  -- what a text says
  unfoldable pub text_says : List (Item Y.Sort) → List ℕ → Option (List (Said Y.Saying))
  text_says s u = cond (shut (after between u)) (said s (placed u)) none

-- opens every definition of this file
unfoldable pub opened : Unit {0}
unfolding pick any_could hope_of on_said said text_says
opened = tt
