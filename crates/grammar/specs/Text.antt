-- Texts of a grammar: bytes that spell tokens of the start symbol; and the machine that reads them byte by byte.
use Rattle.std.specs.Prelude.{ℕ, zero, suc, ◌≡◌, Bool, true, false, cond, List, [], ◌∷◌, ◌++◌}
use Rattle.std.proofs.Math.Option.{Option, none, some, IsSome}
use Rattle.grammar.specs.Grammar.{Grammar, Trees, Of, run, parse, Productive}
use Rattle.grammar.specs.Spelling.{Token, Spells, Part, between, slash, star, lost, remark, aside, chunk, feed, given, after, emitted, pending, shut, goes_on, whole}

module _ (G : Grammar Token) where
  -- the text u is of the symbols s: its tokens, and their trees
  unfoldable pub OfText : List G.Symbol → List ℕ → Type 0
  OfText s u = (w : List Token) × Spells u w × Of G s w

  unfoldable pub trees_of : {s : List G.Symbol} (u : List ℕ) → OfText s u → Trees G s
  unfolding OfText Of
  trees_of u x = x.2.0

  -- some text of the symbols s begins with u
  unfoldable pub BeginsText : List G.Symbol → List ℕ → Type 0
  BeginsText s u = (v : List ℕ) × OfText s (u ++ v)

  -- where the machine stands: what is still to come, and where it is between or in tokens
  pub record Config : Type 0 where
    pub ahead : Option (List G.Symbol)
    pub part : Part

  unfoldable pub start : List G.Symbol → Config
  start s = record { ahead = some s; part = between }

  unfoldable pub next : Config → ℕ → Config
  next c b = record { ahead = run G c.ahead (given c.part b); part = feed c.part b }

  unfoldable pub reads : Config → List ℕ → Config
  reads c [] = c
  reads c (b ∷ u) = reads (next c b) u

  unfoldable pub Accepted : Config → Type 0
  Accepted c = (shut c.part ≡ true) × (run G c.ahead (pending c.part) ≡ some [])

  -- `hope` says whether bytes of a token can still become a token that the symbol begins with
  pub record Hopes (hope : G.Symbol → Token → Bool) : Type 1 where
    pub sound : (a : G.Symbol) (q : Token) → whole q ≡ true → hope a q ≡ true → (v : List ℕ) × (goes_on q v ≡ true) × IsSome (G.choose a (q ++ v))
    pub complete : (a : G.Symbol) (q v : Token) → goes_on q v ≡ true → IsSome (G.choose a (q ++ v)) → hope a q ≡ true
    pub proper : (a : G.Symbol) (t : Token) → IsSome (G.choose a t) → whole t ≡ true
    pub productive : Productive G

  unfoldable pub alive : (G.Symbol → Token → Bool) → Option (List G.Symbol) → Part → Bool
  alive hope none p = false
  alive hope (some s) between = true
  alive hope (some s) slash = true
  alive hope (some s) remark = true
  alive hope (some s) star = true
  alive hope (some s) lost = false
  alive hope (some s) aside = true
  alive hope (some []) (chunk q) = false
  alive hope (some (a ∷ s)) (chunk q) = hope a q

  unfoldable pub alive_at : (G.Symbol → Token → Bool) → Config → Bool
  alive_at hope c = alive hope c.ahead c.part

  -- how many bytes of the text keep the machine alive
  unfoldable pub reach : (G.Symbol → Token → Bool) → Config → List ℕ → ℕ
  reach hope c [] = zero
  reach hope c (b ∷ u) = let later = reach hope (next c b) u in cond (alive_at hope (next c b)) (suc later) zero

  -- the trees of a text
  unfoldable pub read_trees : (s : List G.Symbol) → List ℕ → Option (Trees G s)
  read_trees s u = cond (shut (after between u)) (parse G (emitted between u ++ pending (after between u)) s) none

-- opens every definition of this file
unfoldable pub opened : Unit {0}
unfolding OfText trees_of BeginsText start next reads Accepted alive alive_at reach read_trees
opened = tt
