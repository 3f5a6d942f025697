-- Grammars in which the first token of a form tells which form it is: trees, what they are printed as, and the machine that follows them.
use Rattle.std.specs.Prelude.{◌≡◌, List, [], ◌∷◌, ◌++◌}
use Rattle.std.proofs.Math.Option.{Option, none, some, IsSome}

unfoldable pub held {ℓ} : {A : Type ℓ} (o : Option A) → IsSome o → A
held none h = absurd h
held (some a) h = a

unfoldable pub decided {ℓ} : {A : Type ℓ} (o : Option A) → Option (IsSome o)
decided none = none
decided (some x) = some tt

-- Symbols; the rows of each symbol; of a row, the symbols that follow its first token; and which row of a symbol a token begins, if one does
pub record Grammar (Token : Type 0) : Type 1 where
  pub Symbol : Type 0
  pub Row : Symbol → Type 0
  pub rest : {a : Symbol} → Row a → List Symbol
  pub choose : (a : Symbol) → Token → Option (Row a)

module _ {Token : Type 0} (G : Grammar Token) where
  -- what follows the first token t of the symbol a
  unfoldable pub follow : (a : G.Symbol) (t : Token) → IsSome (G.choose a t) → List G.Symbol
  follow a t h = G.rest (held (G.choose a t) h)

  -- a tree for each symbol of a list, one after another
  pub data Trees : List G.Symbol → Type 0 where
    end : Trees []
    tree : {a : G.Symbol} {s : List G.Symbol} (t : Token) (h : IsSome (G.choose a t)) → Trees (follow a t h) → Trees s → Trees (a ∷ s)

  -- the tokens of the trees, from left to right
  unfoldable pub print : {s : List G.Symbol} → Trees s → List (Token)
  print end = []
  print (tree t h f g) = t ∷ (print f ++ print g)

  -- the tokens w are of the symbols s
  unfoldable pub Of : List G.Symbol → List (Token) → Type 0
  Of s w = (f : Trees s) × (print f ≡ w)

  -- the tokens w begin some text of the symbols s
  unfoldable pub Begins : List G.Symbol → List (Token) → Type 0
  Begins s w = (v : List (Token)) × Of s (w ++ v)

  -- The machine: what is still to come, or none where the tokens have left the grammar
  unfoldable pub onward : {a : G.Symbol} → Option (G.Row a) → List G.Symbol → Option (List G.Symbol)
  onward none s = none
  onward (some r) s = some (G.rest r ++ s)

  unfoldable pub step : Option (List G.Symbol) → Token → Option (List G.Symbol)
  step none t = none
  step (some []) t = none
  step (some (a ∷ s)) t = onward (G.choose a t) s

  unfoldable pub run : Option (List G.Symbol) → List (Token) → Option (List G.Symbol)
  run o [] = o
  run o (t ∷ w) = run (step o t) w

  unfoldable pub join : {s r : List G.Symbol} → Trees s → Trees r → Trees (s ++ r)
  join end g = g
  join (tree t h f f') g = tree t h f (join f' g)

  -- the trees of two lists of symbols, apart
  unfoldable pub front : (s r : List G.Symbol) → Trees (s ++ r) → Trees s
  front [] r f = end
  front (a ∷ s) r (tree t h f f') = tree t h f (front s r f')

  unfoldable pub back : (s r : List G.Symbol) → Trees (s ++ r) → Trees r
  back [] r f = f
  back (a ∷ s) r (tree t h f f') = back s r f'

  -- the trees that the tokens are the print of
  unfoldable pub regrow : (a : G.Symbol) (s : List G.Symbol) (t : Token) (h : IsSome (G.choose a t))
      → Option (Trees (follow a t h ++ s)) → Option (Trees (a ∷ s))
  regrow a s t h none = none
  regrow a s t h (some f) = some (tree t h (front (follow a t h) s f) (back (follow a t h) s f))

  unfoldable pub parse_on : (a : G.Symbol) (s : List G.Symbol) (t : Token) → Option (IsSome (G.choose a t))
      → ((r : List G.Symbol) → Option (Trees r)) → Option (Trees (a ∷ s))
  parse_on a s t none f = none
  parse_on a s t (some h) f = regrow a s t h (f (follow a t h ++ s))

  unfoldable pub parse : List Token → (s : List G.Symbol) → Option (Trees s)
  parse [] [] = some end
  parse [] (a ∷ s) = none
  parse (t ∷ w) [] = none
  parse (t ∷ w) (a ∷ s) = parse_on a s t (decided (G.choose a t)) (parse w)

  abbrev pub Each : (G.Symbol → Type 0) → List G.Symbol → Type 0
  Each P [] = Unit {0}
  Each P (a ∷ s) = P a × Each P s

  -- symbols that each have a tree, and that only such symbols follow
  pub record Productive : Type 1 where
    pub Fine : G.Symbol → Type 0
    pub keeps : (a : G.Symbol) (t : Token) (h : IsSome (G.choose a t)) → Fine a → Each Fine (follow a t h)
    pub least : (a : G.Symbol) → Fine a → Trees (a ∷ [])

  unfoldable pub leasts : (P : Productive) (s : List G.Symbol) → Each P.Fine s → Trees s
  leasts P [] e = end
  leasts P (a ∷ s) e = join (P.least a e.0) (leasts P s e.1)

-- opens every definition of this file
unfoldable pub opened : Unit {0}
unfolding held decided follow print Of Begins onward step run join front back regrow parse_on parse leasts
opened = tt
