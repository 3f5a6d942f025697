-- A list of tokens has one tree, and no text of a list of symbols begins another.
use mathlib.Core.Path.{◌≡◌, refl, ap, subst}
use mathlib.Core.List.{List, [], ◌∷◌, ◌++◌, append_assoc}
use mathlib.Core.Option.{Option, none, some, IsSome}
use Rattle.grammar.specs.Grammar.{Grammar, follow, Trees, end, tree, print}

module _ {Token : Type 0} (G : Grammar Token) where
  IsSome-prop {ℓ} : {A : Type ℓ} (o : Option A) (h k : IsSome o) → h ≡ k
  IsSome-prop none h k = absurd h
  IsSome-prop (some a) h k = refl

  -- (2) a text has one tree, and no text of a list of symbols begins another
  module _ (a : G.Symbol) (s : List G.Symbol) (t : Token) (h : IsSome (G.choose a t)) (f : Trees G (follow G a t h)) (g : Trees G s)
      (same-f : (k : Trees G (follow G a t h)) (w w' : List Token) → print G f ++ w ≡ print G k ++ w' → (f ≡ k) × (w ≡ w'))
      (same-g : (k : Trees G s) (w w' : List Token) → print G g ++ w ≡ print G k ++ w' → (g ≡ k) × (w ≡ w')) where
    abbrev Same : (t' : Token) (h' : IsSome (G.choose a t')) → Type 0
    Same t' h' =
        (f' : Trees G (follow G a t' h')) (g' : Trees G s) (w w' : List Token) → print G f ++ (print G g ++ w) ≡ print G f' ++
        (print G g' ++ w')
        → (◌≡◌ {A = Trees G (a ∷ s)} (tree t h f g) (tree t' h' f' g')) × (w ≡ w')

    same_rest : Same t h
    same_rest f' g' w w' e =
        let p = same-f f' (print G g ++ w) (print G g' ++ w') e in
        let q = same-g g' w w' (p.1) in
        (λ i. tree t h (p.0 i) (q.0 i), q.1)

    same-choice : (h' : IsSome (G.choose a t)) → Same t h'
    same-choice h' = subst (Same t) (IsSome-prop (G.choose a t) h h') same_rest

    same-token : (t' : Token) → t ≡ t' → (h' : IsSome (G.choose a t')) → Same t' h'
    same-token t' e = subst (λ x. (h' : IsSome (G.choose a x)) → Same x h') e same-choice

  pub prefix-free : {s : List G.Symbol} (f k : Trees G s) (w w' : List Token) → print G f ++ w ≡ print G k ++ w' → (f ≡ k) × (w ≡ w')
  unfolding print
  prefix-free end end w w' e = (refl, e)
  prefix-free (tree {a = a} {s = s} t h f g) (tree t' h' f' g') w w' e =
      same-token a s t h f g (λ k. prefix-free f k) (λ k. prefix-free g k) t' (cc) h' f' g' w w'
      (rw (← append_assoc (print G f) (print G g) w, ← append_assoc (print G f') (print G g') w') (cc))

  pub unique : {s : List G.Symbol} (f k : Trees G s) → print G f ≡ print G k → f ≡ k
  unique f k e = (prefix-free f k [] [] (ap (λ w. w ++ []) e)).0
