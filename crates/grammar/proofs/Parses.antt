-- The parse of tokens is the tree that they are the print of.
use mathlib.Core.Path.{◌≡◌, refl, sym, ◌∙◌, ap, subst}
use mathlib.Core.List.{List, [], ◌∷◌, ◌++◌, append_assoc}
use mathlib.Core.Option.{Option, none, some, IsSome}
use Rattle.grammar.specs.Grammar.{Grammar, held, follow, Trees, tree, print, Of, step, run, decided, front, back, regrow, parse_on, parse}
use Rattle.grammar.proofs.Grammar.{run-tree, IsEmpty, run-none-empty, chosen, accepts}
use Rattle.grammar.proofs.Unique.{unique}

module _ {Token : Type 0} (G : Grammar Token) where
  -- the parse is the tree
  front-back : (s r : List G.Symbol) (f : Trees G (s ++ r)) → print G f ≡ print G (front G s r f) ++ print G (back G s r f)
  unfolding print front back
  front-back [] r f = refl
  front-back (a ∷ s) r (tree t h f f') =
      ap (λ v. t ∷ (print G f ++ v)) (front-back s r f')
      ∙ ap (λ v. t ∷ v) (sym (append_assoc (print G f) (print G (front G s r f')) (print G (back G s r f'))))

  -- if the tokens are accepted there is a parse, and it is printed as they are
  abbrev Parsed : (s : List G.Symbol) → List Token → Option (Trees G s) → Type 0
  Parsed s w none = IsEmpty G (run G (some s) w) → ⊥
  Parsed s w (some f) = print G f ≡ w

  regrow-right : (a : G.Symbol) (s : List G.Symbol) (t : Token) (w : List Token) (h : IsSome (G.choose a t))
      (o : Option (Trees G (follow G a t h ++ s))) → Parsed (follow G a t h ++ s) w o → Parsed (a ∷ s) (t ∷ w) (regrow G a s t h o)
  unfolding regrow print IsEmpty
  regrow-right a s t w h none p = λ k. p (subst (IsEmpty G) (run-tree G a s t h w) k)
  regrow-right a s t w h (some f) p = ap (λ v. t ∷ v) (sym (front-back (follow G a t h) s f) ∙ p)

  parse-on-right : (a : G.Symbol) (s : List G.Symbol) (t : Token) (w : List Token) (o : Option (IsSome (G.choose a t)))
      → (IsSome (G.choose a t) → IsSome o) → (f : (r : List G.Symbol) → Option (Trees G r))
      → ((r : List G.Symbol) → Parsed r w (f r)) → Parsed (a ∷ s) (t ∷ w) (parse_on G a s t o f)
  unfolding parse_on run step
  parse-on-right a s t w none i f p = λ k. i (chosen G (G.choose a t) s w k).0
  parse-on-right a s t w (some h) i f p = regrow-right a s t w h (f (follow G a t h ++ s)) (p (follow G a t h ++ s))

  decided-some {ℓ} : {A : Type ℓ} (o : Option A) → IsSome o → IsSome (decided o)
  unfolding decided
  decided-some none h = h
  decided-some (some x) h = tt

  parse-right : (w : List Token) (s : List G.Symbol) → Parsed s w (parse G w s)
  unfolding parse print run step IsEmpty
  parse-right [] [] = refl
  parse-right [] (a ∷ s) = λ k. k
  parse-right (t ∷ w) [] = run-none-empty G w
  parse-right (t ∷ w) (a ∷ s) = parse-on-right a s t w (decided (G.choose a t)) (decided-some (G.choose a t)) (parse G w) (parse-right w)

  parsed-is : (s : List G.Symbol) (w : List Token) (o : Option (Trees G s)) (f : Trees G s) → Parsed s w o → print G f ≡ w → o ≡ some f
  unfolding Of IsEmpty
  parsed-is s w none f p e = absurd (p (subst (IsEmpty G) (sym (accepts G s w (f, e))) tt))
  parsed-is s w (some g) f p e = ap (λ x. some x) (unique G g f (p ∙ sym e))

  -- what is parsed is printed as the tokens
  parsed-print : (s : List G.Symbol) (w : List Token) (o : Option (Trees G s)) (h : IsSome o) → Parsed s w o → print G (held o h) ≡ w
  unfolding held
  parsed-print s w none h p = absurd h
  parsed-print s w (some f) h p = p

  pub parse-print : (s : List G.Symbol) (w : List Token) (h : IsSome (parse G w s)) → print G (held (parse G w s) h) ≡ w
  parse-print s w h = parsed-print s w (parse G w s) h (parse-right w s)

  pub parse-exactly : (s : List G.Symbol) (w : List Token) (f : Trees G s) → print G f ≡ w → parse G w s ≡ some f
  parse-exactly s w f e = parsed-is s w (parse G w s) f (parse-right w s) e
