-- The machine of a grammar accepts exactly what is of it.
use mathlib.Core.Path.{◌≡◌, refl, sym, ◌∙◌, ap, subst}
use mathlib.Core.Logic.{◌↔◌}
use mathlib.Core.List.{List, [], ◌∷◌, ◌++◌, append_assoc, append-nil}
use mathlib.Core.Option.{Option, none, some, IsSome}
use Rattle.grammar.specs.Grammar.{Grammar, held, follow, Trees, end, tree, print, Of, onward, step, run}

module _ {Token : Type 0} (G : Grammar Token) where
  pub run_none : (w : List Token) → run G none w ≡ none
  unfolding run step
  run_none [] = refl
  run_none (t ∷ w) = run_none w

  pub run-append : (o : Option (List G.Symbol)) (w v : List Token) → run G o (w ++ v) ≡ run G (run G o w) v
  unfolding run
  run-append o [] v = refl
  run-append o (t ∷ w) v = run-append (step G o t) w v

  -- a chosen row
  onward-held : {a : G.Symbol} (o : Option (G.Row a)) (h : IsSome o) (s : List G.Symbol) → onward G o s ≡ some (G.rest (held o h) ++ s)
  unfolding onward held
  onward-held none h s = absurd h
  onward-held (some r) h s = refl

  pub run-tree : (a : G.Symbol) (s : List G.Symbol) (t : Token) (h : IsSome (G.choose a t)) (w : List Token)
      → run G (some (a ∷ s)) (t ∷ w) ≡ run G (some (follow G a t h ++ s)) w
  unfolding run step follow
  run-tree a s t h w = ap (λ o. run G o w) (onward-held (G.choose a t) h s)

  -- the machine follows the print of any trees
  pub follows : {s : List G.Symbol} (f : Trees G s) (r : List G.Symbol) (w : List Token)
      → run G (some (s ++ r)) (print G f ++ w) ≡ run G (some r) w
  unfolding print run
  follows end r w = refl
  follows (tree {a = a} {s = s} t h f g) r w =
      run-tree a (s ++ r) t h ((print G f ++ print G g) ++ w)
      ∙ ap (λ v. run G (some (follow G a t h ++ (s ++ r))) v) (append_assoc (print G f) (print G g) w)
      ∙ follows f (s ++ r) (print G g ++ w)
      ∙ follows g r w

  -- trees of two lists of symbols, taken apart
  split : (s r : List G.Symbol) (f : Trees G (s ++ r)) → (g : Trees G s) × (k : Trees G r) × (print G f ≡ print G g ++ print G k)
  unfolding print
  split [] r f = (end, f, refl)
  split (a ∷ s) r (tree t h f f') =
      let q = split s r f' in
      (tree t h f q.0, q.1, ap (λ v. t ∷ (print G f ++ v)) (q.2) ∙ ap (λ v. t ∷ v) (sym (append_assoc (print G f) (print G (q.0)) (print G (q.1)))))

  unfoldable pub IsEmpty : Option (List G.Symbol) → Type 0
  IsEmpty none = ⊥
  IsEmpty (some []) = Unit {0}
  IsEmpty (some (a ∷ s)) = ⊥

  pub run-none-empty : (w : List Token) → IsEmpty (run G none w) → ⊥
  unfolding IsEmpty
  run-none-empty w h = rw (run_none w) at h

  pub chosen : {a : G.Symbol} (o : Option (G.Row a)) (s : List G.Symbol) (w : List Token) → IsEmpty (run G (onward G o s) w)
      → (h : IsSome o) × IsEmpty (run G (some (G.rest (held o h) ++ s)) w)
  unfolding onward held
  chosen none s w k = absurd (run-none-empty w k)
  chosen (some r) s w k = (tt, k)

  -- what the machine accepts is of the grammar
  pub leads : (s : List G.Symbol) (w : List Token) → IsEmpty (run G (some s) w) → Of G s w
  unfolding Of print run step IsEmpty follow
  leads [] [] h = (end, refl)
  leads (a ∷ s) [] h = absurd h
  leads [] (t ∷ w) h = absurd (run-none-empty w h)
  leads (a ∷ s) (t ∷ w) k =
      let c = chosen (G.choose a t) s w k in
      let i = leads (follow G a t (c.0) ++ s) w (c.1) in
      let q = split (follow G a t (c.0)) s (i.0) in
      (tree t (c.0) (q.0) (q.1), ap (λ v. t ∷ v) (sym (q.2) ∙ i.1))

  pub accepts : (s : List G.Symbol) (w : List Token) → Of G s w → run G (some s) w ≡ some []
  unfolding Of run
  accepts s w (f, e) = rw (← e) (rw (append-nil s, append-nil (print G f)) at (follows {s = s} f [] []))

  -- (1) the machine accepts exactly what is of the grammar
  pub accepts-exactly : (s : List G.Symbol) (w : List Token) → run G (some s) w ≡ some [] ↔ Of G s w
  unfolding IsEmpty
  accepts-exactly s w = (λ e. leads s w (subst IsEmpty (sym e) tt), accepts s w)
