-- Where each symbol has a tree, the machine is alive exactly after the tokens that some text begins with.
use mathlib.Core.Path.{◌≡◌, refl, sym, ◌∙◌, ap, subst}
use mathlib.Core.Logic.{◌↔◌}
use mathlib.Core.List.{List, [], ◌∷◌, ◌++◌}
use mathlib.Core.Option.{Option, none, some, IsSome}
use Rattle.grammar.specs.Grammar.{Grammar, held, follow, print, Of, Begins, onward, step, run, Each, Productive, leasts}
use Rattle.grammar.proofs.Grammar.{run-append, IsEmpty, run-none-empty, leads, accepts}

module _ {Token : Type 0} (G : Grammar Token) where
  pub held-is {ℓ} : {A : Type ℓ} (o : Option A) (h : IsSome o) → o ≡ some (held o h)
  unfolding held
  held-is none h = absurd h
  held-is (some a) h = refl

  lives : (o : Option (List G.Symbol)) (v : List Token) → IsEmpty G (run G o v) → IsSome o
  unfolding IsEmpty
  lives none v h = run-none-empty G v h
  lives (some s) v h = tt

  module _ (P : Productive G) where
    pub each_append : (s r : List G.Symbol) → Each G P.Fine s → Each G P.Fine r → Each G P.Fine (s ++ r)
    each_append [] r e e' = e'
    each_append (a ∷ s) r e e' = (e.0, each_append s r e.1 e')

    abbrev pub AllFine : Option (List G.Symbol) → Type 0
    AllFine none = Unit {0}
    AllFine (some s) = Each G P.Fine s

    onward-fine : (a : G.Symbol) (o : Option (G.Row a)) (s : List G.Symbol) → ((h : IsSome o) → Each G P.Fine (G.rest (held o h)))
        → Each G P.Fine s → AllFine (onward G o s)
    unfolding onward held
    onward-fine a none s k e = tt
    onward-fine a (some r) s k e = each_append (G.rest r) s (k tt) e

    step-fine : (o : Option (List G.Symbol)) (t : Token) → AllFine o → AllFine (step G o t)
    unfolding step follow
    step-fine none t e = tt
    step-fine (some []) t e = tt
    step-fine (some (a ∷ s)) t e = onward-fine a (G.choose a t) s (λ h. P.keeps a t h e.0) e.1

    -- only fine symbols are ever to come
    pub run-fine : (o : Option (List G.Symbol)) (w : List Token) → AllFine o → AllFine (run G o w)
    unfolding run
    run-fine o [] e = e
    run-fine o (t ∷ w) e = run-fine (step G o t) w (step-fine o t e)

    pub held-fine : (o : Option (List G.Symbol)) (h : IsSome o) → AllFine o → Each G P.Fine (held o h)
    unfolding held
    held-fine none h e = absurd h
    held-fine (some s) h e = e

    -- (3) the machine is alive exactly after what some text of the grammar begins with
    pub alive-exactly : (s : List G.Symbol) (w : List Token) → Each G P.Fine s → IsSome (run G (some s) w) ↔ Begins G s w
    unfolding Begins IsEmpty Of
    alive-exactly s w fine = (
      λ h. let r = held (run G (some s) w) h in
          let k = leasts G P r (held-fine (run G (some s) w) h (run-fine (some s) w fine)) in
          let e =
          run-append G (some s) w (print G k)
          ∙ ap (λ o. run G o (print G k)) (held-is (run G (some s) w) h)
          ∙ accepts G r (print G k) (k, refl)
          in
          (print G k, leads G s (w ++ print G k) (subst (IsEmpty G) (sym e) tt)),
      λ b. lives (run G (some s) w) (b.0) (subst (IsEmpty G) (sym (accepts G s (w ++ b.0) (b.1)) ∙ run-append G (some s) w (b.0)) tt),
    )
