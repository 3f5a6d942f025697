-- Of texts, byte by byte: the machine accepts exactly the texts of the grammar, a text has one tree, and it is read.
use Prim.Native.Nat.{ℕ}
use mathlib.Core.Path.{◌≡◌, refl, sym, ◌∙◌, ap}
use mathlib.Core.Logic.{◌↔◌}
use mathlib.Core.Bool.{Bool, true, false, cond}
use mathlib.Core.List.{List, [], ◌∷◌, ◌++◌}
use mathlib.Core.Option.{Option, none, some, IsSome}
use Rattle.grammar.specs.Grammar.{Grammar, held, Of, run, parse}
use Rattle.grammar.specs.Spelling.{Token, Part, between, feed, given, after, emitted, pending, shut, Lexes}
use Rattle.grammar.specs.Text.{OfText, trees_of, Config, start, next, reads, Accepted, read_trees}
use Rattle.grammar.proofs.Grammar.{run-append, accepts, accepts-exactly}
use Rattle.grammar.proofs.Unique.{unique}
use Rattle.grammar.proofs.Parses.{parse-exactly, parse-print}
use Rattle.grammar.proofs.Spelled.{lexes}
use Rattle.grammar.proofs.Found.{lexes-exactly, spells_one}

module _ (G : Grammar Token) where
  -- the machine over bytes is the one over tokens, at the tokens that are found
  pub reads-are : (o : Option (List G.Symbol)) (p : Part) (u : List ℕ)
      → reads G (record { ahead = o; part = p }) u ≡ record { ahead = run G o (emitted p u); part = after p u }
  unfolding reads next emitted after run
  reads-are o p [] = refl
  reads-are o p (b ∷ u) =
      reads-are (run G o (given p b)) (feed p b) u
      ∙ ap (λ x. record { ahead = x; part = after (feed p b) u }) (sym (run-append G o (given p b) (emitted (feed p b) u)))

  -- the text u takes the machine from o, p to the end
  abbrev pub Ends : Option (List G.Symbol) → Part → List ℕ → Type 0
  Ends o p u = (w : List Token) × Lexes p u w × (run G o w ≡ some [])

  pub accepted-ends : (o : Option (List G.Symbol)) (p : Part) (u : List ℕ) → Accepted G (reads G (record { ahead = o; part = p }) u) ↔ Ends o p u
  unfolding Accepted Lexes
  accepted-ends o p u = rw (reads-are o p u) (
    (λ a. (emitted p u ++ pending (after p u), (a.0, refl), run-append G o (emitted p u) (pending (after p u)) ∙ a.1)),
    (λ e. ((e.1).0, sym (run-append G o (emitted p u) (pending (after p u))) ∙ ap (λ w. run G o w) (e.1).1 ∙ e.2)),
  )

  -- (1) the machine accepts exactly the texts of the grammar
  pub text-accepted : (s : List G.Symbol) (u : List ℕ) → Accepted G (reads G (start G s) u) ↔ OfText G s u
  unfolding OfText start
  text-accepted s u = (
    (λ a. let e = (accepted-ends (some s) between u).0 a in
        (e.0, (lexes-exactly u (e.0)).1 (e.1), (accepts-exactly G s (e.0)).0 (e.2))),
    (λ t. (accepted-ends (some s) between u).1 (t.0, lexes (t.1), accepts G s (t.0) (t.2))),
  )

  -- (2) a text has one tree
  pub text-unique : (s : List G.Symbol) (u : List ℕ) (x y : OfText G s u) → trees_of G u x ≡ trees_of G u y
  unfolding OfText Of trees_of
  text-unique s u x y = unique G x.2.0 y.2.0 (x.2.1 ∙ spells_one x.1 y.1 ∙ sym y.2.1)

  -- the trees of a text are read
  pub text-read : (s : List G.Symbol) (u : List ℕ) (x : OfText G s u) → read_trees G s u ≡ some (trees_of G u x)
  unfolding OfText Of trees_of read_trees Lexes
  text-read s u x =
      let l = lexes x.1 in rw l.0
      (parse-exactly G s (emitted between u ++ pending (after between u)) x.2.0 (x.2.1 ∙ sym l.1))

  -- and what is read is of the grammar
  pub read-text : (s : List G.Symbol) (u : List ℕ) → IsSome (read_trees G s u) → OfText G s u
  unfolding OfText Of read_trees Lexes
  read-text s u h = go (shut (after between u)) refl h
    where
      w : List Token
      w = emitted between u ++ pending (after between u)

      go : (k : Bool) → shut (after between u) ≡ k → IsSome (cond k (parse G w s) none) → OfText G s u
      go true e h = (w, (lexes-exactly u w).1 (e, refl), (held (parse G w s) h, parse-print G s w h))
      go false e h = absurd h

  pub reads-append : (c : Config G) (u v : List ℕ) → reads G c (u ++ v) ≡ reads G (reads G c u) v
  unfolding reads
  reads-append c [] v = refl
  reads-append c (b ∷ u) v = reads-append (next G c b) u v
