-- The machine is alive exactly after the bytes that some text of the grammar begins with.
use Prim.Native.Nat.{ℕ}
use mathlib.Core.Path.{◌≡◌, refl, sym, ◌∙◌, ap, subst}
use mathlib.Core.Logic.{◌↔◌}
use mathlib.Core.Bool.{Bool, true, not, false≢true}
use mathlib.Core.List.{List, [], ◌∷◌, ◌++◌, append_assoc, append-nil}
use mathlib.Core.Option.{Option, none, some, IsSome}
use Rattle.grammar.specs.Grammar.{Grammar, follow, Trees, end, tree, print, Of, step, onward, run, Each, leasts}
use Rattle.grammar.specs.Spelling.{Token, is_blank, goes_on, apart, Spells, done, blank, token, Part, between, slash, star, lost, remark, aside, chunk, begin, feed, given, Lexes}
use Rattle.grammar.specs.Text.{BeginsText, Config, start, next, reads, Accepted, Hopes, alive}
use Rattle.grammar.proofs.Grammar.{run_none, run-tree, accepts}
use Rattle.grammar.proofs.Living.{each_append, AllFine, run-fine}
use Rattle.grammar.proofs.Spelled.{lexes, lexes-step, lexes-goes-on, lexes-end}
use Rattle.grammar.proofs.Found.{never-lost}
use Rattle.grammar.proofs.Parts.{ends-at-blank, none≢some, first-token, Good, good-feed}
use Rattle.grammar.proofs.Texts.{Ends, accepted-ends, text-accepted, reads-append}

module _ (G : Grammar Token) where
  pub good-reads : (c : Config G) (u : List ℕ) → Good c.part → Good (reads G c u).part
  unfolding reads next
  good-reads c [] g = g
  good-reads c (b ∷ u) g = good-reads (next G c b) u (good-feed c.part b g)

  good_start : (s : List G.Symbol) (u : List ℕ) → Good (reads G (start G s) u).part
  unfolding start
  good_start s u = good-reads (start G s) u tt

  -- (3) a text with a blank after each token
  spaced : List Token → List ℕ
  spaced [] = []
  spaced (t ∷ w) = t ++ (32 ∷ spaced w)

  module _ (hope : G.Symbol → Token → Bool) (H : Hopes G hope) where
    proper-trees : {s : List G.Symbol} (f : Trees G s) (w : List Token) → Spells (spaced w) w → Spells (spaced (print G f ++ w)) (print G f ++ w)
    unfolding print spaced apart is_blank
    proper-trees end w l = l
    proper-trees (tree {a = a} t h f g) w l =
        rw (append_assoc (print G f) (print G g) w)
        (token t (H.proper a t h) (ap not (ends-at-blank t)) (blank refl (proper-trees f (print G g ++ w) (proper-trees g w l))))

    spaced-print : {s : List G.Symbol} (f : Trees G s) → Spells (spaced (print G f)) (print G f)
    unfolding spaced
    spaced-print f = rw (append-nil (print G f)) at (proper-trees f [] done)

    -- what is alive can be ended
    module _ (s : List G.Symbol) (fine : Each G H.productive.Fine s) where
      abbrev least-text : List ℕ
      least-text = spaced (print G (leasts G H.productive s fine))

      least-end : Ends G (some s) between least-text
      unfolding Of
      least-end = let f = leasts G H.productive s fine in (print G f, lexes (spaced-print f), accepts G s (print G f) (f, refl))

      step_end : (p p' : Part) (b : ℕ) (u : List ℕ) → given p b ≡ [] → feed p b ≡ p' → Ends G (some s) p' u → Ends G (some s) p (b ∷ u)
      step_end p p' b u g f e = (e.0, lexes-step p p' b u (e.0) g f (e.1), e.2)

      star-end : Ends G (some s) star (47 ∷ least-text)
      unfolding feed given
      star-end = step_end star between 47 least-text refl refl least-end

      remark-end : Ends G (some s) remark (42 ∷ (47 ∷ least-text))
      unfolding feed given
      remark-end = step_end remark star 42 (47 ∷ least-text) refl refl star-end

      aside_end : Ends G (some s) aside (10 ∷ least-text)
      unfolding feed given
      aside_end = step_end aside between 10 least-text refl refl least-end

      slash-end : Ends G (some s) slash (42 ∷ (42 ∷ (47 ∷ least-text)))
      unfolding feed given
      slash-end = step_end slash remark 42 (42 ∷ (47 ∷ least-text)) refl refl remark-end

    chunk_end : (a : G.Symbol) (s : List G.Symbol) (q v : Token) → Each G H.productive.Fine (a ∷ s) → goes_on q v ≡ true
        → IsSome (G.choose a (q ++ v)) → (u : List ℕ) × Ends G (some (a ∷ s)) (chunk q) u
    unfolding apart is_blank begin feed given
    chunk_end a s q v fine g h =
        let r = follow G a (q ++ v) h ++ s in
        let k = each_append G H.productive (follow G a (q ++ v) h) s (H.productive.keeps a (q ++ v) h fine.0) fine.1 in
        let e = least-end r k in (
          v ++ (32 ∷ least-text r k),
          (
            (q ++ v) ∷ e.0,
            lexes-goes-on q v (32 ∷ least-text r k) ((q ++ v) ∷ e.0) g
                (lexes-end (q ++ v) (32 ∷ least-text r k) (e.0) (ap not (ends-at-blank (q ++ v)))
                (lexes-step between between 32 (least-text r k) (e.0) refl refl (e.1))),
            run-tree G a s (q ++ v) h (e.0) ∙ e.2,
          ),
        )

    unfoldable pub Some-end : Option (List G.Symbol) → Part → Type 0
    Some-end o p = (v : List ℕ) × Ends G o p v

    pub alive-ends : (o : Option (List G.Symbol)) (p : Part) → AllFine G H.productive o → Good p → alive G hope o p ≡ true → Some-end o p
    unfolding alive Some-end
    alive-ends none p k g e = absurd (false≢true e)
    alive-ends (some s) between k g e = (least-text s k, least-end s k)
    alive-ends (some s) slash k g e = (42 ∷ (42 ∷ (47 ∷ least-text s k)), slash-end s k)
    alive-ends (some s) remark k g e = (42 ∷ (47 ∷ least-text s k), remark-end s k)
    alive-ends (some s) star k g e = (47 ∷ least-text s k, star-end s k)
    alive-ends (some s) lost k g e = absurd (false≢true e)
    alive-ends (some s) aside k g e = (10 ∷ least-text s k, aside_end s k)
    alive-ends (some []) (chunk q) k g e = absurd (false≢true e)
    alive-ends (some (a ∷ s)) (chunk q) k g e = let h = H.sound a q g e in chunk_end a s q (h.0) k (h.1) (h.2)

    -- and what can be ended is alive
    some_of : {a : G.Symbol} (o : Option (G.Row a)) (s : List G.Symbol) (w : List Token) → run G (onward G o s) w ≡ some [] → IsSome o
    unfolding onward
    some_of none s w e = absurd (none≢some (sym (run_none G w) ∙ e))
    some_of (some r) s w e = tt

    pub ends-alive : (o : Option (List G.Symbol)) (p : Part) (v : List ℕ) → Ends G o p v → alive G hope o p ≡ true
    unfolding alive run step Lexes
    ends-alive none p v e = absurd (none≢some (sym (run_none G (e.0)) ∙ e.2))
    ends-alive (some s) between v e = refl
    ends-alive (some s) slash v e = refl
    ends-alive (some s) remark v e = refl
    ends-alive (some s) star v e = refl
    ends-alive (some s) lost v e = absurd (never-lost v (e.1).0)
    ends-alive (some s) aside v e = refl
    ends-alive (some []) (chunk q) v e =
        let f = first-token v q in
        absurd (none≢some (sym (run_none G (f.2)) ∙ ap (λ w. run G (some []) w) (sym (f.3) ∙ (e.1).1) ∙ e.2))
    ends-alive (some (a ∷ s)) (chunk q) v e =
        let f = first-token v q in
        H.complete a q (f.0) (f.1) (some_of (G.choose a (q ++ f.0)) s (f.2) (ap (λ w. run G (some (a ∷ s)) w) (sym (f.3) ∙ (e.1).1) ∙ e.2))

    pub reads-fine : (c : Config G) (u : List ℕ) → AllFine G H.productive c.ahead → AllFine G H.productive (reads G c u).ahead
    unfolding reads next
    reads-fine c [] k = k
    reads-fine c (b ∷ u) k = reads-fine (next G c b) u (run-fine G H.productive c.ahead (given c.part b) k)

    -- (3) the machine is alive exactly after what some text of the grammar begins with
    pub text-alive : (s : List G.Symbol) (u : List ℕ) → Each G H.productive.Fine s
        → alive G hope (reads G (start G s) u).ahead (reads G (start G s) u).part ≡ true ↔ BeginsText G s u
    unfolding BeginsText Some-end start
    text-alive s u fine =
        let c = reads G (start G s) u in (
          (λ h. let e = alive-ends c.ahead c.part (reads-fine (start G s) u fine) (good_start s u) h in
              let a = (accepted-ends G c.ahead c.part (e.0)).1 (e.1) in
              (e.0, (text-accepted G s (u ++ e.0)).0 (subst (Accepted G) (sym (reads-append G (start G s) u (e.0))) a))),
          (λ t.
              let a = subst (Accepted G) (reads-append G (start G s) u (t.0)) ((text-accepted G s (u ++ t.0)).1 (t.1)) in
              ends-alive c.ahead c.part (t.0) ((accepted-ends G c.ahead c.part (t.0)).0 a)),
        )
