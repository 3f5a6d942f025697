-- How far the machine stays alive over bytes between tokens, and over a token's bytes.
use Prim.Native.Nat.{ℕ, zero, suc, ◌+◌}
use native.Mathlib.Omega.{arith}
use lib.ListN.{length}
use lib.Dec.{eqb}
use mathlib.Core.Path.{◌≡◌, refl, ◌∙◌, ap}
use mathlib.Core.Bool.{Bool, true, not, ◌&&◌, cond, false≢true}
use mathlib.Core.List.{List, [], ◌∷◌, ◌++◌, append-nil, append_assoc}
use mathlib.Core.Option.{none, some, IsSome}
use borrow.Author.Tests.{not-true}
use Rattle.grammar.specs.Grammar.{Grammar, onward, step, run}
use Rattle.grammar.specs.Spelling.{Token, is_blank, joins, goes_on, whole, apart, Part, between, slash, star, lost, remark, aside, chunk, feed, given}
use Rattle.grammar.specs.Text.{Config, next, alive, alive_at, reach}
use Rattle.grammar.specs.Scan.{longest}
use Rattle.grammar.proofs.Bools.{both}
use Rattle.grammar.proofs.Spelled.{begin-chunk}
use Rattle.grammar.proofs.Passes.{quiet, Passes, here, more, quiet-gives}

module _ (G : Grammar Token) (hope : G.Symbol → Token → Bool) where
  -- s is to come, and the machine is at the part p
  abbrev pub at : List G.Symbol → Part → Config G
  at s p = record { ahead = some s; part = p }

  -- one byte more that gives no token
  reach-quiet : (s : List G.Symbol) (p p' : Part) (b : ℕ) (u : List ℕ) → given p b ≡ [] → feed p b ≡ p'
      → reach G hope (at s p) (b ∷ u) ≡ cond (alive G hope (some s) p') (suc (reach G hope (at s p') u)) zero
  unfolding reach next alive_at run
  reach-quiet s p p' b u g f = rw (g, f)

  quiet-alive : (s : List G.Symbol) (p : Part) → quiet p ≡ true → alive G hope (some s) p ≡ true
  unfolding quiet alive
  quiet-alive s between h = refl
  quiet-alive s slash h = refl
  quiet-alive s star h = refl
  quiet-alive s remark h = refl
  quiet-alive s aside h = refl
  quiet-alive s lost h = absurd (false≢true h)
  quiet-alive s (chunk q) h = absurd (false≢true h)

  -- bytes that no token is in are all viable
  pub passes-reach : (s : List G.Symbol) {p : Part} {x : List ℕ} {p' : Part} → Passes p x p' → (y : List ℕ)
      → reach G hope (at s p) (x ++ y) ≡ length x + reach G hope (at s p') y
  passes-reach s here y = omega arith
  passes-reach s {p} {x} {p'} (more {b = b} {x = x₁} h k m) y =
      reach-quiet s p (feed p b) b (x₁ ++ y) (quiet-gives p b h) refl
      ∙ rw (quiet-alive s (feed p b) k) (let i = passes-reach s m y in omega arith)

  -- a '/' that opens no comment is the last viable byte
  pub lost-reach : (s : List G.Symbol) (b : ℕ) (y : List ℕ) → feed slash b ≡ lost → reach G hope (at s slash) (b ∷ y) ≡ 0
  unfolding given alive
  lost-reach s b y e = reach-quiet s slash lost b y refl e

  -- a byte of a token
  reach-joined : (s : List G.Symbol) (q : Token) (b : ℕ) (u : List ℕ) → joins q b ≡ true
      → reach G hope (at s (chunk q)) (b ∷ u)
      ≡ cond (alive G hope (some s) (chunk (q ++ (b ∷ [])))) (suc (reach G hope (at s (chunk (q ++ (b ∷ [])))) u)) zero
  unfolding given feed
  reach-joined s q b u e = reach-quiet s (chunk q) (chunk (q ++ (b ∷ []))) b u (rw e) (rw e)

  -- a token's first byte
  reach-begun : (s : List G.Symbol) (b : ℕ) (u : List ℕ) → not (is_blank b) && not (eqb b 47) ≡ true
      → reach G hope (at s between) (b ∷ u) ≡ cond (alive G hope (some s) (chunk (b ∷ []))) (suc (reach G hope (at s (chunk (b ∷ []))) u)) zero
  unfolding given feed
  reach-begun s b u e = reach-quiet s between (chunk (b ∷ [])) b u refl (begin-chunk b e)

  -- nothing is to come: no byte of a token is viable
  pub past-reach : (t y : List ℕ) → whole t ≡ true → reach G hope (at [] between) (t ++ y) ≡ 0
  unfolding whole alive
  past-reach [] y w = absurd (false≢true w)
  past-reach (b ∷ r) y w = reach-begun [] b (r ++ y) (both (not (is_blank b) && not (eqb b 47)) (goes_on (b ∷ []) r) w).0

  module _ (a : G.Symbol) (s : List G.Symbol) where
    -- a token that begins no row of a: its bytes are viable as far as `hope` says
    refused-on : (q r y : List ℕ) → goes_on q r ≡ true → reach G hope (at (a ∷ s) (chunk (q ++ r))) y ≡ 0
        → reach G hope (at (a ∷ s) (chunk q)) (r ++ y) ≡ longest (λ x. hope a (q ++ x)) r
    unfolding goes_on longest alive
    refused-on q [] y g z = rw (append-nil q) at z
    refused-on q (b ∷ r) y g z =
        let h = both (joins q b) (goes_on (q ++ (b ∷ [])) r) g in
        reach-joined (a ∷ s) q b (r ++ y) h.0
        ∙ ap (λ n. cond (hope a (q ++ (b ∷ []))) (suc n) zero)
        (refused-on (q ++ (b ∷ [])) r y h.1 (rw (append_assoc q (b ∷ []) r) z)
        ∙ ap (λ P. longest P r) (λ i x. hope a (append_assoc q (b ∷ []) x i)))

    refused_end : (t y : List ℕ) → apart t y ≡ true → G.choose a t ≡ none → reach G hope (at (a ∷ s) (chunk t)) y ≡ 0
    unfolding reach apart next given run step onward alive_at alive
    refused_end t [] p e = refl
    refused_end t (b ∷ y) p e = rw (not-true (joins t b) p, e)

    pub refused-reach : (t y : List ℕ) → whole t ≡ true → apart t y ≡ true → G.choose a t ≡ none
        → reach G hope (at (a ∷ s) between) (t ++ y) ≡ longest (hope a) t
    unfolding whole longest alive
    refused-reach [] y w p e = absurd (false≢true w)
    refused-reach (b ∷ r) y w p e =
        let h = both (not (is_blank b) && not (eqb b 47)) (goes_on (b ∷ []) r) w in
        reach-begun (a ∷ s) b (r ++ y) h.0
        ∙ ap (λ n. cond (hope a (b ∷ [])) (suc n) zero) (refused-on (b ∷ []) r y h.1 (refused_end (b ∷ r) y p e))

    -- a token that begins a row is viable, and after it what follows the row is to come
    module _ (complete : (q v : Token) → goes_on q v ≡ true → IsSome (G.choose a (q ++ v)) → hope a q ≡ true) where
      taken-on : (q r y : List ℕ) → goes_on q r ≡ true → IsSome (G.choose a (q ++ r))
          → reach G hope (at (a ∷ s) (chunk q)) (r ++ y) ≡ length r + reach G hope (at (a ∷ s) (chunk (q ++ r))) y
      unfolding goes_on alive
      taken-on q [] y g k = rw (append-nil q) (omega arith)
      taken-on q (b ∷ r) y g k =
          let h = both (joins q b) (goes_on (q ++ (b ∷ [])) r) g in
          let c : IsSome (G.choose a ((q ++ (b ∷ [])) ++ r)) = rw (append_assoc q (b ∷ []) r) k in
          let i = rw (append_assoc q (b ∷ []) r) at (taken-on (q ++ (b ∷ [])) r y h.1 c) in
          reach-joined (a ∷ s) q b (r ++ y) h.0
          ∙ rw (complete (q ++ (b ∷ [])) r h.1 c) (omega arith)

      taken-end : (t y : List ℕ) (r : G.Row a) → apart t y ≡ true → G.choose a t ≡ some r
          → reach G hope (at (a ∷ s) (chunk t)) y ≡ reach G hope (at (G.rest r ++ s) between) y
      unfolding reach apart next given run step onward alive_at feed
      taken-end t [] r p e = refl
      taken-end t (b ∷ y) r p e = rw (not-true (joins t b) p, e)

      pub taken-reach : (t y : List ℕ) (r : G.Row a) → whole t ≡ true → apart t y ≡ true → G.choose a t ≡ some r
          → reach G hope (at (a ∷ s) between) (t ++ y) ≡ length t + reach G hope (at (G.rest r ++ s) between) y
      unfolding whole alive
      taken-reach [] y r w p e = absurd (false≢true w)
      taken-reach (b ∷ t) y r w p e =
          let h = both (not (is_blank b) && not (eqb b 47)) (goes_on (b ∷ []) t) w in
          let k : IsSome (G.choose a (b ∷ t)) = rw e tt in
          let on = taken-on (b ∷ []) t y h.1 k in
          let end = taken-end (b ∷ t) y r p e in
          reach-begun (a ∷ s) b (t ++ y) h.0
          ∙ rw (complete (b ∷ []) t h.1 k) (omega arith)
