-- What comes next in a text, in three ways: only blanks and comments, a '/' that opens no comment, or a token.
use Prim.Native.Nat.{ℕ, suc, ◌+◌}
use native.Mathlib.Omega.{arith}
use lib.ListN.{length}
use mathlib.Core.Path.{◌≡◌, refl, ◌∙◌, ap}
use mathlib.Core.Bool.{Bool, true, false, cond, false≢true}
use mathlib.Core.List.{List, [], ◌∷◌, ◌++◌, append-nil, append_assoc}
use Rattle.grammar.specs.Spelling.{Token, joins, goes_on, whole, apart, Part, between, slash, star, lost, remark, aside, chunk, feed, shut}
use Rattle.grammar.specs.Scan.{Next, done, broken, token, ending, stop, next_from}
use Rattle.grammar.proofs.Bools.{both_true}
use Rattle.grammar.proofs.Tokens.{whole_append}
use Rattle.grammar.proofs.Passes.{quiet, Passes, here, more, Fed, stays, begins, breaks, fed}

-- where a token ends
abbrev Ending : Token → ℕ → List ℕ → Type 0
Ending q n v = (x : List ℕ) × (y : List ℕ) × (v ≡ x ++ y) × (goes_on q x ≡ true) × (apart (q ++ x) y ≡ true) × (ending q n v ≡ n + length x)

ends : (q : Token) (n : ℕ) (v : List ℕ) → Ending q n v
unfolding goes_on apart ending
ends q n [] = ([], [], refl, refl, refl, omega arith)
ends q n (b ∷ v) = go (joins q b) refl (ends (q ++ (b ∷ [])) (suc n) v)
  where
    go : (k : Bool) → joins q b ≡ k → Ending (q ++ (b ∷ [])) (suc n) v → Ending q n (b ∷ v)
    go true e f = (
      b ∷ f.0,
      f.1,
      ap (λ w. b ∷ w) f.2,
      both_true _ _ e f.3,
      rw (← append_assoc q (b ∷ []) f.0) f.4,
      rw e (f.5 ∙ (omega arith)),
    )
    go false e f = ([], b ∷ v, refl, refl, rw (append-nil q, e), rw e (omega arith))

pub data View (p : Part) (n : ℕ) (v : List ℕ) : Type 0 where
  -- the bytes pass, to the text's end
  quietly : (p' : Part) → quiet p' ≡ true → Passes p v p' → next_from p n v ≡ cond (shut p') done (broken (n + length v)) → View p n v
  -- the machine is lost at the byte b
  gone : (x : List ℕ) (b : ℕ) (y : List ℕ) → v ≡ x ++ (b ∷ y) → Passes p x slash → feed slash b ≡ lost → next_from p n v ≡ broken (n + length x)
      → View p n v
  -- the token t
  met : (x : List ℕ) (t : Token) (y : List ℕ) → v ≡ x ++ (t ++ y) → Passes p x between → whole t ≡ true → apart t y ≡ true
      → next_from p n v ≡ token (n + length x) (n + length x + length t) → View p n v

-- the search goes on
pub stop-quiet : (p : Part) (n : ℕ) (u : List ℕ) (later : Next) → quiet p ≡ true → stop p n u later ≡ later
unfolding quiet stop
stop-quiet between n u later h = refl
stop-quiet slash n u later h = refl
stop-quiet star n u later h = refl
stop-quiet remark n u later h = refl
stop-quiet aside n u later h = refl
stop-quiet lost n u later h = absurd (false≢true h)
stop-quiet (chunk q) n u later h = absurd (false≢true h)

module _ (p : Part) (n : ℕ) (b : ℕ) (v : List ℕ) (h : quiet p ≡ true) where
  same_next : quiet (feed p b) ≡ true → next_from p n (b ∷ v) ≡ next_from (feed p b) (suc n) v
  unfolding next_from
  same_next k = stop-quiet (feed p b) n v _ k

  -- a byte that passes
  view-on : quiet (feed p b) ≡ true → View (feed p b) (suc n) v → View p n (b ∷ v)
  view-on k (quietly p' q m e) =
      quietly p' q (more h k m) (same_next k ∙ e ∙ ap (λ i. cond (shut p') done (broken i)) (omega arith))
  view-on k (gone x c y e m l r) =
      gone (b ∷ x) c y (ap (λ w. b ∷ w) e) (more h k m) l (same_next k ∙ r ∙ ap (λ i. broken i) (omega arith))
  view-on k (met x t y e m w a r) =
      let z : suc n + length x ≡ n + suc (length x) = omega arith in
      met (b ∷ x) t y (ap (λ w. b ∷ w) e) (more h k m) w a (same_next k ∙ r ∙ ap (λ i. token i (i + length t)) z)

  -- a token's first byte
  view-token : p ≡ between → feed p b ≡ chunk (b ∷ []) → whole (b ∷ []) ≡ true → View p n (b ∷ v)
  unfolding next_from stop
  view-token e f w =
      let g = ends (b ∷ []) (suc n) v in
      let z : ending (b ∷ []) (suc n) v ≡ n + 0 + suc (length g.0) = g.5 ∙ (omega arith) in
      let o : n ≡ n + 0 = omega arith in
      met [] (b ∷ g.0) g.1 (ap (λ w. b ∷ w) g.2) (rw e here) (whole_append (b ∷ []) g.0 w g.3) g.4
      (rw f (ap (λ i. token n i) z ∙ ap (λ i. token i (n + 0 + suc (length g.0))) o))

  view-lost : p ≡ slash → feed p b ≡ lost → View p n (b ∷ v)
  unfolding next_from stop
  view-lost e f = gone [] b v refl (rw e here) (rw e at f) (rw f (ap (λ i. broken i) (omega arith)))

pub view : (p : Part) (n : ℕ) (v : List ℕ) → quiet p ≡ true → View p n v
unfolding next_from
view p n [] h = quietly p h here (ap (λ i. cond (shut p) done (broken i)) (omega arith))
view p n (b ∷ v) h = go (fed p b h) (view (feed p b) (suc n) v)
  where
    go : Fed p b → (quiet (feed p b) ≡ true → View (feed p b) (suc n) v) → View p n (b ∷ v)
    go (stays k) f = view-on p n b v h k (f k)
    go (begins e k w) f = view-token p n b v h e k w
    go (breaks e k) f = view-lost p n b v h e k
