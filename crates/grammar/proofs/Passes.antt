-- Bytes that no token is in: they take the machine from part to part, and the machine is never in a token, nor lost.
use Prim.Native.Nat.{ℕ, suc, ◌+◌}
use native.Mathlib.Omega.{arith}
use lib.ListN.{length}
use lib.Dec.{eqb}
use mathlib.Core.Path.{◌≡◌, refl, ◌∙◌, ap}
use mathlib.Core.Bool.{Bool, true, false, not, cond, false≢true}
use mathlib.Core.List.{List, [], ◌∷◌, ◌++◌}
use Rattle.grammar.specs.Spelling.{is_blank, goes_on, whole, Part, between, slash, star, lost, remark, aside, chunk, begin, feed, given, after, all_end_at, placed_from}
use Rattle.grammar.proofs.Bools.{both_true}

-- no token is under way, and the machine is not lost
unfoldable pub quiet : Part → Bool
quiet between = true
quiet slash = true
quiet star = true
quiet remark = true
quiet aside = true
quiet lost = false
quiet (chunk q) = false

-- the bytes take the machine from a part to a part
pub data Passes : Part → List ℕ → Part → Type 0 where
  here : {p : Part} → Passes p [] p
  more : {p : Part} {b : ℕ} {x : List ℕ} {p' : Part} → quiet p ≡ true → quiet (feed p b) ≡ true → Passes (feed p b) x p' → Passes p (b ∷ x) p'

pub quiet-gives : (p : Part) (b : ℕ) → quiet p ≡ true → given p b ≡ []
unfolding quiet given
quiet-gives between b h = refl
quiet-gives slash b h = refl
quiet-gives star b h = refl
quiet-gives remark b h = refl
quiet-gives aside b h = refl
quiet-gives lost b h = absurd (false≢true h)
quiet-gives (chunk q) b h = absurd (false≢true h)

-- what a byte does where the machine is quiet
pub data Fed (p : Part) (b : ℕ) : Type 0 where
  stays : quiet (feed p b) ≡ true → Fed p b
  begins : p ≡ between → feed p b ≡ chunk (b ∷ []) → whole (b ∷ []) ≡ true → Fed p b
  breaks : p ≡ slash → feed p b ≡ lost → Fed p b

quiet-cond : (k : Bool) (p p' : Part) → quiet p ≡ true → quiet p' ≡ true → quiet (cond k p p') ≡ true
quiet-cond true p p' h h' = h
quiet-cond false p p' h h' = h'

fed-between : (b : ℕ) → Fed between b
unfolding feed begin quiet whole goes_on
fed-between b = go (is_blank b) refl (eqb b 47) refl
  where
    go : (k : Bool) → is_blank b ≡ k → (j : Bool) → eqb b 47 ≡ j → Fed between b
    go true e j ej = stays (rw e)
    go false e true ej = stays (rw (e, ej))
    go false e false ej = begins refl (rw (e, ej)) (both_true _ _ (both_true _ _ (ap not e) (ap not ej)) refl)

fed-slash : (b : ℕ) → Fed slash b
unfolding feed quiet
fed-slash b = go (eqb b 42) refl (eqb b 47) refl
  where
    go : (k : Bool) → eqb b 42 ≡ k → (j : Bool) → eqb b 47 ≡ j → Fed slash b
    go true e j ej = stays (rw e)
    go false e true ej = stays (rw (e, ej))
    go false e false ej = breaks refl (rw (e, ej))

pub fed : (p : Part) (b : ℕ) → quiet p ≡ true → Fed p b
unfolding feed quiet
fed between b h = fed-between b
fed slash b h = fed-slash b
fed star b h = stays (quiet-cond (eqb b 47) between _ refl (quiet-cond (eqb b 42) star remark refl refl))
fed remark b h = stays (quiet-cond (eqb b 42) star remark refl refl)
fed aside b h = stays (quiet-cond (eqb b 10) between aside refl refl)
fed lost b h = absurd (false≢true h)
fed (chunk q) b h = absurd (false≢true h)

-- the tokens after such bytes are those of what follows them
pub passes-placed : {p : Part} {x : List ℕ} {p' : Part} → Passes p x p' → (n : ℕ) (y : List ℕ)
    → placed_from p n (x ++ y) ≡ placed_from p' (n + length x) y
unfolding placed_from all_end_at
passes-placed {p} here n y = ap (λ m. placed_from p m y) (omega arith)
passes-placed {p} {x} {p'} (more {b = b} {x = x₁} h k m) n y =
    rw (quiet-gives p b h) (passes-placed m (suc n) y ∙ ap (λ i. placed_from p' i y) (omega arith))

-- and so is where the machine ends
pub passes-after : {p : Part} {x : List ℕ} {p' : Part} → Passes p x p' → (y : List ℕ) → after p (x ++ y) ≡ after p' y
unfolding after
passes-after here y = refl
passes-after (more h k m) y = passes-after m y
