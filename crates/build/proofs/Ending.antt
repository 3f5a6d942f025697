-- What is pending, and when it ends.
use Prim.Native.Nat.{ℕ, ◌≤◌, ◌<◌}
use mathlib.Core.Path.{◌≡◌, refl}
use mathlib.Core.List.{List, [], ◌∷◌, ◌++◌}
use native.Mathlib.Omega.{arith}
use lib.ListN.{length}
use borrow.Author.Tests.{le-leb, lt-leb}
use Rattle.grammar.specs.Table.{Said}
use Rattle.notation.specs.Sayings.{Operator, Saying}
use Rattle.notation.specs.Phrases.{Sayings}
use Rattle.notation.specs.Draft.{Entry, negation, Mentioned, Pending, prefix, paren, infix', Draft}
use Rattle.notation.specs.Hearing.{strength, made, ending, waiting, end_operators, settle_name, settled, hear, hear_all, last, ◌▸◌}
use Rattle.build.specs.Flow.{Before, After, closing, operator, binding}
use Rattle.build.specs.Flow as Flow
use Rattle.build.specs.Standing.{within, Still}

pub still-nothing : (k : ℕ) → Still k []
still-nothing k s h = unfold ending waiting in (λ es. refl, refl)

pub still-group : (k : ℕ) (ps : List Pending) → Still k (paren ∷ ps)
still-group k ps s h = unfold ending waiting in (λ es. refl, refl)

pub still-operator : (k : ℕ) (o : Operator) (a : ℕ) (ps : List Pending) → strength o < k → Still k (infix' o a ∷ ps)
still-operator k o a ps m s h = unfold ending waiting in rw (lt-leb s (strength o) (omega arith)) (λ es. refl, refl)

pub still-not : (k : ℕ) (ps : List Pending) → 3 < k → Still k (prefix ∷ ps)
still-not k ps m s h = unfold ending waiting in rw (lt-leb s 3 (omega arith)) (λ es. refl, refl)

module _ (s : ℕ) (o : Operator) (a : ℕ) (ps : List Pending) (es : List Entry) (h : s ≤ strength o) where
  operator-ending : ending s (infix' o a ∷ ps) es ≡ ending s ps (es ++ made o a (last es) (length es))
  operator-ending = unfold ending in rw (le-leb s (strength o) h)

  operator-waiting : waiting s (infix' o a ∷ ps) ≡ waiting s ps
  operator-waiting = unfold waiting in rw (le-leb s (strength o) h)

module _ (s : ℕ) (ps : List Pending) (es : List Entry) (h : s ≤ 3) where
  not-ending : ending s (prefix ∷ ps) es ≡ ending s ps (es ▸ negation (last es))
  not-ending = unfold ending in rw (le-leb s 3 h)

  not-waiting : waiting s (prefix ∷ ps) ≡ waiting s ps
  not-waiting = unfold waiting in rw (le-leb s 3 h)

-- two drafts that have the same entries and the same pending once what binds as strongly as what is said next has ended
alike : {n : ℕ} {w : Said Saying} {l k : Sayings} (d : Draft) (ms : List Mentioned) (es fs : List Entry) (ps qs : List Pending) → After n (w ∷ l) k
    → ending (binding w.what) ps es ≡ ending (binding w.what) qs fs → waiting (binding w.what) ps ≡ waiting (binding w.what) qs
    → hear_all (w ∷ l) (within d es ms ps) ≡ hear_all (w ∷ l) (within d fs ms qs)
unfolding hear_all hear end_operators settled settle_name binding
alike d ms es fs ps qs (Flow.closing e r) p q = rw e (let p' = rw e at p in let q' = rw e at q in rw (p', q'))
alike d ms es fs ps qs (Flow.operator o e r) p q = rw e (let p' = rw e at p in let q' = rw e at q in rw (p', q'))
alike d ms es fs ps qs (Flow.ending e) p q = rw e (let p' = rw e at p in let q' = rw e at q in rw (p', q'))

-- an operator ends where what is said next binds no more strongly
pub operator-ends : {n : ℕ} {w : Said Saying} {l k : Sayings} (d : Draft) (es : List Entry) (ms : List Mentioned) (o : Operator) (a : ℕ) (ps : List Pending)
    → After n (w ∷ l) k → binding w.what ≤ strength o
    → hear_all (w ∷ l) (within d es ms (infix' o a ∷ ps)) ≡ hear_all (w ∷ l) (within d (es ++ made o a (last es) (length es)) ms ps)
operator-ends {w = w} d es ms o a ps r h =
    alike d ms es (es ++ made o a (last es) (length es)) (infix' o a ∷ ps) ps r (operator-ending (binding w.what) o a ps es h) (operator-waiting (binding w.what) o a ps es h)

-- so does NOT
pub not-ends : {n : ℕ} {w : Said Saying} {l k : Sayings} (d : Draft) (es : List Entry) (ms : List Mentioned) (ps : List Pending)
    → After n (w ∷ l) k → binding w.what ≤ 3
    → hear_all (w ∷ l) (within d es ms (prefix ∷ ps)) ≡ hear_all (w ∷ l) (within d (es ▸ negation (last es)) ms ps)
not-ends {w = w} d es ms ps r h =
    alike d ms es (es ▸ negation (last es)) (prefix ∷ ps) ps r (not-ending (binding w.what) ps es h) (not-waiting (binding w.what) ps es h)
