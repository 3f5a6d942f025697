-- The tokens of a text stand at rising places, and so do the sayings that are not silent.
use Prim.Native.Nat.{ℕ, suc, ◌+◌, ◌-◌, ◌≤◌, ◌<◌}
use mathlib.Core.Path.{◌≡◌, sym, subst}
use mathlib.Core.Bool.{Bool, true, false, cond}
use mathlib.Core.List.{List, [], ◌∷◌, ◌++◌, map}
use mathlib.Core.Option.{some}
use native.Mathlib.Omega.{arith}
use lib.ListN.{length, length-append}
use Rattle.grammar.specs.Spelling.{Placed, Part, between, slash, star, lost, remark, aside, chunk, is_blank, joins, begin, feed, given, pending, ends_at, all_end_at, placed_from, placed}
use lib.Dec.{eqb}
use Rattle.grammar.specs.Table.{sort, Said}
use Rattle.grammar.proofs.Says.{says-placed}
use Rattle.notation.specs.Sayings.{Saying}
use Rattle.notation.specs.Rows.{plan, notation}
use Rattle.notation.specs.Spoken.{is_silent, spoken}
use Rattle.notation.specs.Reading.{plan_says}

abbrev pub Rising : ℕ → List Placed → Type 0
Rising n [] = Unit {0}
Rising n (t ∷ ts) = (n ≤ t.place) × Rising (suc t.place) ts

rising-on : (n m : ℕ) (ts : List Placed) → n ≤ m → Rising m ts → Rising n ts
rising-on n m [] l h = tt
rising-on n m (t ∷ ts) l h = (omega (arith, h.0), h.1)

-- where what is under way began, at the earliest
abbrev Began : Part → ℕ → ℕ → Type 0
Began between n m = m ≤ n
Began slash n m = m ≤ n
Began star n m = m ≤ n
Began lost n m = m ≤ n
Began remark n m = m ≤ n
Began aside n m = m ≤ n
Began (chunk q) n m = (m + length q ≤ n) × (0 < length q)

begin-began : (b n m : ℕ) → m ≤ n → Began (begin b) (suc n) m
unfolding begin
begin-began b n m l = go (is_blank b) (eqb b 47)
  where
    go : (x y : Bool) → Began (cond x between (cond y slash (chunk (b ∷ [])))) (suc n) m
    go true y = omega arith
    go false true = omega arith
    go false false = (omega arith, omega arith)

two_ways : (x : Bool) (p q : Part) (n m : ℕ) → Began p n m → Began q n m → Began (cond x p q) n m
two_ways true p q n m h k = h
two_ways false p q n m h k = k

placed-rising : (p : Part) (n m : ℕ) (u : List ℕ) → Began p n m → Rising m (placed_from p n u)
unfolding placed_from pending all_end_at ends_at given feed
placed-rising between n m [] h = tt
placed-rising slash n m [] h = tt
placed-rising star n m [] h = tt
placed-rising lost n m [] h = tt
placed-rising remark n m [] h = tt
placed-rising aside n m [] h = tt
placed-rising (chunk q) n m [] h = (omega (arith, h.0), tt)
placed-rising between n m (b ∷ u) h = placed-rising (begin b) (suc n) m u (begin-began b n m h)
placed-rising slash n m (b ∷ u) h =
    placed-rising (cond (eqb b 42) remark (cond (eqb b 47) aside lost)) (suc n) m u
    (two_ways (eqb b 42) remark (cond (eqb b 47) aside lost) (suc n) m (omega arith) (two_ways (eqb b 47) aside lost (suc n) m (omega arith) (omega arith)))
placed-rising star n m (b ∷ u) h =
    placed-rising (cond (eqb b 47) between (cond (eqb b 42) star remark)) (suc n) m u
    (two_ways (eqb b 47) between (cond (eqb b 42) star remark) (suc n) m (omega arith) (two_ways (eqb b 42) star remark (suc n) m (omega arith) (omega arith)))
placed-rising lost n m (b ∷ u) h = placed-rising lost (suc n) m u (omega arith)
placed-rising remark n m (b ∷ u) h = placed-rising (cond (eqb b 42) star remark) (suc n) m u (two_ways (eqb b 42) star remark (suc n) m (omega arith) (omega arith))
placed-rising aside n m (b ∷ u) h = placed-rising (cond (eqb b 10) between aside) (suc n) m u (two_ways (eqb b 10) between aside (suc n) m (omega arith) (omega arith))
placed-rising (chunk q) n m (b ∷ u) h = go (joins q b) (λ p k. placed-rising p (suc n) k u)
  where
    go : (t : Bool) → ((p : Part) (k : ℕ) → Began p (suc n) k → Rising k (placed_from p (suc n) u))
        → Rising m (all_end_at n (cond t [] (q ∷ [])) ++ placed_from (cond t (chunk (q ++ (b ∷ []))) (begin b)) (suc n) u)
    go true r = r (chunk (q ++ (b ∷ []))) m (omega (arith, h.0, length-append q (b ∷ [])), omega (arith, h.1, length-append q (b ∷ [])))
    go false r = (omega (arith, h.0), r (begin b) (suc (n - length q)) (begin-began b n (suc (n - length q)) (omega (arith, h.0, h.1))))

-- ---- sayings
abbrev pub SaidRising : ℕ → List (Said Saying) → Type 0
SaidRising n [] = Unit {0}
SaidRising n (w ∷ l) = (n ≤ w.token.place) × SaidRising (suc w.token.place) l

said-on : (n m : ℕ) (l : List (Said Saying)) → n ≤ m → SaidRising m l → SaidRising n l
said-on n m [] x h = tt
said-on n m (w ∷ l) x h = (omega (arith, h.0), h.1)

of-tokens : (n : ℕ) (l : List (Said Saying)) → Rising n (map (λ w. w.token) l) → SaidRising n l
of-tokens n [] h = tt
of-tokens n (w ∷ l) h = (h.0, of-tokens (suc w.token.place) l h.1)

spoken-rising : (n : ℕ) (l : List (Said Saying)) → SaidRising n l → SaidRising n (spoken l)
unfolding spoken
spoken-rising n [] h = tt
spoken-rising n (w ∷ l) h = go (is_silent w.what) (spoken-rising (suc w.token.place) l h.1)
  where
    go : (b : Bool) → SaidRising (suc w.token.place) (spoken l) → SaidRising n (elim b as (λ _. List (Said Saying)) [ true ↦ spoken l | false ↦ w ∷ spoken l ])
    go true r = said-on n (suc w.token.place) (spoken l) (omega (arith, h.0)) r
    go false r = (h.0, r)

pub says-rising : (u : List ℕ) (l : List (Said Saying)) → plan_says u ≡ some l → SaidRising 0 (spoken l)
unfolding plan_says placed
says-rising u l e = spoken-rising 0 l (of-tokens 0 l (subst (Rising 0) (sym (says-placed notation (sort plan ∷ []) u l e)) (placed-rising between 0 0 u (omega arith))))
