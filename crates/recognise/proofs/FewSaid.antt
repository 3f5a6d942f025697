-- A text says at most as much as it has bytes: each saying is of a token, and each token has a byte of its own.
use Prim.Native.Nat.{ℕ, suc, ◌+◌, ◌≤◌}
use mathlib.Core.Path.{◌≡◌, refl, ap}
use mathlib.Core.Bool.{Bool, true, false, cond}
use mathlib.Core.List.{List, [], ◌∷◌}
use native.Mathlib.Omega.{arith}
use lib.ListN.{length, length-append}
use Rattle.grammar.specs.Spelling.{Token, joins, Part, between, slash, star, lost, remark, aside, chunk, feed, given, pending, all_end_at, placed_from, placed}
use Rattle.grammar.specs.Table.{Said}
use Rattle.notation.specs.Sayings.{Saying}
use Rattle.notation.specs.Spoken.{is_silent, spoken}
use Rattle.recognise.specs.Aptness.{TextsShort}
use Rattle.recognise.proofs.Aptness.{text-each}

-- ---- as many tokens as bytes
-- a token under way
under_way : Part → ℕ
under_way between = 0
under_way slash = 0
under_way star = 0
under_way lost = 0
under_way remark = 0
under_way aside = 0
under_way (chunk q) = 1

all-many : (n : ℕ) (w : List Token) → length (all_end_at n w) ≡ length w
unfolding all_end_at
all-many n [] = refl
all-many n (t ∷ w) = ap suc (all-many n w)

pending-few : (p : Part) → length (pending p) ≤ under_way p
unfolding pending under_way
pending-few between = omega arith
pending-few slash = omega arith
pending-few star = omega arith
pending-few lost = omega arith
pending-few remark = omega arith
pending-few aside = omega arith
pending-few (chunk q) = omega arith

one_way : (p : Part) → under_way p ≤ 1
unfolding under_way
one_way between = omega arith
one_way slash = omega arith
one_way star = omega arith
one_way lost = omega arith
one_way remark = omega arith
one_way aside = omega arith
one_way (chunk q) = omega arith

-- a byte begins at most one token, and one that ends before it was under way
given-few : (p : Part) (b : ℕ) → length (given p b) ≤ under_way p
unfolding given under_way
given-few between b = omega arith
given-few slash b = omega arith
given-few star b = omega arith
given-few lost b = omega arith
given-few remark b = omega arith
given-few aside b = omega arith
given-few (chunk q) b = go (joins q b)
  where
    go : (k : Bool) → length (cond k [] (q ∷ [])) ≤ 1
    go true = omega arith
    go false = omega arith

placed-few : (p : Part) (n : ℕ) (u : List ℕ) → length (placed_from p n u) ≤ under_way p + length u
unfolding placed_from
placed-few p n [] = omega (arith, all-many n (pending p), pending-few p)
placed-few p n (b ∷ u) =
    rw length-append
    (omega (arith, all-many n (given p b), given-few p b, placed-few (feed p b) (suc n) u, one_way (feed p b)))

-- ---- as many sayings as tokens
spoken-few : (l : List (Said Saying)) → length (spoken l) ≤ length l
unfolding spoken
spoken-few [] = omega arith
spoken-few (w ∷ l) = go (is_silent w.what) (spoken-few l)
  where
    go : (b : Bool) → length (spoken l) ≤ length l → length {A = Said Saying} (elim b [ true ↦ spoken l | false ↦ w ∷ spoken l ]) ≤ suc (length l)
    go true h = omega arith
    go false h = omega arith

pub few-said : TextsShort
unfolding placed under_way
few-said u l e =
    let many : length l ≡ length (placed u) = text-each (λ w l. length l ≡ length w) refl (λ x w l a h. ap suc h) u l e in
    omega (arith, spoken-few l, placed-few between 0 u)
