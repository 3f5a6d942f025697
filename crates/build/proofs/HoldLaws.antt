-- Bytes that stand in an image: what is put there stands there, and what stands elsewhere stays.
use Prim.Native.Nat.{ℕ, ◌+◌, ◌-◌, ◌≤◌, ◌<◌}
use mathlib.Core.Path.{◌≡◌, refl, sym, ◌∙◌, ap}
use mathlib.Core.List.{List, [], ◌++◌}
use mathlib.Core.Logic.{◌⊎◌, inl, inr}
use native.Mathlib.Omega.{arith}
use lib.ListN.{length, get_or, take, drop, length-append, get_or-append}
use lib.Seq.{ext_get_or, get_or-append-add, get_or-take, length-take-le}
use lib.Dec.{ltb}
use borrow.Author.Tests.{ltb-true, ltb-false}
use Rattle.plexil.specs.Lists.{put}
use mathlib.Core.Bool.{Bool, true, false}
use Rattle.plexil.proofs.PutLaws.{length-put, put-before, put-beyond}
use Rattle.build.specs.Laying.{Holds}

-- a place is before another, or not
lt-or-le : (i n : ℕ) → (i < n) ⊎ (n ≤ i)
lt-or-le i n = by (ltb i n) refl
  where
    by : (b : Bool) → ltb i n ≡ b → (i < n) ⊎ (n ≤ i)
    by true e = inl (ltb-true i n e)
    by false e = inr (ltb-false i n e)

put-within : (l : List ℕ) (k : ℕ) (x : List ℕ) (i : ℕ) → k ≤ length l → i < length x → get_or (put l k x) (k + i) 0 ≡ get_or x i 0
unfolding put
put-within l k x i h m =
    let e : length (take k l) ≡ k = length-take-le k l h in
    ap (λ j. get_or (take k l ++ (x ++ drop (k + length x) l)) (j + i) 0) (sym e)
    ∙ get_or-append-add (take k l) (x ++ drop (k + length x) l) i 0 ∙ get_or-append x (drop (k + length x) l) 0 i m

-- bytes r put at place k: they stand there, and what stands before and beyond them stays
module _ (image after : List ℕ) (k : ℕ) (r : List ℕ) (q : after ≡ put image k r) (h : k ≤ length image) where
  pub stands : Holds after k r
  stands i m = ap (λ y. get_or y (k + i) 0) q ∙ put-within image k r i h m

  pub stays-before : (n : ℕ) (x : List ℕ) → n + length x ≤ k → Holds image n x → Holds after n x
  stays-before n x b o i m = ap (λ y. get_or y (n + i) 0) q ∙ put-before image k r (n + i) 0 h (omega arith) ∙ o i m

  pub stays-beyond : (n : ℕ) (x : List ℕ) → k + length r ≤ n → Holds image n x → Holds after n x
  stays-beyond n x b o i m = ap (λ y. get_or y (n + i) 0) q ∙ put-beyond image k r (n + i) 0 h (omega arith) ∙ o i m

pub holds-none : (image : List ℕ) (n : ℕ) → Holds image n []
holds-none image n i h = absurd (omega arith)

pub holds_more : (image : List ℕ) (n : ℕ) (x y : List ℕ) → Holds image n x → Holds image (n + length x) y → Holds image n (x ++ y)
holds_more image n x y a b i h = by (lt-or-le i (length x))
  where
    by : (i < length x) ⊎ (length x ≤ i) → get_or image (n + i) 0 ≡ get_or (x ++ y) i 0
    by (inl m) = a i m ∙ sym (get_or-append x y 0 i m)
    by (inr m) =
        let e : i ≡ length x + (i - length x) = omega arith in
        let f : n + i ≡ n + length x + (i - length x) = omega arith in
        ap (λ j. get_or image j 0) f ∙ b (i - length x) (omega (arith, length-append x y)) ∙ sym (get_or-append-add x y (i - length x) 0) ∙ ap (λ j. get_or (x ++ y) j 0) (sym e)

pub holds-first : (image : List ℕ) (n : ℕ) (x y : List ℕ) → Holds image n (x ++ y) → Holds image n x
holds-first image n x y o i h = o i (omega (arith, length-append x y)) ∙ get_or-append x y 0 i h

pub holds-second : (image : List ℕ) (n : ℕ) (x y : List ℕ) → Holds image n (x ++ y) → Holds image (n + length x) y
holds-second image n x y o i h =
    let f : n + length x + i ≡ n + (length x + i) = omega arith in
    ap (λ j. get_or image j 0) f ∙ o (length x + i) (omega (arith, length-append x y)) ∙ get_or-append-add x y i 0

-- what stands there already
pub holds_same : (image : List ℕ) (n : ℕ) (x : List ℕ) → n + length x ≤ length image → Holds image n x → image ≡ put image n x
holds_same image n x h o = ext_get_or 0 image (put image n x) (sym (length-put image n x h)) each
  where
    each : (i : ℕ) → i < length image → get_or image i 0 ≡ get_or (put image n x) i 0
    each i m = by (lt-or-le i n)
      where
        inside : (i < n + length x) ⊎ (n + length x ≤ i) → n ≤ i → get_or image i 0 ≡ get_or (put image n x) i 0
        inside (inl k) r =
            let e : i ≡ n + (i - n) = omega arith in
            ap (λ j. get_or image j 0) e ∙ o (i - n) (omega arith) ∙ sym (put-within image n x (i - n) (omega arith) (omega arith)) ∙ ap (λ j. get_or (put image n x) j 0) (sym e)
        inside (inr k) r = sym (put-beyond image n x i 0 (omega arith) k)

        by : (i < n) ⊎ (n ≤ i) → get_or image i 0 ≡ get_or (put image n x) i 0
        by (inl k) = sym (put-before image n x i 0 (omega arith) k)
        by (inr k) = inside (lt-or-le i (n + length x)) k

-- what stands from the beginning on is what the image begins with
pub holds-all : (image x : List ℕ) → length x ≤ length image → Holds image 0 x → take (length x) image ≡ x
holds-all image x h o = ext_get_or 0 (take (length x) image) x (length-take-le (length x) image h) each
  where
    each : (i : ℕ) → i < length (take (length x) image) → get_or (take (length x) image) i 0 ≡ get_or x i 0
    each i m =
        let k : i < length x = omega (arith, length-take-le (length x) image h) in
        let e : i ≡ 0 + i = omega arith in
        get_or-take (length x) image i 0 k ∙ ap (λ j. get_or image j 0) e ∙ o i k
