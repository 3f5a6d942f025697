-- The tokens of a text with their places: they are the tokens that are found, and each stands at its place.
use Prim.Native.Nat.{ℕ, suc, ◌-◌}
use native.Mathlib.Omega.{arith}
use lib.ListN.{length, take, drop, length-append}
use lib.Seq.{take-append_seam, drop-append_seam}
use mathlib.Core.Path.{◌≡◌, refl, sym, ◌∙◌, ap}
use mathlib.Core.Bool.{Bool, true, false, cond}
use mathlib.Core.Logic.{◌⊎◌, inl, inr}
use mathlib.Core.List.Memᴰ
use mathlib.Core.List.{List, [], ◌∷◌, ◌++◌, map, map-append, append_assoc, Memᴰ}
use Rattle.grammar.specs.Spelling.{Token, is_blank, joins, Part, between, slash, star, lost, remark, aside, chunk, begin, feed, given, after, emitted, pending, Placed, ends_at, all_end_at, placed_from, placed}
use lib.Dec.{eqb}

all-bytes : (n : ℕ) (w : List Token) → map (λ t. t.bytes) (all_end_at n w) ≡ w
unfolding all_end_at ends_at
all-bytes n [] = refl
all-bytes n (t ∷ w) = ap (λ v. t ∷ v) (all-bytes n w)

pub placed-from-bytes : (p : Part) (n : ℕ) (u : List ℕ) → map (λ t. t.bytes) (placed_from p n u) ≡ emitted p u ++ pending (after p u)
unfolding placed_from emitted after
placed-from-bytes p n [] = all-bytes n (pending p)
placed-from-bytes p n (b ∷ u) =
    map-append (λ t. t.bytes) (all_end_at n (given p b)) (placed_from (feed p b) (suc n) u)
    ∙ rw (all-bytes n (given p b), placed-from-bytes (feed p b) (suc n) u) (sym (append_assoc (given p b) _ _))

-- the tokens are those that are found
pub placed-bytes : (u : List ℕ) → map (λ t. t.bytes) (placed u) ≡ emitted between u ++ pending (after between u)
unfolding placed
placed-bytes u = placed-from-bytes between 0 u

-- the token's bytes are in the text u, at its place
abbrev pub Stands : List ℕ → Placed → Type 0
Stands u t = take (length t.bytes) (drop t.place u) ≡ t.bytes

-- the bytes x are before those of the token under way and those of it
abbrev Ended : Part → List ℕ → Type 0
Ended between x = Unit {0}
Ended slash x = Unit {0}
Ended star x = Unit {0}
Ended lost x = Unit {0}
Ended remark x = Unit {0}
Ended aside x = Unit {0}
Ended (chunk q) x = (y : List ℕ) × (y ++ q ≡ x)

ended-cond : (k : Bool) (p p' : Part) (x : List ℕ) → Ended p x → Ended p' x → Ended (cond k p p') x
ended-cond true p p' x e e' = e
ended-cond false p p' x e e' = e'

ended-begin : (b : ℕ) (x : List ℕ) → Ended (begin b) (x ++ (b ∷ []))
unfolding begin
ended-begin b x =
    ended-cond (is_blank b) between _ _ tt (ended-cond (eqb b 47) slash (chunk (b ∷ [])) _ tt (x, refl))

ended-feed : (p : Part) (b : ℕ) (x : List ℕ) → Ended p x → Ended (feed p b) (x ++ (b ∷ []))
unfolding feed
ended-feed between b x e = ended-begin b x
ended-feed slash b x e = ended-cond (eqb b 42) remark _ _ tt (ended-cond (eqb b 47) aside lost _ tt tt)
ended-feed star b x e = ended-cond (eqb b 47) between _ _ tt (ended-cond (eqb b 42) star remark _ tt tt)
ended-feed lost b x e = tt
ended-feed remark b x e = ended-cond (eqb b 42) star remark _ tt tt
ended-feed aside b x e = ended-cond (eqb b 10) between aside _ tt tt
ended-feed (chunk q) b x e =
    ended-cond (joins q b) (chunk (q ++ (b ∷ []))) (begin b) _
    (e.0, sym (append_assoc e.0 q (b ∷ [])) ∙ ap (λ v. v ++ (b ∷ [])) e.1)
    (ended-begin b x)

-- a token that ends before the bytes u
stands_here : (y q u : List ℕ) (n : ℕ) → length (y ++ q) ≡ n → Stands ((y ++ q) ++ u) (ends_at n q)
unfolding ends_at
stands_here y q u n h =
    let k : (ends_at n q).place ≡ length y = omega (arith, length-append y q) in
    rw (k, append_assoc y q u, drop-append_seam y (q ++ u)) (take-append_seam q u)

module _ (v : List ℕ) where
  abbrev AllStand : List Placed → Type 0
  AllStand w = (t : Placed) → Memᴰ t w → Stands v t

  none-stand : AllStand []
  none-stand t i = absurd (Memᴰ.not-nil i)

  one-stands : (t : Placed) → Stands v t → AllStand (t ∷ [])
  one-stands t h t' i = rw (Memᴰ.eq_of_singleton i) h

  both-stand : (w w' : List Placed) → AllStand w → AllStand w' → AllStand (w ++ w')
  both-stand w w' h h' t i = go (Memᴰ.append_cases w i)
    where
      go : Memᴰ t w ⊎ Memᴰ t w' → Stands v t
      go (inl j) = h t j
      go (inr j) = h' t j

  chunk-stands : (q x u : List ℕ) (n : ℕ) → length x ≡ n → x ++ u ≡ v → Ended (chunk q) x → AllStand (ends_at n q ∷ [])
  chunk-stands q x u n h e i =
      one-stands (ends_at n q) (rw (← e, ← i.1) (stands_here i.0 q u n (ap length i.1 ∙ h)))

  given-stand : (p : Part) (b : ℕ) (x u : List ℕ) (n : ℕ) → length x ≡ n → x ++ u ≡ v → Ended p x → AllStand (all_end_at n (given p b))
  unfolding given all_end_at
  given-stand between b x u n h e i = none-stand
  given-stand slash b x u n h e i = none-stand
  given-stand star b x u n h e i = none-stand
  given-stand lost b x u n h e i = none-stand
  given-stand remark b x u n h e i = none-stand
  given-stand aside b x u n h e i = none-stand
  given-stand (chunk q) b x u n h e i = go (joins q b)
    where
      go : (k : Bool) → AllStand (all_end_at n (cond k [] (q ∷ [])))
      go true = none-stand
      go false = chunk-stands q x u n h e i

  pending-stand : (p : Part) (x u : List ℕ) (n : ℕ) → length x ≡ n → x ++ u ≡ v → Ended p x → AllStand (all_end_at n (pending p))
  unfolding pending all_end_at
  pending-stand between x u n h e i = none-stand
  pending-stand slash x u n h e i = none-stand
  pending-stand star x u n h e i = none-stand
  pending-stand lost x u n h e i = none-stand
  pending-stand remark x u n h e i = none-stand
  pending-stand aside x u n h e i = none-stand
  pending-stand (chunk q) x u n h e i = chunk-stands q x u n h e i

  placed-stand : (p : Part) (x u : List ℕ) (n : ℕ) → length x ≡ n → x ++ u ≡ v → Ended p x → AllStand (placed_from p n u)
  unfolding placed_from
  placed-stand p x [] n h e i = pending-stand p x [] n h e i
  placed-stand p x (b ∷ u) n h e i =
      both-stand (all_end_at n (given p b)) (placed_from (feed p b) (suc n) u) (given-stand p b x (b ∷ u) n h e i)
      (placed-stand (feed p b) (x ++ (b ∷ [])) u (suc n) (omega (arith, length-append x (b ∷ [])))
      (append_assoc x (b ∷ []) u ∙ e) (ended-feed p b x i))

-- each token of a text stands at its place
pub placed-stands : (u : List ℕ) (t : Placed) → Memᴰ t (placed u) → take (length t.bytes) (drop t.place u) ≡ t.bytes
unfolding placed
placed-stands u = placed-stand u between [] u 0 refl refl tt
