-- A token's bytes at the beginning of a text: the first token found is that one, and after it the text goes on as from a new beginning.
use Prim.Native.Nat.{ℕ, suc, ◌+◌, ◌-◌}
use native.Mathlib.Omega.{arith}
use lib.ListN.{length}
use lib.Dec.{eqb}
use mathlib.Core.Path.{◌≡◌, refl, ◌∙◌, ap}
use mathlib.Core.Bool.{true, false, not, ◌&&◌, false≢true}
use mathlib.Core.List.{List, [], ◌∷◌, ◌++◌, append-nil, append_assoc}
use borrow.Author.Tests.{not-true}
use Rattle.grammar.specs.Spelling.{Token, is_blank, joins, goes_on, whole, apart, between, chunk, begin, feed, given, after, pending, shut, ends_at, all_end_at, placed_from}
use Rattle.grammar.proofs.Bools.{both}
use Rattle.grammar.proofs.Spelled.{begin-chunk}

-- a byte that belongs to the token under way
pub joined : (q : Token) (b : ℕ) → joins q b ≡ true → feed (chunk q) b ≡ chunk (q ++ (b ∷ []))
unfolding feed
joined q b e = rw e

-- and one that does not
pub parted : (q : Token) (b : ℕ) → joins q b ≡ false → feed (chunk q) b ≡ begin b
unfolding feed
parted q b e = rw e

-- the token is made longer
placed-goes-on : (q r y : List ℕ) (n : ℕ) → goes_on q r ≡ true → placed_from (chunk q) n (r ++ y) ≡ placed_from (chunk (q ++ r)) (n + length r) y
unfolding goes_on placed_from given all_end_at
placed-goes-on q [] y n e = rw (append-nil q) (ap (λ i. placed_from (chunk q) i y) (omega arith))
placed-goes-on q (b ∷ r) y n e =
    let h = both (joins q b) (goes_on (q ++ (b ∷ [])) r) e in
    let z : suc n + length r ≡ n + suc (length r) = omega arith in
    rw (joined q b h.0, h.0)
    (placed-goes-on (q ++ (b ∷ [])) r y (suc n) h.1
    ∙ rw (append_assoc q (b ∷ []) r) (ap (λ i. placed_from (chunk (q ++ (b ∷ r))) i y) z))

after-goes-on : (q r y : List ℕ) → goes_on q r ≡ true → after (chunk q) (r ++ y) ≡ after (chunk (q ++ r)) y
unfolding goes_on after
after-goes-on q [] y e = rw (append-nil q)
after-goes-on q (b ∷ r) y e =
    let h = both (joins q b) (goes_on (q ++ (b ∷ [])) r) e in
    ap (λ p. after p (r ++ y)) (joined q b h.0)
    ∙ after-goes-on (q ++ (b ∷ [])) r y h.1
    ∙ ap (λ x. after (chunk x) y) (append_assoc q (b ∷ []) r)

-- the token ends
placed_end : (t y : List ℕ) (n : ℕ) → apart t y ≡ true → placed_from (chunk t) n y ≡ ends_at n t ∷ placed_from between n y
unfolding apart placed_from pending given all_end_at feed
placed_end t [] n e = refl
placed_end t (b ∷ y) n e = rw (not-true (joins t b) e)

shut-end : (t y : List ℕ) → apart t y ≡ true → shut (after (chunk t) y) ≡ shut (after between y)
unfolding apart after shut feed
shut-end t [] e = refl
shut-end t (b ∷ y) e = rw (not-true (joins t b) e)

-- the token stands first, at place n
pub placed-token : (t y : List ℕ) (n : ℕ) → whole t ≡ true → apart t y ≡ true
    → placed_from between n (t ++ y) ≡ record { bytes = t; place = n } ∷ placed_from between (n + length t) y
unfolding whole placed_from given all_end_at feed ends_at
placed-token [] y n w a = absurd (false≢true w)
placed-token (b ∷ r) y n w a =
    let h = both (not (is_blank b) && not (eqb b 47)) (goes_on (b ∷ []) r) w in
    let t = b ∷ r in
    let z : suc n + length r ≡ n + suc (length r) = omega arith in
    let o : n + suc (length r) - suc (length r) ≡ n = omega arith in
    rw (begin-chunk b h.0)
    (placed-goes-on (b ∷ []) r y (suc n) h.1
    ∙ rw z (placed_end t y (n + suc (length r)) a ∙ ap (λ i. record { bytes = t; place = i } ∷ placed_from between (n + suc (length r)) y) o))

-- the text may end where it may end after the token
pub shut-token : (t y : List ℕ) → whole t ≡ true → apart t y ≡ true → shut (after between (t ++ y)) ≡ shut (after between y)
unfolding whole after feed
shut-token [] y w a = absurd (false≢true w)
shut-token (b ∷ r) y w a =
    let h = both (not (is_blank b) && not (eqb b 47)) (goes_on (b ∷ []) r) w in
    ap (λ p. shut (after p (r ++ y))) (begin-chunk b h.0) ∙ ap shut (after-goes-on (b ∷ []) r y h.1) ∙ shut-end (b ∷ r) y a
