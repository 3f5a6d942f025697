-- The tokens that a text spells are those that the machine over bytes finds.
use Prim.Native.Nat.{ℕ}
use mathlib.Core.Path.{◌≡◌, refl, ap}
use mathlib.Core.Bool.{Bool, true, false, not, ◌&&◌, cond, false≢true}
use mathlib.Core.List.{List, [], ◌∷◌, ◌++◌, append_assoc, append-nil}
use lib.Dec.{eqb}
use borrow.Author.Tests.{not-true}
use Rattle.grammar.specs.Spelling.{Token, is_blank, joins, goes_on, whole, apart, opens, inside, one_line, Spells, done, blank, comment, line, last_line, token, Part, between, slash, star, remark, aside, chunk, begin, feed, given, after, emitted, pending, shut, Lexes}
use Rattle.grammar.proofs.Bools.{both}

pub lexes-step : (p p' : Part) (b : ℕ) (u : List ℕ) (w : List Token) → given p b ≡ [] → feed p b ≡ p' → Lexes p' u w → Lexes p (b ∷ u) w
unfolding Lexes after emitted
lexes-step p p' b u w g f l = rw (g, f) l

begin-blank : (b : ℕ) → is_blank b ≡ true → begin b ≡ between
unfolding begin
begin-blank b e = rw e

-- in a comment, after '*' or not
abbrev pub in_remark : Bool → Part
in_remark k = cond k star remark

given-remark : (k : Bool) (b : ℕ) → given (in_remark k) b ≡ []
unfolding given
given-remark true b = refl
given-remark false b = refl

pub feed-remark : (k : Bool) (b : ℕ) → k && eqb b 47 ≡ false → feed (in_remark k) b ≡ in_remark (eqb b 42)
unfolding feed
feed-remark true b e = rw e
feed-remark false b e = refl

pub lexes-inside : (k : Bool) (c u : List ℕ) (w : List Token) → inside c ≡ true → k && opens 47 c ≡ false → Lexes between u w
    → Lexes (in_remark k) (c ++ (42 ∷ (47 ∷ u))) w
unfolding inside opens feed given
lexes-inside k [] u w e o l =
    lexes-step (in_remark k) star 42 (47 ∷ u) w (given-remark k 42) (feed-remark k 42 o) (lexes-step star between 47 u w refl refl l)
lexes-inside k (b ∷ c) u w e o l =
    let h = both (not (eqb b 42 && opens 47 c)) (inside c) e in
    lexes-step (in_remark k) (in_remark (eqb b 42)) b (c ++ (42 ∷ (47 ∷ u))) w (given-remark k b) (feed-remark k b o)
    (lexes-inside (eqb b 42) c u w (h.1) (not-true _ (h.0)) l)

pub lexes-goes-on : (q r u : List ℕ) (w : List Token) → goes_on q r ≡ true → Lexes (chunk (q ++ r)) u w → Lexes (chunk q) (r ++ u) w
unfolding goes_on given feed
lexes-goes-on q [] u w e l = rw (append-nil q) at l
lexes-goes-on q (b ∷ r) u w e l =
    let h = both (joins q b) (goes_on (q ++ (b ∷ [])) r) e in
    lexes-step (chunk q) (chunk (q ++ (b ∷ []))) b (r ++ u) w (rw (h.0)) (rw (h.0))
    (lexes-goes-on (q ++ (b ∷ [])) r u w (h.1) (rw (append_assoc q (b ∷ []) r) l))

pub lexes-end : (t : Token) (u : List ℕ) (w : List Token) → apart t u ≡ true → Lexes between u w → Lexes (chunk t) u (t ∷ w)
unfolding Lexes after emitted apart given feed shut pending
lexes-end t [] w e l = (refl, ap (λ v. t ∷ v) (l.1))
lexes-end t (b ∷ u) w e l = rw (not-true (joins t b) e) (l.0, ap (λ v. t ∷ v) (l.1))

pub begin-chunk : (b : ℕ) → not (is_blank b) && not (eqb b 47) ≡ true → begin b ≡ chunk (b ∷ [])
unfolding begin
begin-chunk b e = let h = both (not (is_blank b)) (not (eqb b 47)) e in rw (not-true (is_blank b) (h.0), not-true (eqb b 47) (h.1))

lexes-token : (t : Token) (u : List ℕ) (w : List Token) → whole t ≡ true → Lexes (chunk t) u w → Lexes between (t ++ u) w
unfolding whole feed given
lexes-token [] u w e l = absurd (false≢true e)
lexes-token (b ∷ r) u w e l =
    let h = both (not (is_blank b) && not (eqb b 47)) (goes_on (b ∷ []) r) e in
    lexes-step between (chunk (b ∷ [])) b (r ++ u) w refl (begin-chunk b (h.0)) (lexes-goes-on (b ∷ []) r u w (h.1) l)

-- to the end of the line, and to the end of the text
aside-step : (b : ℕ) (u : List ℕ) (w : List Token) → not (eqb b 10) ≡ true → Lexes aside u w → Lexes aside (b ∷ u) w
unfolding feed given
aside-step b u w e l = lexes-step aside aside b u w refl (rw (not-true (eqb b 10) e)) l

lexes-line : (c u : List ℕ) (w : List Token) → one_line c ≡ true → Lexes between u w → Lexes aside (c ++ (10 ∷ u)) w
unfolding one_line feed given
lexes-line [] u w e l = lexes-step aside between 10 u w refl refl l
lexes-line (b ∷ c) u w e l =
    let h = both (not (eqb b 10)) (one_line c) e in
    aside-step b (c ++ (10 ∷ u)) w (h.0) (lexes-line c u w (h.1) l)

lexes-last : (c : List ℕ) → one_line c ≡ true → Lexes aside c []
unfolding one_line Lexes after emitted shut pending
lexes-last [] e = (refl, refl)
lexes-last (b ∷ c) e =
    let h = both (not (eqb b 10)) (one_line c) e in
    aside-step b c [] (h.0) (lexes-last c (h.1))

-- after "/*" and after "//"
lexes-open : (b : ℕ) (p : Part) (u : List ℕ) (w : List Token) → feed slash b ≡ p → Lexes p u w → Lexes between (47 ∷ (b ∷ u)) w
unfolding feed given begin is_blank
lexes-open b p u w e l = lexes-step between slash 47 (b ∷ u) w refl refl (lexes-step slash p b u w refl e l)

-- what is spelled is found
pub lexes : {u : List ℕ} {w : List Token} → Spells u w → Lexes between u w
unfolding Lexes after emitted feed given shut pending begin is_blank
lexes done = (refl, refl)
lexes (blank {b = b} {u = u} {w = w} e l) = lexes-step between between b u w refl (begin-blank b e) (lexes l)
lexes (comment c {u = u} {w = w} e l) =
    lexes-open 42 remark (c ++ (42 ∷ (47 ∷ u))) w refl (lexes-inside false c u w e refl (lexes l))
lexes (line c {u = u} {w = w} e l) = lexes-open 47 aside (c ++ (10 ∷ u)) w refl (lexes-line c u w e (lexes l))
lexes (last_line c e) = lexes-open 47 aside c [] refl (lexes-last c e)
lexes (token t {u = u} {w = w} e a l) = lexes-token t u (t ∷ w) e (lexes-end t u w a (lexes l))
