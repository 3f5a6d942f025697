-- The tokens that the machine over bytes finds are those that the text spells, so a text spells one list of tokens at most.
use Prim.Native.Nat.{ℕ}
use mathlib.Core.Path.{◌≡◌, refl, sym, ◌∙◌, subst}
use mathlib.Core.Logic.{◌↔◌}
use mathlib.Core.Bool.{Bool, true, false, false≢true}
use mathlib.Core.List.{List, [], ◌∷◌, ◌++◌, append_assoc, append-nil}
use lib.Dec.{eqb}
use Rattle.grammar.specs.Spelling.{Token, is_blank, joins, goes_on, whole, apart, opens, inside, one_line, Spells, done, blank, comment, line, last_line, token, Part, between, slash, star, lost, remark, aside, chunk, begin, feed, given, after, emitted, pending, shut, Lexes}
use Rattle.grammar.proofs.Bools.{both_true, byte-is}
use Rattle.grammar.proofs.Tokens.{whole_append}
use Rattle.grammar.proofs.Spelled.{lexes}

-- a comment's bytes c, after which any d may come that has no "*/"; and those that '*' follows, so that d must not open with '/'
abbrev Free : List ℕ → Type 0
Free c = (d : List ℕ) → inside d ≡ true → inside (c ++ d) ≡ true

abbrev Starred : List ℕ → Type 0
Starred c = (d : List ℕ) → inside d ≡ true → opens 47 d ≡ false → inside (c ++ d) ≡ true

-- a comment's bytes to which any d of one line may be added
abbrev Straight : List ℕ → Type 0
Straight c = (d : List ℕ) → one_line d ≡ true → one_line (c ++ d) ≡ true

-- the bytes x leave the machine at a part
data Held : Part → List ℕ → Type 0 where
  at-between : Held between []
  at-slash : Held slash (47 ∷ [])
  at-remark : (c : List ℕ) → Free c → Held remark (47 ∷ (42 ∷ c))
  at-star : (c : List ℕ) → Starred c → Held star (47 ∷ (42 ∷ (c ++ (42 ∷ []))))
  at-aside : (c : List ℕ) → Straight c → Held aside (47 ∷ (47 ∷ c))
  at-chunk : (q : List ℕ) → whole q ≡ true → Held (chunk q) q

pub never-lost : (u : List ℕ) → shut (after lost u) ≡ true → ⊥
unfolding after feed shut
never-lost [] e = false≢true e
never-lost (b ∷ u) e = never-lost u e

Found : List ℕ → Type 0
Found u = (p : Part) (x : List ℕ) (w : List Token) → Held p x → Lexes p u w → Spells (x ++ u) w

found-begin : (b : ℕ) (u : List ℕ) (w : List Token) → Found u → Lexes (begin b) u w → Spells (b ∷ u) w
unfolding begin Found whole goes_on
found-begin b u w f l = go (is_blank b) refl (eqb b 47) refl
  where
    go : (k : Bool) → is_blank b ≡ k → (j : Bool) → eqb b 47 ≡ j → Spells (b ∷ u) w
    go true e j ej = blank e (f between [] w at-between (rw e at l))
    go false e true ej = rw (byte-is b 47 ej) (f slash (47 ∷ []) w at-slash (rw (e, ej) at l))
    go false e false ej = f (chunk (b ∷ [])) (b ∷ []) w (at-chunk (b ∷ []) (rw (e, ej))) (rw (e, ej) at l)

found-end : (p : Part) (x : List ℕ) (w : List Token) → Held p x → Lexes p [] w → Spells (x ++ []) w
unfolding Lexes after emitted shut pending apart one_line
found-end between x w at-between l = subst (λ v. Spells [] v) (l.1) done
found-end slash x w at-slash l = absurd (false≢true (l.0))
found-end remark x w (at-remark c h) l = absurd (false≢true (l.0))
found-end star x w (at-star c h) l = absurd (false≢true (l.0))
found-end aside x w (at-aside c h) l =
    subst (λ v. Spells ((47 ∷ (47 ∷ c)) ++ []) v) (l.1) (rw (append-nil c) (last_line c (rw (append-nil c) at (h [] refl))))
found-end lost x w h l = elim h [ ]
found-end (chunk q) x w (at-chunk q' h) l = subst (λ v. Spells (x ++ []) v) (l.1) (token x h refl done)

free_more : (c : List ℕ) (b : ℕ) → eqb b 42 ≡ false → Free c → Free (c ++ (b ∷ []))
unfolding inside
free_more c b e h d k = rw (append_assoc c (b ∷ []) d) (h (b ∷ d) (rw e k))

starred-more : (c : List ℕ) → Starred c → Starred (c ++ (42 ∷ []))
unfolding inside opens
starred-more c h d k o = rw (append_assoc c (42 ∷ []) d) (h (42 ∷ d) (rw o k) refl)

starred-free : (c : List ℕ) (b : ℕ) → eqb b 47 ≡ false → eqb b 42 ≡ false → Starred c → Free ((c ++ (42 ∷ [])) ++ (b ∷ []))
unfolding inside opens
starred-free c b e e' h d k = rw (append_assoc (c ++ (42 ∷ [])) (b ∷ []) d, append_assoc c (42 ∷ []) (b ∷ d)) (h (42 ∷ (b ∷ d)) (rw (e, e') k) refl)

snoc : (x u : List ℕ) (b : ℕ) (w : List Token) → Spells ((x ++ (b ∷ [])) ++ u) w → Spells (x ++ (b ∷ u)) w
snoc x u b w l = rw (append_assoc x (b ∷ []) u) at l

found-slash : (b : ℕ) (u : List ℕ) (w : List Token) → Found u → Lexes slash (b ∷ u) w → Spells (47 ∷ (b ∷ u)) w
unfolding Lexes after emitted feed given Found
found-slash b u w f l = go (eqb b 42) refl (eqb b 47) refl
  where
    go : (k : Bool) → eqb b 42 ≡ k → (j : Bool) → eqb b 47 ≡ j → Spells (47 ∷ (b ∷ u)) w
    go true e j ej = rw (byte-is b 42 e) (f remark (47 ∷ (42 ∷ [])) w (at-remark [] (λ d h. h)) (rw e at l))
    go false e true ej = rw (byte-is b 47 ej) (f aside (47 ∷ (47 ∷ [])) w (at-aside [] (λ d h. h)) (rw (e, ej) at l))
    go false e false ej = absurd (never-lost u (rw (e, ej) at (l.0)))

straight-more : (c : List ℕ) (b : ℕ) → eqb b 10 ≡ false → Straight c → Straight (c ++ (b ∷ []))
unfolding one_line
straight-more c b e h d k = rw (append_assoc c (b ∷ []) d) (h (b ∷ d) (rw e k))

found-aside : (c : List ℕ) (b : ℕ) (u : List ℕ) (w : List Token) → Straight c → Found u → Lexes aside (b ∷ u) w
    → Spells ((47 ∷ (47 ∷ c)) ++ (b ∷ u)) w
unfolding Lexes after emitted feed given Found one_line
found-aside c b u w h f l = go (eqb b 10) refl
  where
    straight : one_line c ≡ true
    straight = rw (append-nil c) at (h [] refl)

    go : (k : Bool) → eqb b 10 ≡ k → Spells ((47 ∷ (47 ∷ c)) ++ (b ∷ u)) w
    go true e = rw (byte-is b 10 e) (line c straight (f between [] w at-between (rw e at l)))
    go false e =
        snoc (47 ∷ (47 ∷ c)) u b w
        (f aside (47 ∷ (47 ∷ (c ++ (b ∷ [])))) w (at-aside (c ++ (b ∷ [])) (straight-more c b e h)) (rw e at l))

found-remark : (c : List ℕ) (b : ℕ) (u : List ℕ) (w : List Token) → Free c → Found u → Lexes remark (b ∷ u) w → Spells ((47 ∷ (42 ∷ c)) ++ (b ∷ u)) w
unfolding Lexes after emitted feed given Found
found-remark c b u w h f l = go (eqb b 42) refl
  where
    go : (k : Bool) → eqb b 42 ≡ k → Spells ((47 ∷ (42 ∷ c)) ++ (b ∷ u)) w
    go true e = rw (byte-is b 42 e) (snoc (47 ∷ (42 ∷ c)) u 42 w (f star (47 ∷ (42 ∷ (c ++ (42 ∷ [])))) w (at-star c (λ d k o. h d k)) (rw e at l)))
    go false e = snoc (47 ∷ (42 ∷ c)) u b w (f remark (47 ∷ (42 ∷ (c ++ (b ∷ [])))) w (at-remark (c ++ (b ∷ [])) (free_more c b e h)) (rw e at l))

found-star : (c : List ℕ) (b : ℕ) (u : List ℕ) (w : List Token) → Starred c → Found u → Lexes star (b ∷ u) w
    → Spells ((47 ∷ (42 ∷ (c ++ (42 ∷ [])))) ++ (b ∷ u)) w
unfolding Lexes after emitted feed given Found inside opens
found-star c b u w h f l = go (eqb b 47) refl (eqb b 42) refl
  where
    whole-c : inside c ≡ true
    whole-c = rw (append-nil c) at (h [] refl refl)

    x : List ℕ
    x = 47 ∷ (42 ∷ (c ++ (42 ∷ [])))

    go : (k : Bool) → eqb b 47 ≡ k → (j : Bool) → eqb b 42 ≡ j → Spells (x ++ (b ∷ u)) w
    go true e j ej = rw (byte-is b 47 e, append_assoc c (42 ∷ []) (47 ∷ u)) (comment c whole-c (f between [] w at-between (rw e at l)))
    go false e true ej =
        let c' = c ++ (42 ∷ []) in
        rw (byte-is b 42 ej)
        (snoc x u 42 w (f star (47 ∷ (42 ∷ (c' ++ (42 ∷ [])))) w (at-star c' (starred-more c h)) (rw (e, ej) at l)))
    go false e false ej =
        let c' = (c ++ (42 ∷ [])) ++ (b ∷ []) in
        snoc x u b w (f remark (47 ∷ (42 ∷ c')) w (at-remark c' (starred-free c b e ej h)) (rw (e, ej) at l))

found-chunk : (q : Token) (b : ℕ) (u : List ℕ) (w : List Token) → whole q ≡ true → Found u → Lexes (chunk q) (b ∷ u) w → Spells (q ++ (b ∷ u)) w
unfolding Lexes after emitted feed given Found goes_on apart
found-chunk q b u w h f l = go (joins q b) refl
  where
    go : (k : Bool) → joins q b ≡ k → Spells (q ++ (b ∷ u)) w
    go true e =
        let q' = q ++ (b ∷ []) in
        snoc q u b w (f (chunk q') q' w (at-chunk q' (whole_append q (b ∷ []) h (both_true (joins q b) true e refl))) (rw e at l))
    go false e =
        let m : (shut (after (begin b) u) ≡ true) × (q ∷ (emitted (begin b) u ++ pending (after (begin b) u)) ≡ w) = rw e at l in
        subst (λ v. Spells (q ++ (b ∷ u)) v) (m.1)
        (token q h (rw e) (found-begin b u (emitted (begin b) u ++ pending (after (begin b) u)) f (m.0, refl)))

found-more : (b : ℕ) (u : List ℕ) → Found u → (p : Part) (x : List ℕ) (w : List Token) → Held p x → Lexes p (b ∷ u) w → Spells (x ++ (b ∷ u)) w
unfolding Lexes after emitted given feed
found-more b u f between x w at-between l = found-begin b u w f l
found-more b u f slash x w at-slash l = found-slash b u w f l
found-more b u f remark x w (at-remark c h) l = found-remark c b u w h f l
found-more b u f star x w (at-star c h) l = found-star c b u w h f l
found-more b u f aside x w (at-aside c h) l = found-aside c b u w h f l
found-more b u f lost x w h l = elim h [ ]
found-more b u f (chunk q) x w (at-chunk q' h) l = found-chunk x b u w h f l

found : (u : List ℕ) → Found u
unfolding Found
found [] = found-end
found (b ∷ u) = found-more b u (found u)

-- the machine finds exactly the tokens that the text spells
pub lexes-exactly : (u : List ℕ) (w : List Token) → Spells u w ↔ Lexes between u w
unfolding Found
lexes-exactly u w = (lexes, found u between [] w at-between)

-- a text spells one list of tokens at most
pub spells_one : {u : List ℕ} {w w' : List Token} → Spells u w → Spells u w' → w ≡ w'
unfolding Lexes
spells_one l l' = sym (lexes l).1 ∙ (lexes l').1
