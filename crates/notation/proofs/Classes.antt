-- A token's class tells which rows it begins, wherever the rows begin with what the classes know of.
use Prim.Native.Nat.{ℕ, zero, suc, ◌+◌, ◌≤◌, ◌<◌}
use Prim.Native.String.{String}
use mathlib.Core.Path.{◌≡◌, refl, sym, ap, ◌∙◌}
use mathlib.Core.Bool.{Bool, true, false, not, ◌&&◌, ◌||◌, cond, true≢false, false≢true}
use mathlib.Core.Logic.{◌⊎◌, inl, inr}
use mathlib.Core.List.{List, [], ◌∷◌, ◌++◌}
use mathlib.Core.Option.{none, some}
use native.Mathlib.Omega.{arith}
use lib.ListN.{length}
use lib.Dec.{eqb, leb}
use borrow.Author.Tests.{eqb-true, eq-eqb, ne_eqb, not-true, leb-true, leb-false, le-leb, lt-leb}
use Rattle.plexil.specs.Lists.{Found, at, nowhere}
use Rattle.grammar.specs.Spelling.{Token, is_letter, is_digit, whole}
use Rattle.grammar.specs.Spelling as Spelling
use Rattle.grammar.specs.Leads as Leads
use Rattle.grammar.specs.Leads.{bytes, same, among, is_word, digits, is_number, decimal, is_real, value_from, Lead, the, name, up_to, real, fits, accepts}
use Rattle.grammar.proofs.Bools.{both, both_true}
use Rattle.grammar.proofs.Same.{same-eq, same_self}
use Rattle.grammar.specs.Table.{Item, lit, sort, Row, pick, rows_of, choose_of}
use Rattle.notation.specs.Sayings.{boolean, integer, float, What, status, outcome, failure, Saying}
use Rattle.notation.specs.Rows as Rows
use Rattle.notation.specs.Rows.{reserved, met, once, condition, prioritized, codes, code_words, Sort, Close, semicolon, bracket, rows, notation, plan, nodes, command_name, command_number, called_name, target_name, lookup_used, priority, negated_integer, negated_real, lookup_name, attributes, variables, initial, value, initial_pattern, pattern, operand, operator, after_name, after_path, negative, property, compared, code}
use Rattle.notation.specs.Classes as Classes
use Rattle.notation.specs.Classes.{signs, literals, literal_from, a_name, a_real, another, bounds, number_class, other_class, class_of, bound_from, within_bound, is_literal, accepts_class, pick_class, is_found, known_lead, known_item, known_items, all_known}

-- Tests
-- what would exclude b does not hold where b does
excluded : (a b : Bool) → (a ≡ true → b ≡ false) → b ≡ true → a ≡ false
excluded true b f e = absurd (true≢false (sym e ∙ f refl))
excluded false b f e = refl

and-false : (a : Bool) → a && false ≡ false
and-false true = refl
and-false false = refl

-- What finding a literal says
literal-end : (i : ℕ) (t : Token) → literal_from i [] t ≡ nowhere
unfolding literal_from
literal-end i t = refl

literal-here : (i : ℕ) (w : String) (ws : List String) (t : Token) → same (bytes w) t ≡ true → literal_from i (w ∷ ws) t ≡ at i
unfolding literal_from
literal-here i w ws t e = rw (e, literal_from)

literal-later : (i : ℕ) (w : String) (ws : List String) (t : Token) → same (bytes w) t ≡ false → literal_from i (w ∷ ws) t ≡ literal_from (suc i) ws t
unfolding literal_from
literal-later i w ws t e = rw (e, literal_from)

at-inj : {i j : ℕ} → at i ≡ at j → i ≡ j
at-inj e = cc

no_place : {j : ℕ} → nowhere ≡ at j → ⊥
no_place e = let z : ◌≡◌ {A = ℕ} 0 1 = cc in omega arith

literal-range : (ws : List String) (i j : ℕ) (t : Token) → literal_from i ws t ≡ at j → (i ≤ j) × (j < i + length ws)
literal-range [] i j t e = absurd (no_place (sym (literal-end i t) ∙ e))
literal-range (w ∷ ws) i j t e = go (same (bytes w) t) refl (literal-range ws (suc i) j t)
  where
    go : (k : Bool) → same (bytes w) t ≡ k → (literal_from (suc i) ws t ≡ at j → (suc i ≤ j) × (j < suc i + length ws)) → (i ≤ j) × (j < i + suc (length ws))
    go true s r = let h = at-inj (sym (literal-here i w ws t s) ∙ e) in (omega arith, omega arith)
    go false s r = let h = r (sym (literal-later i w ws t s) ∙ e) in (omega arith, omega arith)

-- two tokens of one number are the same
literal-one : (ws : List String) (i j : ℕ) (s t : Token) → literal_from i ws s ≡ at j → literal_from i ws t ≡ at j → s ≡ t
literal-one [] i j s t e f = absurd (no_place (sym (literal-end i s) ∙ e))
literal-one (w ∷ ws) i j s t e f = go (same (bytes w) s) (same (bytes w) t) refl refl (literal-one ws (suc i) j s t)
  where
    go : (k l : Bool) → same (bytes w) s ≡ k → same (bytes w) t ≡ l → (literal_from (suc i) ws s ≡ at j → literal_from (suc i) ws t ≡ at j → s ≡ t) → s ≡ t
    go true true p q r = sym (same-eq (bytes w) s p) ∙ same-eq (bytes w) t q
    go true false p q r =
        let x = at-inj (sym (literal-here i w ws s p) ∙ e) in
        let y = literal-range ws (suc i) j t (sym (literal-later i w ws t q) ∙ f) in
        absurd (omega arith)
    go false true p q r =
        let x = at-inj (sym (literal-here i w ws t q) ∙ f) in
        let y = literal-range ws (suc i) j s (sym (literal-later i w ws s p) ∙ e) in
        absurd (omega arith)
    go false false p q r = r (sym (literal-later i w ws s p) ∙ e) (sym (literal-later i w ws t q) ∙ f)

-- a literal is found exactly where it is among the words
literal-among : (ws : List String) (i : ℕ) (t : Token) → is_found (literal_from i ws t) ≡ among ws t
unfolding literal_from among is_found
literal-among [] i t = refl
literal-among (w ∷ ws) i t = go (same (bytes w) t) refl (literal-among ws (suc i) t)
  where
    go : (k : Bool) → same (bytes w) t ≡ k → is_found (literal_from (suc i) ws t) ≡ among ws t → is_found (literal_from i (w ∷ ws) t) ≡ among (w ∷ ws) t
    go true s r = rw (literal-here i w ws t s, s)
    go false s r = rw (literal-later i w ws t s, s) r

among-both : (a b : List String) (t : Token) → among (a ++ b) t ≡ among a t || among b t
unfolding among
among-both [] b t = refl
among-both (w ∷ a) b t = go (same (bytes w) t) (among-both a b t)
  where
    go : (k : Bool) → among (a ++ b) t ≡ among a t || among b t → k || among (a ++ b) t ≡ (k || among a t) || among b t
    go true e = refl
    go false e = e

-- a test that fails at each of the words
unfoldable pub fails_at : (Token → Bool) → List String → Bool
fails_at f [] = true
fails_at f (w ∷ ws) = not (f (bytes w)) && fails_at f ws

pub fails-among : (f : Token → Bool) (ws : List String) (t : Token) → fails_at f ws ≡ true → among ws t ≡ true → f t ≡ false
unfolding fails_at among
fails-among f [] t e a = absurd (false≢true a)
fails-among f (w ∷ ws) t e a = go (same (bytes w) t) refl (fails-among f ws t h.1)
  where
    h : (not (f (bytes w)) ≡ true) × (fails_at f ws ≡ true)
    h = both (not (f (bytes w))) (fails_at f ws) e

    go : (k : Bool) → same (bytes w) t ≡ k → (among ws t ≡ true → f t ≡ false) → f t ≡ false
    go true s r = sym (ap f (same-eq (bytes w) t s)) ∙ not-true (f (bytes w)) h.0
    go false s r = r (rw s at a)

sign-no-word : fails_at is_word signs ≡ true
unfolding fails_at Classes.opened Leads.opened Spelling.opened
sign-no-word = refl

literal-no-number : fails_at is_number literals ≡ true
unfolding fails_at Rows.opened Classes.opened Leads.opened Spelling.opened
literal-no-number = refl

literal-no-real : fails_at is_real literals ≡ true
unfolding fails_at Rows.opened Classes.opened Leads.opened Spelling.opened
literal-no-real = refl

-- What kind a token is
letter-no-digit : (c : ℕ) → is_letter c ≡ true → is_digit c ≡ false
unfolding is_digit is_letter
letter-no-digit c e = go (is_digit c) refl
  where
    go : (k : Bool) → is_digit c ≡ k → is_digit c ≡ false
    go false d = d
    go true d =
        let h = both (leb 48 c) (leb c 57) d in
        let l = leb-true c 57 (h.1) in
        absurd (false≢true (sym (rw (lt-leb 65 c (omega arith), lt-leb 97 c (omega arith))) ∙ e))

word-no-number : (t : Token) → is_word t ≡ true → is_number t ≡ false
unfolding is_word is_number
word-no-number [] e = refl
word-no-number (b ∷ t) e = rw (letter-no-digit b (both (is_letter b) _ e).0)

word-no-real : (t : Token) → is_word t ≡ true → is_real t ≡ false
unfolding is_word is_real
word-no-real [] e = refl
word-no-real (b ∷ t) e = rw (letter-no-digit b (both (is_letter b) _ e).0)

digits-no-decimal : (k : ℕ) (t : List ℕ) → digits t ≡ true → decimal k t ≡ false
unfolding digits decimal is_digit
digits-no-decimal k [] e = refl
digits-no-decimal zero (b ∷ t) e = refl
digits-no-decimal (suc k) (b ∷ t) e = rw (ne_eqb b 46 point, digits-no-decimal k t h.1) (and-false (is_digit b))
  where
    h : (is_digit b ≡ true) × (digits t ≡ true)
    h = both (is_digit b) (digits t) e

    point : b ≡ 46 → ⊥
    point p = let l = leb-true 48 b (both (leb 48 b) (leb b 57) h.0).0 in omega arith

number-no-real : (t : Token) → is_number t ≡ true → is_real t ≡ false
unfolding is_number is_real
number-no-real [] e = refl
number-no-real (b ∷ t) e = rw (digits-no-decimal 14 t (both (is_digit b) (digits t) e).1) (and-false (is_digit b))

-- Classes of numbers
pub number-here : (i b : ℕ) (bs : List ℕ) (n : ℕ) → leb n b ≡ true → number_class i (b ∷ bs) n ≡ i
unfolding number_class
number-here i b bs n e = rw (e, number_class)

pub number-later : (i b : ℕ) (bs : List ℕ) (n : ℕ) → leb n b ≡ false → number_class i (b ∷ bs) n ≡ number_class (suc i) bs n
unfolding number_class
number-later i b bs n e = rw (e, number_class)

number-range : (bs : List ℕ) (i n : ℕ) → (number_class i bs n ≡ another) ⊎ ((i ≤ number_class i bs n) × (number_class i bs n < i + length bs))
number-range [] i n = inl (unfold number_class in refl)
number-range (b ∷ bs) i n = go (leb n b) refl (number-range bs (suc i) n)
  where
    go : (k : Bool) → leb n b ≡ k → (number_class (suc i) bs n ≡ another) ⊎ ((suc i ≤ number_class (suc i) bs n) × (number_class (suc i) bs n < suc i + length bs))
        → (number_class i (b ∷ bs) n ≡ another) ⊎ ((i ≤ number_class i (b ∷ bs) n) × (number_class i (b ∷ bs) n < i + suc (length bs)))
    go true e r = let h = number-here i b bs n e in inr (omega arith, omega arith)
    go false e (inl r) = inl (number-later i b bs n e ∙ r)
    go false e (inr r) = let h = number-later i b bs n e in inr (omega arith, omega arith)

pub bound-here : (i b : ℕ) (bs : List ℕ) → bound_from i (b ∷ bs) i ≡ some b
unfolding bound_from
bound-here i b bs = rw (eq-eqb i i refl, bound_from)

bound-later : (i b : ℕ) (bs : List ℕ) (c : ℕ) → (i ≡ c → ⊥) → bound_from i (b ∷ bs) c ≡ bound_from (suc i) bs c
unfolding bound_from
bound-later i b bs c e = rw (ne_eqb i c e, bound_from)

pub bound-outside : (bs : List ℕ) (i c : ℕ) → (c < i) ⊎ (i + length bs ≤ c) → bound_from i bs c ≡ none
bound-outside [] i c h = unfold bound_from in refl
bound-outside (b ∷ bs) i c (inl h) = bound-later i b bs c (λ e. omega arith) ∙ bound-outside bs (suc i) c (inl (omega arith))
bound-outside (b ∷ bs) i c (inr h) = bound-later i b bs c (λ e. omega arith) ∙ bound-outside bs (suc i) c (inr (omega arith))

-- each of the bounds is above n, and they rise
above : ℕ → List ℕ → Bool
above n [] = true
above n (b ∷ bs) = not (leb b n) && above n bs

rising : List ℕ → Bool
rising [] = true
rising (b ∷ bs) = above b bs && rising bs

bounds-rise : rising bounds ≡ true
unfolding rising above Classes.opened
bounds-rise = refl

above-met : (n m : ℕ) (bs : List ℕ) → above n bs ≡ true → met m bs ≡ true → n < m
unfolding above met
above-met n m [] e h = absurd (false≢true h)
above-met n m (b ∷ bs) e h = go (eqb m b) refl (above-met n m bs (both (not (leb b n)) (above n bs) e).1)
  where
    go : (k : Bool) → eqb m b ≡ k → (met m bs ≡ true → n < m) → n < m
    go true s r = let x = eqb-true m b s in let y = leb-false b n (not-true (leb b n) (both (not (leb b n)) (above n bs) e).0) in omega arith
    go false s r = r (rw s at h)

above-none : (n i c : ℕ) (bs : List ℕ) → above n bs ≡ true → within_bound (bound_from i bs c) n ≡ false
unfolding above within_bound bound_from
above-none n i c [] e = refl
above-none n i c (b ∷ bs) e = go (eqb i c) refl (above-none n (suc i) c bs (both (not (leb b n)) (above n bs) e).1)
  where
    go : (k : Bool) → eqb i c ≡ k → within_bound (bound_from (suc i) bs c) n ≡ false → within_bound (bound_from i (b ∷ bs) c) n ≡ false
    go true s r = rw (s, bound_from) (not-true (leb b n) (both (not (leb b n)) (above n bs) e).0)
    go false s r = rw (s, bound_from) r

-- a number is within one of the bounds exactly when the bound of its class is
number-within : (bs : List ℕ) (i v n : ℕ) → i + length bs ≤ 75 → rising bs ≡ true → met n bs ≡ true → within_bound (bound_from i bs (number_class i bs v)) n ≡ leb v n
unfolding met rising within_bound
number-within [] i v n w e h = absurd (false≢true h)
number-within (b ∷ bs) i v n w e h = go (leb v b) (eqb n b) refl refl (number-within bs (suc i) v n (omega arith) rise.1)
  where
    rise : (above b bs ≡ true) × (rising bs ≡ true)
    rise = both (above b bs) (rising bs) e

    later : leb v b ≡ false → bound_from i (b ∷ bs) (number_class i (b ∷ bs) v) ≡ bound_from (suc i) bs (number_class (suc i) bs v)
    later s = rw (number-later i b bs v s) (bound-later i b bs (number_class (suc i) bs v) (apart (number-range bs (suc i) v)))
      where
        apart : (number_class (suc i) bs v ≡ another) ⊎ ((suc i ≤ number_class (suc i) bs v) × (number_class (suc i) bs v < suc i + length bs)) → i ≡ number_class (suc i) bs v → ⊥
        apart (inl r) p = omega arith
        apart (inr r) p = omega arith

    go : (k l : Bool) → leb v b ≡ k → eqb n b ≡ l → (met n bs ≡ true → within_bound (bound_from (suc i) bs (number_class (suc i) bs v)) n ≡ leb v n)
        → within_bound (bound_from i (b ∷ bs) (number_class i (b ∷ bs) v)) n ≡ leb v n
    go true true s p r =
        let x = eqb-true n b p in
        let y = leb-true v b s in
        rw (number-here i b bs v s, bound-here i b bs, le-leb b n (omega arith), le-leb v n (omega arith))
    go true false s p r =
        let x = above-met b n bs rise.0 (rw p at h) in
        let y = leb-true v b s in
        rw (number-here i b bs v s, bound-here i b bs, le-leb b n (omega arith), le-leb v n (omega arith))
    go false true s p r =
        let x = eqb-true n b p in
        let y = leb-false v b s in
        rw (later s, lt-leb v n (omega arith)) (rw x (above-none b (suc i) (number_class (suc i) bs v) bs rise.0))
    go false false s p r = rw (later s) (r (rw p at h))

-- What a token is, with its class
data Told (t : Token) : Type 0 where
  literal : (j : ℕ) → literal_from 0 literals t ≡ at j → class_of t ≡ j → Told t
  word : literal_from 0 literals t ≡ nowhere → is_word t ≡ true → class_of t ≡ a_name → Told t
  number : literal_from 0 literals t ≡ nowhere → is_number t ≡ true → class_of t ≡ number_class 68 bounds (value_from 0 t) → Told t
  fractional : literal_from 0 literals t ≡ nowhere → is_real t ≡ true → class_of t ≡ a_real → Told t
  other : literal_from 0 literals t ≡ nowhere → is_word t ≡ false → is_number t ≡ false → is_real t ≡ false → class_of t ≡ another → Told t

told : (t : Token) → Told t
unfolding class_of other_class
told t = go (literal_from 0 literals t) refl
  where
    rest : literal_from 0 literals t ≡ nowhere → class_of t ≡ other_class t
    rest e = rw (e, class_of)

    kind : (w n r : Bool) → is_word t ≡ w → is_number t ≡ n → is_real t ≡ r → literal_from 0 literals t ≡ nowhere → Told t
    kind true n r p q s e = word e p (rest e ∙ rw (p))
    kind false true r p q s e = number e q (rest e ∙ rw (p, q))
    kind false false true p q s e = fractional e s (rest e ∙ rw (p, q, s))
    kind false false false p q s e = other e p q s (rest e ∙ rw (p, q, s))

    go : (f : Found) → literal_from 0 literals t ≡ f → Told t
    go (at j) e = literal j e (rw (e, class_of))
    go nowhere e = kind (is_word t) (is_number t) (is_real t) refl refl refl e

pub literals-number : (j : ℕ) (t : Token) → literal_from 0 literals t ≡ at j → j < a_name
unfolding Rows.opened Classes.opened
literals-number j t e = (literal-range literals 0 j t e).1

pub found_among : (j : ℕ) (t : Token) → literal_from 0 literals t ≡ at j → among literals t ≡ true
found_among j t e = sym (literal-among literals 0 t) ∙ found
  where
    found : is_found (literal_from 0 literals t) ≡ true
    found = rw e (unfold is_found in refl)

pub not-among : (t : Token) → literal_from 0 literals t ≡ nowhere → among literals t ≡ false
not-among t e = sym (literal-among literals 0 t) ∙ rw e (unfold is_found in refl)

pub no_bound : (c n : ℕ) → (c < 68) ⊎ (74 ≤ c) → within_bound (bound_from 68 bounds c) n ≡ false
no_bound c n h = rw (bound-outside bounds 68 c (outside h)) (unfold within_bound in refl)
  where
    outside : (c < 68) ⊎ (74 ≤ c) → (c < 68) ⊎ (68 + length bounds ≤ c)
    outside (inl l) = inl l
    outside (inr l) = inr (unfold bounds in l)

number-class : (n : ℕ) → (number_class 68 bounds n ≡ another) ⊎ ((68 ≤ number_class 68 bounds n) × (number_class 68 bounds n < a_real))
number-class n = go (number-range bounds 68 n)
  where
    go : (number_class 68 bounds n ≡ another) ⊎ ((68 ≤ number_class 68 bounds n) × (number_class 68 bounds n < 68 + length bounds))
        → (number_class 68 bounds n ≡ another) ⊎ ((68 ≤ number_class 68 bounds n) × (number_class 68 bounds n < a_real))
    go (inl r) = inl r
    go (inr r) = inr (r.0, unfold bounds in r.1)

-- no number is of a class below 68 or of 74
number-no-class : (n c : ℕ) → (c < 68) ⊎ (c ≡ a_real) → c ≡ number_class 68 bounds n → ⊥
number-no-class n c h e = go h (number-class n)
  where
    go : (c < 68) ⊎ (c ≡ a_real) → (number_class 68 bounds n ≡ another) ⊎ ((68 ≤ number_class 68 bounds n) × (number_class 68 bounds n < a_real)) → ⊥
    go (inl l) (inl r) = omega arith
    go (inl l) (inr r) = omega arith
    go (inr l) (inl r) = omega arith
    go (inr l) (inr r) = omega arith

-- A lead by itself: the token fits exactly when its class does
fits-the : (w : String) (t : Token) → is_found (literal_from 0 literals (bytes w)) ≡ true → same (bytes w) t ≡ is_literal (literal_from 0 literals (bytes w)) (class_of t)
unfolding is_found is_literal
fits-the w t h = go (literal_from 0 literals (bytes w)) refl (same (bytes w) t) refl (told t)
  where
    unlike : (j : ℕ) → literal_from 0 literals (bytes w) ≡ at j → same (bytes w) t ≡ false → Told t → j ≡ class_of t → ⊥
    unlike j e s (literal k f c) p =
        true≢false (sym (same_self t) ∙ ap (λ x. same x t) (literal-one literals 0 j t (bytes w) (f ∙ ap at (sym (p ∙ c))) e) ∙ s)
    unlike j e s (word f i c) p = let l = literals-number j (bytes w) e in omega arith
    unlike j e s (number f i c) p = let l = literals-number j (bytes w) e in number-no-class (value_from 0 t) j (inl (omega arith)) (p ∙ c)
    unlike j e s (fractional f i c) p = let l = literals-number j (bytes w) e in omega arith
    unlike j e s (other f i n r c) p = let l = literals-number j (bytes w) e in omega arith

    alike : (j : ℕ) → literal_from 0 literals (bytes w) ≡ at j → same (bytes w) t ≡ true → Told t → j ≡ class_of t
    alike j e s (literal k f c) = at-inj (sym e ∙ ap (literal_from 0 literals) (same-eq (bytes w) t s) ∙ f) ∙ sym c
    alike j e s (word f i c) = absurd (no_place (sym f ∙ ap (literal_from 0 literals) (sym (same-eq (bytes w) t s)) ∙ e))
    alike j e s (number f i c) = absurd (no_place (sym f ∙ ap (literal_from 0 literals) (sym (same-eq (bytes w) t s)) ∙ e))
    alike j e s (fractional f i c) = absurd (no_place (sym f ∙ ap (literal_from 0 literals) (sym (same-eq (bytes w) t s)) ∙ e))
    alike j e s (other f i n r c) = absurd (no_place (sym f ∙ ap (literal_from 0 literals) (sym (same-eq (bytes w) t s)) ∙ e))

    go : (o : Found) → literal_from 0 literals (bytes w) ≡ o → (k : Bool) → same (bytes w) t ≡ k → Told t → same (bytes w) t ≡ is_literal (literal_from 0 literals (bytes w)) (class_of t)
    go nowhere e k s x = absurd (false≢true (sym (ap is_found e) ∙ h))
    go (at j) e true s x = rw (s, e) (sym (eq-eqb j (class_of t) (alike j e s x)))
    go (at j) e false s x = rw (s, e) (sym (ne_eqb j (class_of t) (unlike j e s x)))

fits-name : (t : Token) → is_word t && not (among reserved t) ≡ eqb (class_of t) a_name
fits-name t = go (told t)
  where
    literal-unnamed : (j : ℕ) → literal_from 0 literals t ≡ at j → is_word t && not (among reserved t) ≡ false
    literal-unnamed j e = by (among reserved t) refl
      where
        by : (k : Bool) → among reserved t ≡ k → is_word t && not (among reserved t) ≡ false
        by true a = rw a (and-false (is_word t))
        by false a = rw (fails-among is_word signs t sign-no-word (sym (rw a at (among-both reserved signs t)) ∙ found))
          where
            found : among (reserved ++ signs) t ≡ true
            found = unfold literals in (found_among j t e)

    no_word : literal_from 0 literals t ≡ nowhere → among reserved t ≡ false
    no_word e = by (among reserved t) refl
      where
        by : (k : Bool) → among reserved t ≡ k → among reserved t ≡ false
        by true a = absurd (true≢false (sym (rw a at (among-both reserved signs t)) ∙ (unfold literals in (not-among t e))))
        by false a = a

    go : Told t → is_word t && not (among reserved t) ≡ eqb (class_of t) a_name
    go (literal j e c) = let l = literals-number j t e in literal-unnamed j e ∙ sym (ne_eqb (class_of t) a_name (λ p. omega arith))
    go (word e i c) = rw (i, no_word e, c)
    go (number e i c) = rw (excluded (is_word t) (is_number t) (word-no-number t) i) (sym (ne_eqb (class_of t) a_name (λ p. number-no-class (value_from 0 t) a_name (inl (omega arith)) (sym p ∙ c))))
    go (fractional e i c) = rw (excluded (is_word t) (is_real t) (word-no-real t) i, c)
    go (other e i n r c) = rw (i, c)

fits-number : (n : ℕ) (t : Token) → met n bounds ≡ true → is_number t && leb (value_from 0 t) n ≡ within_bound (bound_from 68 bounds (class_of t)) n
fits-number n t h = go (told t)
  where
    go : Told t → is_number t && leb (value_from 0 t) n ≡ within_bound (bound_from 68 bounds (class_of t)) n
    go (literal j e c) =
        let l = literals-number j t e in
        rw (fails-among is_number literals t literal-no-number (found_among j t e)) (sym (no_bound (class_of t) n (inl (omega arith))))
    go (word e i c) = rw (word-no-number t i) (sym (no_bound (class_of t) n (inl (omega arith))))
    go (number e i c) = rw (i, c) (sym (number-within bounds 68 (value_from 0 t) n (unfold bounds in (omega arith)) bounds-rise h))
    go (fractional e i c) = rw (excluded (is_number t) (is_real t) (number-no-real t) i) (sym (no_bound (class_of t) n (inr (omega arith))))
    go (other e i m r c) = rw m (sym (no_bound (class_of t) n (inr (omega arith))))

fits-real : (t : Token) → is_real t ≡ eqb (class_of t) a_real
fits-real t = go (told t)
  where
    go : Told t → is_real t ≡ eqb (class_of t) a_real
    go (literal j e c) =
        let l = literals-number j t e in
        rw (fails-among is_real literals t literal-no-real (found_among j t e)) (sym (ne_eqb (class_of t) a_real (λ p. omega arith)))
    go (word e i c) = rw (word-no-real t i, c)
    go (number e i c) = rw (number-no-real t i) (sym (ne_eqb (class_of t) a_real (λ p. number-no-class (value_from 0 t) a_real (inr refl) (sym p ∙ c))))
    go (fractional e i c) = rw (i, c)
    go (other e i n r c) = rw (r, c)

pub class-lead : (l : Lead) (t : Token) → known_lead l ≡ true → whole t ≡ true → accepts reserved l t ≡ accepts_class l (class_of t)
unfolding known_lead accepts fits accepts_class
class-lead (the w) t h e = rw e (fits-the w t (both (is_found (literal_from 0 literals (bytes w))) (whole (bytes w)) h).0)
class-lead name t h e = rw e (fits-name t)
class-lead (up_to n) t h e = rw e (fits-number n t h)
class-lead real t h e = rw e (fits-real t)

pub pick-class : (rs : List (Row Sort Saying)) (t : Token) → all_known rs ≡ true → whole t ≡ true → pick reserved rs t ≡ pick_class rs (class_of t)
unfolding all_known pick pick_class
pick-class [] t h e = refl
pick-class (r ∷ rs) t h e = go (accepts_class r.lead (class_of t)) refl (pick-class rs t known.1 e)
  where
    known : (known_lead r.lead && known_items r.rest ≡ true) × (all_known rs ≡ true)
    known = both (known_lead r.lead && known_items r.rest) (all_known rs) h

    lead : accepts reserved r.lead t ≡ accepts_class r.lead (class_of t)
    lead = class-lead r.lead t (both (known_lead r.lead) (known_items r.rest) known.0).0 e

    go : (k : Bool) → accepts_class r.lead (class_of t) ≡ k → pick reserved rs t ≡ pick_class rs (class_of t)
        → cond (accepts reserved r.lead t) (some r) (pick reserved rs t) ≡ pick_class (r ∷ rs) (class_of t)
    go true k q = rw (lead, k, pick_class)
    go false k q = rw (lead, k, pick_class) q

-- what follows in a row that a class picks is known
pub rest-known : (rs : List (Row Sort Saying)) (c : ℕ) (r : Row Sort Saying) → all_known rs ≡ true → pick_class rs c ≡ some r → known_items r.rest ≡ true
unfolding all_known pick_class
rest-known [] c r h e = let z : ◌≡◌ {A = Bool} true false = cc in absurd (true≢false z)
rest-known (x ∷ rs) c r h e = go (accepts_class x.lead c) refl (rest-known rs c r known.1)
  where
    known : (known_lead x.lead && known_items x.rest ≡ true) × (all_known rs ≡ true)
    known = both (known_lead x.lead && known_items x.rest) (all_known rs) h

    taken : accepts_class x.lead c ≡ true → x ≡ r
    taken k = let p : pick_class (x ∷ rs) c ≡ some x = rw (k, pick_class) in cc

    go : (k : Bool) → accepts_class x.lead c ≡ k → (pick_class rs c ≡ some r → known_items r.rest ≡ true) → known_items r.rest ≡ true
    go true k q = rw (← taken k) (both (known_lead x.lead) (known_items x.rest) known.0).1
    go false k q = q (sym (rw (k, pick_class)) ∙ e)

-- every sort of the notation
known_both : (a b : List (Row Sort Saying)) → all_known a ≡ true → all_known b ≡ true → all_known (a ++ b) ≡ true
unfolding all_known
known_both [] b h k = k
known_both (r ∷ a) b h k =
    let x = both (known_lead r.lead && known_items r.rest) (all_known a) h in
    both_true (known_lead r.lead && known_items r.rest) (all_known (a ++ b)) (x.0) (known_both a b (x.1) k)

once-known : (m : List ℕ) (n : ℕ) (r : Row Sort Saying) → all_known (r ∷ []) ≡ true → all_known (once m n r) ≡ true
unfolding once
once-known m n r h = go (met n m)
  where
    go : (k : Bool) → all_known (cond k [] (r ∷ [])) ≡ true
    go true = unfold all_known in refl
    go false = h

onces-known : (m : List ℕ) → all_known (Rows.onces m) ≡ true
unfolding Rows.opened Classes.opened Leads.opened Spelling.opened
onces-known m =
    known_both (once m 0 (condition m 0 "SkipCondition")) _ (once-known m 0 _ refl)
    (known_both (once m 1 (condition m 1 "StartCondition")) _ (once-known m 1 _ refl)
    (known_both (once m 2 (condition m 2 "PreCondition")) _ (once-known m 2 _ refl)
    (known_both (once m 3 (condition m 3 "InvariantCondition")) _ (once-known m 3 _ refl)
    (known_both (once m 4 (condition m 4 "EndCondition")) _ (once-known m 4 _ refl)
    (known_both (once m 5 (condition m 5 "PostCondition")) _ (once-known m 5 _ refl)
    (known_both (once m 6 (condition m 6 "RepeatCondition")) _ (once-known m 6 _ refl)
    (known_both (once m 6 (condition m 6 "RepeatUntilCondition")) _ (once-known m 6 _ refl)
    (once-known m 7 (prioritized m) refl))))))))

codes-known : (w : What) (n : Bool) (c : Close) → all_known (codes w n c 0 (code_words w)) ≡ true
unfolding Rows.opened Classes.opened Leads.opened Spelling.opened
codes-known status n c = refl
codes-known outcome n c = refl
codes-known failure n c = refl

pub rows-known : (x : Sort) → all_known (rows x) ≡ true
unfolding Rows.opened Classes.opened Leads.opened Spelling.opened
rows-known plan = refl
rows-known nodes = refl
rows-known command_name = refl
rows-known command_number = refl
rows-known called_name = refl
rows-known target_name = refl
rows-known lookup_used = refl
rows-known priority = refl
rows-known negated_integer = refl
rows-known negated_real = refl
rows-known (lookup_name k) = refl
rows-known (attributes m) = onces-known m
rows-known (variables k) = refl
rows-known (initial k) = refl
rows-known (value boolean) = refl
rows-known (value integer) = refl
rows-known (value float) = refl
rows-known (initial_pattern s) = refl
rows-known (pattern s) = refl
rows-known (operand c) = refl
rows-known (operator semicolon) = refl
rows-known (operator bracket) = refl
rows-known (after_name semicolon) = refl
rows-known (after_name bracket) = refl
rows-known (after_path c) = refl
rows-known (negative c) = refl
rows-known (property c) = refl
rows-known (compared w c) = refl
rows-known (code w n c) = codes-known w n c

pub item-known : (i : Item Sort) → known_item i ≡ true → all_known (rows_of notation i) ≡ true
unfolding known_item known_items all_known
item-known (lit w) h = rw h
item-known (sort x) h = rows-known x

-- the row of the notation that a token begins is the one that its class begins
pub choose-class : (i : Item Sort) (t : Token) → known_item i ≡ true → whole t ≡ true → choose_of notation i t ≡ pick_class (rows_of notation i) (class_of t)
choose-class i t h e = pick-class (rows_of notation i) t (item-known i h) e
