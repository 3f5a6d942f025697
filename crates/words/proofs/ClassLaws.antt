-- The class of a token from what it is.
use Rattle.std.proofs.Common.{◌≡◌, ℕ, zero, suc, ◌+◌, length, get_or, ◌<◌, ◌≤◌, Bool, true, false, ◌&&◌, leb, List, [], ◌∷◌, sym, refl, ap, ◌∙◌, arith, le-leb, leb-false, leb-true}
use borrow.Author.Tests.{lt-leb}
use Rattle.plexil.specs.Lists.{Found, at, nowhere}
use Rattle.grammar.specs.Spelling.{Token}
use Rattle.grammar.specs.Leads.{is_word, is_number, is_real, value_from}
use Rattle.grammar.proofs.Bools.{both}
use Rattle.notation.specs.Numbers.{all_digits}
use Rattle.notation.specs.Classes.{a_name, a_real, another, bounds, number_class, literals, literal_from, other_class, class_of}
use Rattle.notation.proofs.Classes.{number-here, number-later, literals-number}
use Rattle.words.specs.Groups.{number_or, literal_class}
use Rattle.words.specs.Capped.{capped}
use Rattle.words.proofs.CappedLaws.{capped_is, capped-past, number-value}

pub past : (i b : ℕ) (bs : List ℕ) (n : ℕ) {r : ℕ} → b < n → r ≡ number_class (suc i) bs n → r ≡ number_class i (b ∷ bs) n
past i b bs n h e = e ∙ sym (number-later i b bs n (lt-leb n b h))

pub upto : (i b : ℕ) (bs : List ℕ) (n : ℕ) → n ≤ b → i ≡ number_class i (b ∷ bs) n
upto i b bs n h = sym (number-here i b bs n (le-leb n b h))

pub all_past : (i n : ℕ) → another ≡ number_class i [] n
unfolding number_class
all_past i n = refl

-- the first bound that n does not pass
pub class-first : (bs : List ℕ) (k i n : ℕ) → i < length bs → n ≤ get_or bs i 0 → ((j : ℕ) → j < i → get_or bs j 0 < n) → k + i ≡ number_class k bs n
class-first [] k i n h e p = absurd (omega arith)
class-first (b ∷ bs) k zero n h e p = omega (arith, upto k b bs n e)
class-first (b ∷ bs) k (suc i) n h e p = past k b bs n (p 0 (omega arith)) (let z = class-first bs (suc k) i n (omega arith) e (λ j l. p (suc j) (omega arith)) in omega (arith, z))

pub class-none : (bs : List ℕ) (k n : ℕ) → ((j : ℕ) → j < length bs → get_or bs j 0 < n) → another ≡ number_class k bs n
class-none [] k n p = all_past k n
class-none (b ∷ bs) k n p = past k b bs n (p 0 (omega arith)) (class-none bs (suc k) n (λ j l. p (suc j) (omega arith)))

-- no bound is past 2^63, so the classes of numbers past it are one
low_bounds : List ℕ → Bool
low_bounds [] = true
low_bounds (b ∷ bs) = leb b 9223372036854775808 && low_bounds bs

bounds-low : low_bounds bounds ≡ true
unfolding low_bounds bounds
bounds-low = refl

pub capped-leb : (n b : ℕ) → b ≤ 9223372036854775808 → leb (capped n) b ≡ leb n b
capped-leb n b h = go (leb n 9223372036854775808) refl
  where
    go : (k : Bool) → leb n 9223372036854775808 ≡ k → leb (capped n) b ≡ leb n b
    go true e = ap (λ m. leb m b) (sym (capped_is refl (leb-true n 9223372036854775808 e)))
    go false e =
        let l = leb-false n 9223372036854775808 e in
        let p = capped-past l in
        lt-leb (capped n) b (omega arith) ∙ sym (lt-leb n b (omega arith))

capped-class : (i : ℕ) (bs : List ℕ) (n : ℕ) → low_bounds bs ≡ true → number_class i bs (capped n) ≡ number_class i bs n
unfolding low_bounds
capped-class i [] n e = sym (all_past i (capped n)) ∙ all_past i n
capped-class i (b ∷ bs) n e = go (leb n b) refl (capped-class (suc i) bs n h.1)
  where
    h : (leb b 9223372036854775808 ≡ true) × (low_bounds bs ≡ true)
    h = both (leb b 9223372036854775808) (low_bounds bs) e

    alike : leb (capped n) b ≡ leb n b
    alike = capped-leb n b (leb-true b 9223372036854775808 h.0)

    go : (k : Bool) → leb n b ≡ k → number_class (suc i) bs (capped n) ≡ number_class (suc i) bs n → number_class i (b ∷ bs) (capped n) ≡ number_class i (b ∷ bs) n
    go true p r = number-here i b bs (capped n) (alike ∙ p) ∙ sym (number-here i b bs n p)
    go false p r = number-later i b bs (capped n) (alike ∙ p) ∙ r ∙ sym (number-later i b bs n p)

-- What is no word or sign of the notation
pub other_word : (t : Token) {w : Bool} → w ≡ is_word t → w ≡ true → a_name ≡ other_class t
unfolding other_class
other_word t p e = rw (sym p ∙ e) refl

module _ (t : Token) {w n : Bool} (p : w ≡ is_word t) (e : w ≡ false) (q : n ≡ is_number t) where
  pub other-number : {d r : ℕ} → n ≡ true → d ≡ capped (all_digits 0 t) → r ≡ number_class 68 bounds d → r ≡ other_class t
  unfolding other_class
  other-number f x y =
      rw (sym p ∙ e, sym q ∙ f)
      (y ∙ ap (number_class 68 bounds) (x ∙ ap capped (number-value t (sym q ∙ f))) ∙ capped-class 68 bounds (value_from 0 t) bounds-low)

  pub other-real : {d : Bool} → n ≡ false → d ≡ is_real t → d ≡ true → a_real ≡ other_class t
  unfolding other_class
  other-real f x y = rw (sym p ∙ e, sym q ∙ f, sym x ∙ y) refl

  pub other_none : {d : Bool} → n ≡ false → d ≡ is_real t → d ≡ false → another ≡ other_class t
  unfolding other_class
  other_none f x y = rw (sym p ∙ e, sym q ∙ f, sym x ∙ y) refl

-- The class of any token
class-by : (t : Token) (o : Found) → literal_from 0 literals t ≡ o → class_of t ≡ elim o [ at i ↦ i | nowhere ↦ other_class t ]
unfolding class_of
class-by t o e = ap (λ x. elim x [ at i ↦ i | nowhere ↦ other_class t ]) e

pub class-literal : (t : Token) {k : ℕ} → k ≡ literal_class t → k < a_name → k ≡ class_of t
unfolding literal_class number_or
class-literal t {k} p h = go (literal_from 0 literals t) refl
  where
    go : (o : Found) → literal_from 0 literals t ≡ o → k ≡ class_of t
    go (at j) e = p ∙ ap number_or e ∙ sym (class-by t (at j) e)
    go nowhere e = let z = p ∙ ap number_or e in absurd (omega arith)

pub class-other : (t : Token) {k r : ℕ} → k ≡ literal_class t → a_name ≤ k → r ≡ other_class t → r ≡ class_of t
unfolding literal_class number_or
class-other t {k} {r} p h q = go (literal_from 0 literals t) refl
  where
    go : (o : Found) → literal_from 0 literals t ≡ o → r ≡ class_of t
    go (at j) e = let z = p ∙ ap number_or e in let l = literals-number j t e in absurd (omega arith)
    go nowhere e = q ∙ sym (class-by t nowhere e)
