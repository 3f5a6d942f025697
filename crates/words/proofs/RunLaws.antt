-- The runs of bytes that can begin a name or a number.
use Rattle.std.proofs.Common.{◌≡◌, ℕ, suc, ◌+◌, ◌-◌, ◌*◌, ◌<◌, ◌≤◌, Bool, true, false, not, leb, List, [], ◌∷◌, length, get_or, drop, sym, refl, ap, ◌∙◌, arith, drop_of_length-le, le-leb, leb-false, leb-true}
use borrow.Author.Tests.{not-true, not-false, lt-leb}
use Rattle.grammar.specs.Spelling.{is_letter, is_digit}
use Rattle.grammar.specs.Leads.{name}
use Rattle.grammar.specs.Scan.{viable_by, of_letter, digits_up_to}
use Rattle.words.specs.Capped.{capped}
use Rattle.words.proofs.CappedLaws.{capped_is, capped-past}
use Rattle.words.proofs.ClassLaws.{capped-leb}
use Rattle.words.proofs.Rest.{next-byte}

-- Names
pub name-none : (t : List ℕ) → length t ≡ 0 → 0 ≡ viable_by name t
unfolding viable_by of_letter
name-none [] h = refl
name-none (b ∷ t) h = absurd (omega arith)

pub name-all : (t : List ℕ) {l : Bool} → (length t ≡ 0 → ⊥) → l ≡ is_letter (get_or t 0 0) → l ≡ true → length t ≡ viable_by name t
unfolding viable_by of_letter
name-all [] h p e = absurd (h refl)
name-all (b ∷ t) h p e = sym (rw (sym p ∙ e) refl)

pub name-not : (t : List ℕ) {l : Bool} → (length t ≡ 0 → ⊥) → l ≡ is_letter (get_or t 0 0) → l ≡ false → 0 ≡ viable_by name t
unfolding viable_by of_letter
name-not [] h p e = refl
name-not (b ∷ t) h p e = sym (rw (sym p ∙ e) refl)

-- Whole numbers: the first i bytes are digits, and write n
pub record Bounded (t : List ℕ) (bound n i : ℕ) : Type 0 where
  pub rest : digits_up_to bound 0 t ≡ i + digits_up_to bound n (drop i t)

pub bounded-start : (t : List ℕ) (bound : ℕ) → Bounded t bound 0 0
bounded-start t bound = record { rest = omega arith }

capped-low : (n : ℕ) → capped n ≤ 9223372036854775808 → capped n ≡ n
capped-low n h = go (leb n 9223372036854775808) refl
  where
    go : (k : Bool) → leb n 9223372036854775808 ≡ k → capped n ≡ n
    go true e = sym (capped_is refl (leb-true n 9223372036854775808 e))
    go false e = absurd (omega (arith, capped-past (leb-false n 9223372036854775808 e)))

module _ (t : List ℕ) (bound n i : ℕ) (s : Bounded t bound n i) where
  ends : digits_up_to bound n (drop i t) ≡ 0 → i ≡ digits_up_to bound 0 t
  ends e = omega (arith, s.rest)

  pub bounded-all : length t ≤ i → i ≡ digits_up_to bound 0 t
  unfolding digits_up_to
  bounded-all h = ends (ap (digits_up_to bound n) (drop_of_length-le t h))

  pub bounded-stop : {d : Bool} → i < length t → d ≡ is_digit (get_or t i 0) → not d ≡ true → i ≡ digits_up_to bound 0 t
  unfolding digits_up_to
  bounded-stop h p e = ends (ap (digits_up_to bound n) (next-byte t i h) ∙ rw (sym p ∙ not-true _ e) refl)

  module _ {d : Bool} {next : ℕ} (b : bound ≤ 9223372036854775808) (h : i < length t) (p : d ≡ is_digit (get_or t i 0)) (e : not d ≡ false)
      (q : next ≡ capped (n * 10 + (get_or t i 0 - 48))) where
    pub bounded-past : bound < next → i ≡ digits_up_to bound 0 t
    unfolding digits_up_to
    bounded-past x = ends (ap (digits_up_to bound n) (next-byte t i h) ∙ rw (sym p ∙ not-false _ e, above) refl)
      where
        above : leb (n * 10 + (get_or t i 0 - 48)) bound ≡ false
        above = sym (capped-leb (n * 10 + (get_or t i 0 - 48)) bound b) ∙ ap (λ m. leb m bound) (sym q) ∙ lt-leb next bound x

    pub bounded-next : next ≤ bound → Bounded t bound next (i + 1)
    bounded-next x = record { rest = omega (arith, s.rest, step) }
      where
        exact : next ≡ n * 10 + (get_or t i 0 - 48)
        exact = q ∙ capped-low (n * 10 + (get_or t i 0 - 48)) (omega arith)

        within : leb (n * 10 + (get_or t i 0 - 48)) bound ≡ true
        within = ap (λ m. leb m bound) (sym exact) ∙ le-leb next bound x

        one : digits_up_to bound n (get_or t i 0 ∷ drop (i + 1) t) ≡ suc (digits_up_to bound (n * 10 + (get_or t i 0 - 48)) (drop (i + 1) t))
        one = unfold digits_up_to in (rw (sym p ∙ not-false _ e, within) refl)

        step : digits_up_to bound n (drop i t) ≡ suc (digits_up_to bound next (drop (i + 1) t))
        step = ap (digits_up_to bound n) (next-byte t i h) ∙ one ∙ ap (λ m. suc (digits_up_to bound m (drop (i + 1) t))) (sym exact)
