-- Runs of digits and of word bytes.
use Rattle.std.proofs.Common.{◌≡◌, ℕ, ◌-◌, Bool, true, false, not, ◌&&◌, List, [], ◌∷◌, length, get_or, take, drop, sym, refl, ap, ◌∙◌, arith}
use Prim.Native.Nat.{min}
use borrow.Author.Tests.{not-true}
use Rattle.std.proofs.lemmas.List.{drop_min}
use Rattle.std.specs.List.{list_all}
use Rattle.grammar.specs.Spelling.{is_letter, is_digit, is_word_byte}
use Rattle.grammar.specs.Leads.{digits, is_number, word_bytes, is_word}
use Rattle.words.proofs.DecimalLaws.{rest_of}

pub digits-all : (t : List ℕ) → list_all is_digit t ≡ digits t
unfolding digits
digits-all [] = refl
digits-all (b ∷ t) = ap (λ r. is_digit b && r) (digits-all t)

-- a place past the end leaves what the end leaves
pub digits-from : (t : List ℕ) (at from : ℕ) → from ≡ min at (length t) → digits (take (length t - from) (drop from t)) ≡ digits (drop at t)
digits-from t at from e = ap digits (rest_of t from ∙ ap (λ j. drop j t) e ∙ drop_min at t)

pub words-all : (t : List ℕ) → list_all is_word_byte t ≡ word_bytes t
unfolding word_bytes
words-all [] = refl
words-all (b ∷ t) = ap (λ r. is_word_byte b && r) (words-all t)

pub number_digits : (t : List ℕ) {r : Bool} → (length t ≡ 0 → ⊥) → r ≡ digits t → r ≡ is_number t
unfolding digits is_number
number_digits [] h p = absurd (h refl)
number_digits (b ∷ t) h p = p

pub number-none : (t : List ℕ) → length t ≡ 0 → false ≡ is_number t
unfolding is_number
number-none [] h = refl
number-none (b ∷ t) h = absurd (omega arith)

pub word_none : (t : List ℕ) → length t ≡ 0 → false ≡ is_word t
unfolding is_word
word_none [] h = refl
word_none (b ∷ t) h = absurd (omega arith)

pub word-not : (t : List ℕ) {l : Bool} → l ≡ is_letter (get_or t 0 0) → not l ≡ true → false ≡ is_word t
unfolding is_word
word-not [] p e = refl
word-not (b ∷ t) p e = sym (rw (sym p ∙ not-true _ e) refl)

module _ (t : List ℕ) (b : ℕ) (rest : List ℕ) (s : t ≡ b ∷ rest) {l : Bool} (p : l ≡ is_letter b) where
  pub word-no-letter : l ≡ false → false ≡ is_word t
  unfolding is_word
  word-no-letter e = rw (s, sym p ∙ e) refl

  pub word-all : l ≡ true → {r : Bool} → r ≡ word_bytes rest → r ≡ is_word t
  unfolding is_word
  word-all e q = rw (s, sym p ∙ e) q
