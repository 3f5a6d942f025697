-- Words with a blank after each: the place after some blanks, and how much of a token a word begins with.
use Rattle.std.proofs.Common.{◌≡◌, ℕ, zero, suc, ◌+◌, ◌-◌, ◌<◌, ◌≤◌, List, [], ◌∷◌, length, get_or, take, drop, sym, refl, ap, ◌∙◌, ap₂, arith, length-drop, drop_of_length-le, take_all, eq-eqb, ne_eqb}
use Prim.Native.Nat.{min}
use mathlib.Core.Logic.{inl, inr}
use Rattle.std.proofs.lemmas.Bool.{cases_lt}
use Rattle.words.specs.Viable.{after_blanks, common_run}
use Rattle.words.proofs.Rest.{next-byte}

pub after_none : (l : List ℕ) (k : ℕ) → k ≡ 0 → l ≡ after_blanks k l
unfolding after_blanks
after_none l k e = ap (λ j. after_blanks j l) (sym e)

pub after-end : (k : ℕ) → after_blanks k [] ≡ []
unfolding after_blanks
after-end zero = refl
after-end (suc k) = refl

after-blank : (k b : ℕ) (l : List ℕ) → (k ≡ 0 → ⊥) → b ≡ 32 → after_blanks k (b ∷ l) ≡ after_blanks (k - 1) l
unfolding after_blanks
after-blank zero b l z e = absurd (z refl)
after-blank (suc k) b l z e = rw (eq-eqb b 32 e, after_blanks) (ap (λ j. after_blanks j l) less)
  where
    less : k ≡ suc k - 1
    less = omega arith

pub after-other : (k b : ℕ) (l : List ℕ) → (k ≡ 0 → ⊥) → (b ≡ 32 → ⊥) → after_blanks k (b ∷ l) ≡ after_blanks k l
unfolding after_blanks
after-other zero b l z e = absurd (z refl)
after-other (suc k) b l z e = rw (ne_eqb b 32 e, after_blanks)

-- below i there are all blanks but `left` of k
pub record Skipped (words : List ℕ) (k left i : ℕ) : Type 0 where
  pub within : i ≤ length words
  pub rest : after_blanks k words ≡ after_blanks left (drop i words)

pub skipped-start : (words : List ℕ) (k : ℕ) → Skipped words k k 0
skipped-start words k = record { within = omega arith; rest = refl }

module _ (words : List ℕ) (k left i : ℕ) (s : Skipped words k left i) where
  pub skipped-done : left ≡ 0 → (i ≤ length words) × (drop i words ≡ after_blanks k words)
  skipped-done e = (s.within, after_none (drop i words) left e ∙ sym s.rest)

  pub skipped-end : length words ≤ i → (length words ≤ length words) × (drop (length words) words ≡ after_blanks k words)
  skipped-end h = (omega arith, drop_of_length-le words {i = length words} (omega arith) ∙ sym (s.rest ∙ ap (after_blanks left) none ∙ after-end left))
    where
      none : drop i words ≡ []
      none = drop_of_length-le words h

  pub skipped-blank : i < length words → (left ≡ 0 → ⊥) → get_or words i 0 ≡ 32 → Skipped words k (left - 1) (i + 1)
  skipped-blank h z e = record { within = omega arith; rest = s.rest ∙ ap (after_blanks left) (next-byte words i h) ∙ after-blank left (get_or words i 0) (drop (i + 1) words) z e }

  pub skipped-other : i < length words → (left ≡ 0 → ⊥) → (get_or words i 0 ≡ 32 → ⊥) → Skipped words k left (i + 1)
  skipped-other h z e = record { within = omega arith; rest = s.rest ∙ ap (after_blanks left) (next-byte words i h) ∙ after-other left (get_or words i 0) (drop (i + 1) words) z e }

-- the first i bytes are alike, and no blanks
pub record Common (words t : List ℕ) (i : ℕ) : Type 0 where
  pub rest : common_run words t ≡ i + common_run (drop i words) (drop i t)

pub common-start : (words t : List ℕ) → Common words t 0
common-start words t = record { rest = omega arith }

no-token : (l : List ℕ) → common_run l [] ≡ 0
unfolding common_run
no-token [] = refl
no-token (b ∷ l) = refl

module _ (words t : List ℕ) (i : ℕ) (s : Common words t i) where
  stops : common_run (drop i words) (drop i t) ≡ 0 → i ≡ common_run words t
  stops e = omega (arith, s.rest)

  pub common-short : length words ≤ i → i ≡ common_run words t
  unfolding common_run
  common-short h = stops (ap (λ l. common_run l (drop i t)) (drop_of_length-le words h))

  pub common-all : length t ≤ i → i ≡ common_run words t
  common-all h = stops (ap (common_run (drop i words)) (drop_of_length-le t h) ∙ no-token (drop i words))

  -- the loop has come to the end of the shorter
  pub common-end : {most : ℕ} → most ≡ min (length words) (length t) → most ≡ i → most ≡ common_run words t
  common-end {most} e g = elim (cases_lt i (length words)) [ inl h ↦ (let z = common-all (omega arith) in omega arith) | inr h ↦ (let z = common-short h in omega arith) ]

  both-next : i < length words → i < length t → common_run (drop i words) (drop i t) ≡ common_run (get_or words i 0 ∷ drop (i + 1) words) (get_or t i 0 ∷ drop (i + 1) t)
  both-next h e = ap₂ common_run (next-byte words i h) (next-byte t i e)

  pub common-blank : i < length words → i < length t → get_or words i 0 ≡ 32 → i ≡ common_run words t
  unfolding common_run
  common-blank h e b = stops (both-next h e ∙ rw (eq-eqb (get_or words i 0) 32 b) refl)

  pub common-stop : i < length words → i < length t → (get_or words i 0 ≡ 32 → ⊥) → (get_or words i 0 ≡ get_or t i 0 → ⊥) → i ≡ common_run words t
  unfolding common_run
  common-stop h e b d = stops (both-next h e ∙ rw (ne_eqb (get_or words i 0) 32 b, ne_eqb (get_or t i 0) (get_or words i 0) (λ p. d (sym p))) refl)

  pub common-next : i < length words → i < length t → (get_or words i 0 ≡ 32 → ⊥) → get_or words i 0 ≡ get_or t i 0 → Common words t (i + 1)
  common-next h e b d = record { rest = omega (arith, s.rest, step) }
    where
      step : common_run (drop i words) (drop i t) ≡ suc (common_run (drop (i + 1) words) (drop (i + 1) t))
      step = both-next h e ∙ (unfold common_run in (rw (ne_eqb (get_or words i 0) 32 b, eq-eqb (get_or t i 0) (get_or words i 0) (sym d)) refl))

-- a part of the words from the place after k blanks on
pub word-told : (words t : List ℕ) (k from : ℕ) {r : ℕ} → (from ≤ length words) × (drop from words ≡ after_blanks k words)
    → r ≡ common_run (take (length words - from) (drop from words)) t → r ≡ common_run (after_blanks k words) t
word-told words t k from h e = e ∙ ap (λ l. common_run l t) (take_all (length words - from) (drop from words) (rw (length-drop from words) (omega arith)) ∙ h.1)
