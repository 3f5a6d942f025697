-- How many bytes of a token are viable, lead by lead: each count is one loop over the bytes.
use Prim.Native.Nat.{ℕ, zero, suc, ◌+◌, ◌*◌, ◌-◌}
use lib.ListN.{length}
use lib.Dec.{eqb, leb}
use mathlib.Core.Path.{◌≡◌, refl, ◌∙◌, ap}
use mathlib.Core.Bool.{Bool, true, false, not, ◌&&◌, cond, false≢true}
use mathlib.Core.List.{List, [], ◌∷◌, ◌++◌}
use Rattle.grammar.specs.Spelling.{Token, is_blank, is_letter, is_digit, is_word_byte, joins, goes_on, whole}
use Rattle.grammar.specs.Leads.{bytes, begins, word_bytes, is_word, digits, value_from, is_number, fewer, could_fraction, could_decimal, Lead, the, name, up_to, real, could}
use Rattle.grammar.specs.Table.{Row, any_could}
use Rattle.grammar.specs.Scan.{longest, viable, common, digits_up_to, some_digits, some_decimal, of_letter, viable_by, viable_by_rows}
use Rattle.grammar.proofs.Bools.{both, or_right}
use Rattle.grammar.proofs.Leads.{could-front}
use Rattle.grammar.proofs.Longest.{Front, longest-none, longest-or}

-- a word or sign
common-is : (w t : List ℕ) → longest (λ q. begins q w) t ≡ common w t
unfolding longest begins common
common-is w [] = go w
  where
    go : (w : List ℕ) → 0 ≡ common w []
    go [] = refl
    go (c ∷ w) = refl
common-is [] (b ∷ t) = refl
common-is (c ∷ w) (b ∷ t) = go (eqb b c) refl (common-is w t)
  where
    go : (k : Bool) → eqb b c ≡ k → longest (λ q. begins q w) t ≡ common w t → longest (λ q. begins q (c ∷ w)) (b ∷ t) ≡ common (c ∷ w) (b ∷ t)
    go true e i = rw e (ap suc i)
    go false e i = rw e

word-is : (k : Bool) (w t : List ℕ) → longest (λ q. k && begins q w) t ≡ cond k (common w t) zero
word-is true w t = common-is w t
word-is false w t = longest-none (λ q. false) t (λ b q. refl)

-- a name: all bytes of a token that begins with a letter
letters-all : (c : ℕ) (q r : List ℕ) → is_letter c ≡ true → goes_on (c ∷ q) r ≡ true → longest word_bytes r ≡ length r
unfolding longest goes_on joins word_bytes
letters-all c q [] l g = refl
letters-all c q (b ∷ r) l g =
    let h : (is_word_byte b ≡ true) × (goes_on (c ∷ (q ++ (b ∷ []))) r ≡ true) = both (is_word_byte b) _ (rw l at g) in
    rw h.0 (ap suc (letters-all c (q ++ (b ∷ [])) r l h.1))

name-is : (t : Token) → whole t ≡ true → longest is_word t ≡ cond (of_letter t) (length t) zero
unfolding whole longest is_word of_letter word_bytes
name-is [] w = absurd (false≢true w)
name-is (b ∷ r) w = go (is_letter b) refl
  where
    go : (k : Bool) → is_letter b ≡ k → longest is_word (b ∷ r) ≡ cond (is_letter b) (suc (length r)) zero
    go true e = rw e (ap suc (letters-all b [] r e (both (not (is_blank b) && not (eqb b 47)) (goes_on (b ∷ []) r) w).1))
    go false e = rw e

-- a whole number
digits-up-to : (n m : ℕ) (t : List ℕ) → longest (λ q. digits q && leb (value_from m q) n) t ≡ digits_up_to n m t
unfolding longest digits value_from digits_up_to
digits-up-to n m [] = refl
digits-up-to n m (b ∷ t) = go (is_digit b) refl (leb m' n) refl (digits-up-to n m' t)
  where
    m' : ℕ
    m' = m * 10 + (b - 48)

    go : (k : Bool) → is_digit b ≡ k → (j : Bool) → leb m' n ≡ j → longest (λ q. digits q && leb (value_from m' q) n) t ≡ digits_up_to n m' t
        → longest (λ q. digits q && leb (value_from m q) n) (b ∷ t) ≡ digits_up_to n m (b ∷ t)
    go true e true l i = rw (e, l) (ap suc i)
    go true e false l i = rw (e, l)
    go false e j l i = rw e

number_is : (n : ℕ) (t : Token) → longest (could (up_to n)) t ≡ digits_up_to n 0 t
unfolding longest could is_number digits
number_is n [] = digits-up-to n 0 []
number_is n (b ∷ t) = digits-up-to n 0 (b ∷ t)

-- a decimal
digits-some : (k : ℕ) (t : List ℕ) → longest (fewer k) t ≡ some_digits k t
unfolding longest fewer some_digits
digits-some k [] = refl
digits-some zero (b ∷ t) = refl
digits-some (suc k) (b ∷ t) = go (is_digit b) refl (digits-some k t)
  where
    go : (j : Bool) → is_digit b ≡ j → longest (fewer k) t ≡ some_digits k t → longest (fewer (suc k)) (b ∷ t) ≡ some_digits (suc k) (b ∷ t)
    go true e i = rw e (ap suc i)
    go false e i = rw e

fraction-some : (k : ℕ) (t : List ℕ) → longest (could_fraction (suc k)) t ≡ some_digits (suc k) t
unfolding longest could_fraction fewer
fraction-some k [] = digits-some (suc k) []
fraction-some k (b ∷ t) = digits-some (suc k) (b ∷ t)

decimal-some : (k : ℕ) (t : List ℕ) → longest (could_decimal (suc k)) t ≡ some_decimal k t
unfolding longest could_decimal could_fraction some_decimal
decimal-some k [] = refl
decimal-some zero (b ∷ t) = go (eqb b 46) refl (is_digit b) refl
  where
    go : (j : Bool) → eqb b 46 ≡ j → (i : Bool) → is_digit b ≡ i → longest (could_decimal 1) (b ∷ t) ≡ some_decimal 0 (b ∷ t)
    go true e i d = rw e (ap suc (fraction-some 0 t))
    go false e true d = rw (e, d)
    go false e false d = rw (e, d)
decimal-some (suc k) (b ∷ t) = go (eqb b 46) refl (is_digit b) refl (decimal-some k t)
  where
    go : (j : Bool) → eqb b 46 ≡ j → (i : Bool) → is_digit b ≡ i → longest (could_decimal (suc k)) t ≡ some_decimal k t
        → longest (could_decimal (suc (suc k))) (b ∷ t) ≡ some_decimal (suc k) (b ∷ t)
    go true e i d f = rw e (ap suc (fraction-some (suc k) t))
    go false e true d f = rw (e, d) (ap suc f)
    go false e false d f = rw (e, d)

real-is : (t : Token) → longest (could real) t ≡ viable_by real t
unfolding longest could viable_by could_decimal
real-is [] = refl
real-is (b ∷ t) = go (is_digit b) refl
  where
    go : (k : Bool) → is_digit b ≡ k → longest (could real) (b ∷ t) ≡ viable_by real (b ∷ t)
    go true e = rw e (ap suc (decimal-some 13 t))
    go false e = rw e

-- of a lead
pub viable-by : (l : Lead) (t : Token) → whole t ≡ true → longest (could l) t ≡ viable_by l t
unfolding could viable_by
viable-by (the w) t h = word-is (whole (bytes w)) (bytes w) t
viable-by name t h = name-is t h
viable-by (up_to n) t h = number_is n t
viable-by real t h = real-is t

-- of rows: the most of any
module _ {S W : Type 0} where
  pub any-front : (rows : List (Row S W)) → Front (any_could rows)
  unfolding any_could
  any-front [] b q v e = e
  any-front (r ∷ rows) b q v e = go (could r.lead (b ∷ (q ++ v))) refl (any-front rows b q v)
    where
      go : (k : Bool) → could r.lead (b ∷ (q ++ v)) ≡ k → (any_could rows (b ∷ (q ++ v)) ≡ true → any_could rows (b ∷ q) ≡ true)
          → any_could (r ∷ rows) (b ∷ q) ≡ true
      go true d f = rw (could-front r.lead b q v d)
      go false d f = or_right (could r.lead (b ∷ q)) (any_could rows (b ∷ q)) (f (rw d at e))

  pub viable-by-rows : (rows : List (Row S W)) (t : Token) → whole t ≡ true → viable rows t ≡ viable_by_rows rows t
  unfolding viable viable_by_rows any_could
  viable-by-rows [] t h = longest-none (λ q. false) t (λ b q. refl)
  viable-by-rows (r ∷ rows) t h =
      longest-or (could r.lead) (any_could rows) (could-front r.lead) (any-front rows) t
      ∙ rw (viable-by r.lead t h, viable-by-rows rows t h)
