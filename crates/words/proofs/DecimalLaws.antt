-- Decimals, by the run of digits before '.'.
use Rattle.std.proofs.Common.{◌≡◌, ℕ, zero, suc, ◌+◌, ◌-◌, ◌<◌, ◌≤◌, Bool, true, false, cond, ◌&&◌, eqb, List, [], ◌∷◌, length, get_or, take, drop, sym, refl, ap, ◌∙◌, arith, length-drop, take_all, eq-eqb, ne_eqb}
use Rattle.std.proofs.lemmas.Bool.{eqb-true}
use mathlib.Core.Bool.{false≢true}
use Prim.Native.Nat.{min}
use Rattle.std.proofs.lemmas.List.{take_min, drop-take}
use Rattle.grammar.specs.Spelling.{is_digit}
use Rattle.grammar.specs.Leads.{digits, fewer, fraction, decimal, is_real, real}
use Rattle.grammar.specs.Scan.{viable_by, some_digits, some_decimal}
use Rattle.scan.specs.Runs.{run_end}

-- The run of at most k digits
run-some : (k n : ℕ) (l : List ℕ) → run_end is_digit n (take k l) ≡ n + some_digits k l
unfolding run_end some_digits
run-some zero n [] = omega arith
run-some zero n (b ∷ l) = omega arith
run-some (suc k) n [] = omega arith
run-some (suc k) n (b ∷ l) = go (is_digit b) (run-some k (suc n) l)
  where
    go : (d : Bool) → run_end is_digit (suc n) (take k l) ≡ suc n + some_digits k l → cond d (run_end is_digit (suc n) (take k l)) n ≡ n + cond d (suc (some_digits k l)) zero
    go true e = omega (arith, e)
    go false e = omega arith

pub run-within : (t : List ℕ) (at k r e : ℕ) → e ≡ min (at + k) (length t) → r ≡ run_end is_digit at (drop at (take e t)) → r ≡ at + some_digits k (drop at t)
run-within t at k r e f g =
    g ∙ ap (λ l. run_end is_digit at (drop at l)) (ap (λ j. take j t) f ∙ take_min (at + k) t)
    ∙ ap (run_end is_digit at) (drop-take at k t)
    ∙ run-some k at (drop at t)

pub rest_of : (t : List ℕ) (j : ℕ) → take (length t - j) (drop j t) ≡ drop j t
rest_of t j = take_all (length t - j) (drop j t) (rw (length-drop j t) (omega arith))

-- Digits after '.'
fewer_digits : (k : ℕ) (l : List ℕ) → length l ≤ k → fewer k l ≡ digits l
unfolding fewer digits
fewer_digits k [] h = refl
fewer_digits zero (b ∷ l) h = absurd (omega arith)
fewer_digits (suc k) (b ∷ l) h = ap (λ x. is_digit b && x) (fewer_digits k l (omega arith))

and-false : (a : Bool) → a && false ≡ false
and-false true = refl
and-false false = refl

fewer-long : (k : ℕ) (l : List ℕ) → k < length l → fewer k l ≡ false
unfolding fewer
fewer-long k [] h = absurd (omega arith)
fewer-long zero (b ∷ l) h = refl
fewer-long (suc k) (b ∷ l) h = rw (fewer-long k l (omega arith)) (and-false (is_digit b))

pub fraction-none : (k : ℕ) (l : List ℕ) → length l ≡ 0 → false ≡ fraction k l
unfolding fraction
fraction-none k [] h = refl
fraction-none k (b ∷ l) h = absurd (omega arith)

pub fraction-long : (k : ℕ) (l : List ℕ) → k < length l → false ≡ fraction k l
unfolding fraction
fraction-long k [] h = absurd (omega arith)
fraction-long zero (b ∷ l) h = refl
fraction-long (suc k) (b ∷ l) h = sym (rw (fewer-long k l (omega arith)) (and-false (is_digit b)))

pub fraction-digits : (k : ℕ) (l : List ℕ) {r : Bool} → (length l ≡ 0 → ⊥) → length l ≤ k → r ≡ digits l → r ≡ fraction k l
unfolding fraction digits
fraction-digits k [] h e p = absurd (h refl)
fraction-digits zero (b ∷ l) h e p = absurd (omega arith)
fraction-digits (suc k) (b ∷ l) h e p = p ∙ ap (λ x. is_digit b && x) (sym (fewer_digits k l (omega arith)))

-- '.' is no digit
point-no-digit : is_digit 46 ≡ false
unfolding is_digit
point-no-digit = refl

-- what follows w digits, of at most k: nothing, '.', or another byte
pub record After (l : List ℕ) (k w : ℕ) (whole : Bool) (viable : ℕ) : Type 0 where
  pub fits : w ≤ length l
  pub few : w ≤ k
  pub nothing : w ≡ length l → (whole ≡ false) × (viable ≡ w)
  pub other : w < length l → (get_or l w 0 ≡ 46 → ⊥) → (whole ≡ false) × (viable ≡ w)
  pub point : (m j : ℕ) → m + w ≡ suc k → j ≡ suc w → w < length l → get_or l w 0 ≡ 46 → (whole ≡ fraction m (drop j l)) × (viable ≡ j + some_digits m (drop j l))

no-decimal : (l : List ℕ) → decimal 0 l ≡ false
unfolding decimal
no-decimal [] = refl
no-decimal (b ∷ l) = refl

-- a byte that is no digit stands first
at-once : (k b : ℕ) (l : List ℕ) (x : Bool) (y : ℕ) → x ≡ cond (eqb b 46) (fraction (suc k) l) false → y ≡ cond (eqb b 46) (suc (some_digits (suc k) l)) zero → After (b ∷ l) k 0 x y
at-once k b l x y e f =
    record {
      fits = omega arith;
      few = omega arith;
      nothing = λ h. absurd (omega arith);
      other = λ h n. (e ∙ rw (ne_eqb b 46 n) refl, f ∙ rw (ne_eqb b 46 n) refl);
      point = λ m j q r h p. (let n : m ≡ suc k = omega arith in rw (n, r) (e ∙ rw (eq-eqb b 46 p) refl, f ∙ rw (eq-eqb b 46 p) (omega arith)));
    }

after-digit : (k b : ℕ) (l : List ℕ) (w : ℕ) (x : Bool) (y : ℕ) → After l k w x y → After (b ∷ l) (suc k) (suc w) x (suc y)
after-digit k b l w x y a =
    record {
      fits = omega (arith, a.fits);
      few = omega (arith, a.few);
      nothing = λ h. (let p = a.nothing (omega arith) in (p.0, ap suc p.1));
      other = λ h n. (let p = a.other (omega arith) n in (p.0, ap suc p.1));
      point = λ m j q r h g. (let p = a.point m (suc w) (omega arith) refl (omega arith) g in rw r (p.0, omega (arith, p.1)));
    }

pub after-digits : (k : ℕ) (l : List ℕ) → After l k (some_digits k l) (decimal (suc k) l) (some_decimal k l)
unfolding some_digits decimal some_decimal
after-digits k [] = record { fits = omega arith; few = omega arith; nothing = λ h. (refl, refl); other = λ h n. absurd (omega arith); point = λ m j q r h p. absurd (omega arith) }
after-digits zero (b ∷ l) = at-once zero b l _ _ (rw (no-decimal l, and-false (is_digit b)) refl) refl
after-digits (suc k) (b ∷ l) = go (is_digit b) refl (eqb b 46) refl (after-digits k l)
  where
    go : (d : Bool) → is_digit b ≡ d → (p : Bool) → eqb b 46 ≡ p → After l k (some_digits k l) (decimal (suc k) l) (some_decimal k l)
        → After (b ∷ l) (suc k) (cond d (suc (some_digits k l)) zero)
        (cond p (fraction (suc (suc k)) l) (d && decimal (suc k) l))
        (cond p (suc (some_digits (suc (suc k)) l)) (cond d (suc (some_decimal k l)) zero))
    go true e true f a = absurd (false≢true (sym point-no-digit ∙ ap is_digit (sym (eqb-true b 46 f)) ∙ e))
    go true e false f a = after-digit k b l (some_digits k l) (decimal (suc k) l) (some_decimal k l) a
    go false e p f a = at-once (suc k) b l _ _ (ap (λ q. cond q (fraction (suc (suc k)) l) false) (sym f)) (ap (λ q. cond q (suc (some_digits (suc (suc k)) l)) zero) (sym f))

-- The whole token, of which a run of at most 14 digits is w bytes long
module _ (t : List ℕ) (w : ℕ) (e : w ≡ 0 + some_digits 14 t) where
  pub none-first : w ≡ 0 → (false ≡ is_real t) × (0 ≡ viable_by real t)
  unfolding some_digits is_real viable_by
  none-first z = go t (omega arith)
    where
      go : (l : List ℕ) → some_digits 14 l ≡ 0 → (false ≡ is_real l) × (0 ≡ viable_by real l)
      go [] h = (refl, refl)
      go (b ∷ l) h = here (is_digit b) h
        where
          here : (d : Bool) → ◌≡◌ {A = ℕ} (cond d (suc (some_digits 13 l)) zero) 0 → (false ≡ d && decimal 14 l) × (0 ≡ cond d (suc (some_decimal 13 l)) zero)
          here true h = absurd (omega (arith, h))
          here false h = (refl, refl)

  pub after-first : (w ≡ 0 → ⊥) → After t 14 w (is_real t) (viable_by real t)
  unfolding some_digits is_real viable_by
  after-first z = go t w (omega arith) z
    where
      go : (l : List ℕ) (w : ℕ) → w ≡ some_digits 14 l → (w ≡ 0 → ⊥) → After l 14 w (is_real l) (viable_by real l)
      go [] w e z = absurd (z e)
      go (b ∷ l) w e z = here (is_digit b) (after-digits 13 l) e
        where
          here : (d : Bool) → After l 13 (some_digits 13 l) (decimal 14 l) (some_decimal 13 l) → w ≡ cond d (suc (some_digits 13 l)) zero → After (b ∷ l) 14 w (d && decimal 14 l) (cond d (suc (some_decimal 13 l)) zero)
          here true a f = rw f (after-digit 13 b l (some_digits 13 l) (decimal 14 l) (some_decimal 13 l) a)
          here false a f = absurd (z f)
