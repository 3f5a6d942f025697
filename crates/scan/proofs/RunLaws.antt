-- The end of a run of bytes, as a loop finds it; and a token's end is the end of a run.
use Prim.Native.Nat.{ℕ, zero, suc, ◌+◌, ◌≤◌, ◌<◌}
use native.Mathlib.Numerals.{add-one}
use lib.ListN.{length, get_or, drop, drop_of_length-le}
use native.Mathlib.Omega.{arith}
use lib.Seq.{drop-cons}
use mathlib.Core.Path.{◌≡◌, refl, sym, ap}
use mathlib.Core.Bool.{Bool, true, false}
use mathlib.Core.List.{List, [], ◌∷◌, ◌++◌}
use Rattle.std.proofs.lemmas.Bool.{cases_lt}
use mathlib.Core.Logic.{◌⊎◌, inl, inr}
use Rattle.grammar.specs.Spelling.{Token, is_letter, is_digit, is_word_byte, is_pair, is_nil, joins}
use Rattle.grammar.specs.Scan.{ending}
use Rattle.scan.specs.Runs.{is_number_byte, run_end}

module _ (test : ℕ → Bool) (u : List ℕ) (i : ℕ) where
  pub run_past : length u ≤ i → run_end test i (drop i u) ≡ i
  unfolding run_end
  run_past h = ap (run_end test i) (drop_of_length-le u h)

  pub run_on : i < length u → test (get_or u i 0) ≡ true → run_end test i (drop i u) ≡ run_end test (i + 1) (drop (i + 1) u)
  unfolding run_end
  run_on h e = rw (drop-cons u i 0 h, e, add-one i)

  pub run-stops : i < length u → test (get_or u i 0) ≡ false → run_end test i (drop i u) ≡ i
  unfolding run_end
  run-stops h e = rw (drop-cons u i 0 h, e)

-- what holds at place i, and goes on past each byte that passes, holds at the run's end; and the byte there fails
module _ (test : ℕ → Bool) (u : List ℕ) (P : ℕ → Type 0) (on : (j : ℕ) → j < length u → test (get_or u j 0) ≡ true → P j → P (j + 1)) where
  abbrev Ends : ℕ → Type 0
  Ends r = P r × (r < length u → test (get_or u r 0) ≡ false)

  run_to : (k i : ℕ) → length u ≤ i + k → P i → Ends (run_end test i (drop i u))
  run_to zero i h p = rw (run_past test u i (omega arith)) (p, λ x. absurd (omega arith))
  run_to (suc k) i h p = here (cases_lt i (length u)) (test (get_or u i 0)) refl (λ l q. run_to k (i + 1) (omega arith) q)
    where
      here : (i < length u) ⊎ (length u ≤ i) → (b : Bool) → test (get_or u i 0) ≡ b
          → (i < length u → P (i + 1) → Ends (run_end test (i + 1) (drop (i + 1) u))) → Ends (run_end test i (drop i u))
      here (inl l) true e later = rw (run_on test u i l e) (later l (on i l e p))
      here (inl l) false e later = rw (run-stops test u i l e) (p, λ x. e)
      here (inr l) b e later = rw (run_past test u i l) (p, λ x. absurd (omega arith))

pub run_keeps : (test : ℕ → Bool) (u : List ℕ) (P : ℕ → Type 0) → ((j : ℕ) → j < length u → test (get_or u j 0) ≡ true → P j → P (j + 1))
    → (i r : ℕ) → r ≡ run_end test i (drop i u) → P i → P r
run_keeps test u P on i r e p = rw e ((run_to test u P on (length u) i (omega arith) p).0)

pub run_halts : (test : ℕ → Bool) (u : List ℕ) (i r : ℕ) → r ≡ run_end test i (drop i u) → r < length u → test (get_or u r 0) ≡ false
run_halts test u i r e = rw e ((run_to test u (λ j. Unit {0}) (λ j h x p. tt) (length u) i (omega arith) tt).1)

-- a token's end, where the bytes that join it are those of a test
ending-run : (test : ℕ → Bool) (c : ℕ) → ((q : Token) (b : ℕ) → joins (c ∷ q) b ≡ test b)
    → (q : Token) (n : ℕ) (v : List ℕ) → ending (c ∷ q) n v ≡ run_end test n v
unfolding ending run_end
ending-run test c h q n [] = refl
ending-run test c h q n (b ∷ v) = go (test b) (ending-run test c h (q ++ (b ∷ [])) (suc n) v)
  where
    go : (k : Bool) → ending (c ∷ (q ++ (b ∷ []))) (suc n) v ≡ run_end test (suc n) v → ending (c ∷ q) n (b ∷ v) ≡ run_end test n (b ∷ v)
    go k e = rw (h q b, e)

-- of a word, a number and a sign
pub ending-word : (c n : ℕ) (v : List ℕ) → is_letter c ≡ true → ending (c ∷ []) n v ≡ run_end is_word_byte n v
unfolding joins
ending-word c n v e = ending-run is_word_byte c (λ q b. rw e) [] n v

pub ending-number : (c n : ℕ) (v : List ℕ) → is_letter c ≡ false → is_digit c ≡ true → ending (c ∷ []) n v ≡ run_end is_number_byte n v
unfolding joins is_number_byte
ending-number c n v e d = ending-run is_number_byte c (λ q b. rw (e, d)) [] n v

module _ (c : ℕ) (u : List ℕ) (i : ℕ) (e : is_letter c ≡ false) (d : is_digit c ≡ false) where
  pub ending-past : length u ≤ i → ending (c ∷ []) i (drop i u) ≡ i
  unfolding ending
  ending-past h = ap (ending (c ∷ []) i) (drop_of_length-le u h)

  pub ending-single : i < length u → is_pair c (get_or u i 0) ≡ false → ending (c ∷ []) i (drop i u) ≡ i
  unfolding ending joins is_nil
  ending-single h p = rw (drop-cons u i 0 h, e, d, p)

  -- no sign has three bytes
  two-end : (b n : ℕ) (v : List ℕ) → ending (c ∷ (b ∷ [])) n v ≡ n
  unfolding ending joins is_nil
  two-end b n [] = refl
  two-end b n (x ∷ v) = rw (e, d)

  pub ending-pair : i < length u → is_pair c (get_or u i 0) ≡ true → ending (c ∷ []) i (drop i u) ≡ i + 1
  unfolding ending joins is_nil
  ending-pair h p = rw (drop-cons u i 0 h, e, d, p, two-end (get_or u i 0) (suc i) (drop (suc i) u)) (sym (add-one i))
