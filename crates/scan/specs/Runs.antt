-- Runs of bytes that a loop passes, and what they leave.
use Rattle.std.specs.Prelude.{ℕ, suc, ◌≤◌, ◌<◌, ◌≡◌, Bool, false, ◌||◌, cond, List, [], ◌∷◌, eqb, length, get_or, drop}
use Rattle.grammar.specs.Spelling.{Part, is_word_byte, is_blank}
use Rattle.grammar.specs.Scan.{Next, next_from, token_at}

-- a byte that a number takes
unfoldable pub is_number_byte : ℕ → Bool
is_number_byte b = is_word_byte b || eqb b 46

-- each call answers at a byte as the test does; `post` is what calls may answer
pub record Tells (post : ℕ → Bool → Type 0) (test : ℕ → Bool) : Type 0 where
  pub told : (b : ℕ) (r : Bool) → b < 256 → post b r → r ≡ test b

-- the place of the first byte that fails the test; u's first byte stands at place n
unfoldable pub run_end : (ℕ → Bool) → ℕ → List ℕ → ℕ
run_end test n [] = n
run_end test n (b ∷ u) = let later = run_end test (suc n) u in cond (test b) later n

-- from place `at` to place r there are blanks only, and none at r
pub record Skipped (u : List ℕ) (at r : ℕ) : Type 0 where
  pub low : at ≤ r
  pub same : token_at u r ≡ token_at u at
  pub stops : r < length u → is_blank (get_or u r 0) ≡ false

-- the machine was at the part p at place `at`, and what comes next there is `next`, found by going to place r
pub record Passed (p : Part) (u : List ℕ) (at : ℕ) (next : Next) (r : ℕ) : Type 0 where
  pub low : at ≤ r
  pub high : r ≤ length u
  pub same : next_from p at (drop at u) ≡ next

-- opens every definition of this file
unfoldable pub opened : Unit {0}
unfolding is_number_byte run_end
opened = tt
