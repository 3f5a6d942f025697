-- The loop over the classes, and the arms of the reach.
use Rattle.std.specs.Prelude.{Some, None}
use native.Mathlib.Numerals.{add-one}
use Rattle.std.proofs.lemmas.Bool.Decides.{nat_tests}
use lib.Dec.{ltb}
use mathlib.Core.Logic.{inl, inr}
use Rattle.std.proofs.lemmas.Bool.{cases_lt}
use mathlib.Core.Bool.{Bool, cond}
use Rattle.recognise.specs.Replies.{came}
use Rattle.recognise.proofs.Takings.{came-some, came-none}
use Prim.Native.Nat.{ℕ, zero, suc, max, ◌+◌}
use mathlib.Core.Path.{◌≡◌, refl, ◌∙◌, sym, ap}
use mathlib.Core.Bool.{true, false}
use native.Mathlib.Omega.{arith}
use borrow.Author.Tests.{lt-ltb, le-ltb}
use Rattle.grammar.specs.Spelling.{Token}
use Rattle.words.specs.Viable.{viable_class}
use Rattle.recognise.specs.declared.Ahead.{Ahead}
use Rattle.recognise.specs.declared.steps.Went.{Went}
use Rattle.recognise.specs.Steps.{step_of}
use Rattle.recognise.specs.Reaching.{more_of, viable_from}

module _ (t : Token) (a : Ahead) (n k : ℕ) where
  pub more-none : None ≡ came (step_of a k) → n ≡ more_of t a n k
  unfolding more_of
  more-none h = rw (came-none (step_of a k) h) refl

  pub more-some : {x : Went} → Some x ≡ came (step_of a k) → {v : ℕ} → v ≡ viable_class k t → max n v ≡ more_of t a n k
  unfolding more_of
  more-some {x} h {v} f = rw ((came-some (step_of a k) x h).0, ← f) (elim (cases_lt n v) [ inl l ↦ rw (lt-ltb n v l) (omega arith) | inr l ↦ rw (le-ltb n v l) (omega arith) ])

-- the order of the classes does not tell
more-swaps : (t : Token) (a : Ahead) (n j k : ℕ) → more_of t a (more_of t a n j) k ≡ more_of t a (more_of t a n k) j
unfolding more_of
more-swaps t a n j k = go (step_of a j).ok (step_of a k).ok (viable_class j t) (viable_class k t)
  where
    go : (p q : Bool) (x y : ℕ) → cond q (cond (ltb (cond p (cond (ltb n x) x n) n) y) y (cond p (cond (ltb n x) x n) n)) (cond p (cond (ltb n x) x n) n)
        ≡ cond p (cond (ltb (cond q (cond (ltb n y) y n) n) x) x (cond q (cond (ltb n y) y n) n)) (cond q (cond (ltb n y) y n) n)
    go true true x y = grind (arith, nat_tests)
    go true false x y = refl
    go false true x y = refl
    go false false x y = refl

viable-more : (t : Token) (a : Ahead) (n j k : ℕ) → viable_from t a (more_of t a n j) k ≡ more_of t a (viable_from t a n k) j
unfolding viable_from
viable-more t a n j zero = refl
viable-more t a n j (suc k) = ap (λ m. viable_from t a m k) (more-swaps t a n j k) ∙ viable-more t a (more_of t a n k) j k

pub viable-zero : (t : Token) (a : Ahead) (n : ℕ) → n ≡ viable_from t a n 0
unfolding viable_from
viable-zero t a n = refl

pub viable-next : (t : Token) (a : Ahead) (m k r : ℕ) → m ≡ viable_from t a 0 k → r ≡ more_of t a m k → r ≡ viable_from t a 0 (k + 1)
unfolding viable_from
viable-next t a m k r e f = f ∙ ap (λ x. more_of t a x k) e ∙ sym (viable-more t a 0 k k) ∙ ap (viable_from t a 0) (sym (add-one k))
