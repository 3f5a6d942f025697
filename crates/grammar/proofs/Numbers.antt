-- Whole numbers: what a number up to a bound begins with is a number up to the bound.
use Prim.Native.Nat.{ℕ, ◌+◌, ◌*◌, ◌-◌, ◌≤◌}
use mathlib.Core.Path.{◌≡◌, refl}
use mathlib.Core.Bool.{true, ◌&&◌}
use mathlib.Core.List.{List, [], ◌∷◌, ◌++◌}
use native.Mathlib.Omega.{arith}
use lib.Dec.{leb}
use borrow.Author.Tests.{leb-true, le-leb}
use Rattle.grammar.specs.Spelling.{is_digit}
use Rattle.grammar.specs.Leads.{digits, value_from, is_number}
use Rattle.grammar.proofs.Bools.{both, both_true}

digits_append : (q v : List ℕ) → digits (q ++ v) ≡ true → digits q ≡ true
unfolding digits
digits_append [] v e = refl
digits_append (b ∷ q) v e = let h = both (is_digit b) _ e in both_true _ _ (h.0) (digits_append q v (h.1))

value_grows : (t : List ℕ) (n : ℕ) → n ≤ value_from n t
unfolding value_from
value_grows [] n = omega arith
value_grows (b ∷ t) n = let h = value_grows t (n * 10 + (b - 48)) in omega arith

value-append : (q v : List ℕ) (n : ℕ) → value_from n (q ++ v) ≡ value_from (value_from n q) v
unfolding value_from
value-append [] v n = refl
value-append (b ∷ q) v n = value-append q v (n * 10 + (b - 48))

pub number-front : (c : ℕ) (q v : List ℕ) (n : ℕ) → is_number (c ∷ (q ++ v)) && leb (value_from 0 (c ∷ (q ++ v))) n ≡ true
    → is_number (c ∷ q) && leb (value_from 0 (c ∷ q)) n ≡ true
unfolding is_number
number-front c q v n e =
    let h = both (is_digit c && digits (q ++ v)) _ e in
    let k = both (is_digit c) (digits (q ++ v)) (h.0) in
    let x = leb-true (value_from 0 (c ∷ (q ++ v))) n (h.1) in
    let y = value_grows v (value_from 0 (c ∷ q)) in
    let z = value-append (c ∷ q) v 0 in
    both_true _ _ (both_true _ _ (k.0) (digits_append q v (k.1))) (le-leb (value_from 0 (c ∷ q)) n (omega arith))
