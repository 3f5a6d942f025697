-- What std's checked operations answer, as a worked-out Int: Unknown where the result is outside the range.
use Rattle.std.proofs.Common.{◌≡◌, ℤ, Bool, true, false, Option, Some, None, SomeIff, MatchOption, FitsSigned, w64}
use mathlib.Core.Path.{refl, sym, ap, ◌∙◌}
use Rattle.plexil.specs.Values.{in_range, int_in}
use Rattle.plexil.specs.declared.Worked.{Worked}
use Rattle.plexil.specs.declared.Worked.TheVariants as w
use Rattle.plexil.proofs.ListLaws.{if-true, if-false}
use Rattle.arithmetic.proofs.Integers.{seen, both-back, in-range, range-of}

outside : (z : ℤ) → (FitsSigned w64 z → ⊥) → in_range z ≡ false
outside z h = by (in_range z) refl
  where
    by : (b : Bool) → in_range z ≡ b → in_range z ≡ false
    by true e = absurd (h (record { sfits = range-of z e }))
    by false e = e

checked : (r : Option ℤ) (z : ℤ) (v : Worked) → SomeIff r (FitsSigned w64 z) z → MatchOption r (v ≡ w.Unknown) (λ x. v ≡ w.Int x) → v ≡ int_in z
unfolding int_in
checked None z v h e = e ∙ sym (if-false _ _ _ (outside z h))
checked (Some x) z v (f, s) e = e ∙ (ap w.Int s ∙ sym (if-true _ _ _ (in-range z f.sfits)))

-- the same of an operation on two numbers, which the machine reads back of their bits
pub checked_of : (f : ℤ → ℤ → ℤ) (x y : ℤ) → FitsSigned w64 x → FitsSigned w64 y → (r : Option ℤ) (v : Worked)
    → SomeIff r (FitsSigned w64 (f (seen x) (seen y))) (f (seen x) (seen y)) → MatchOption r (v ≡ w.Unknown) (λ z. v ≡ w.Int z) → v ≡ int_in (f x y)
checked_of f x y fx fy r v h e = checked r (f (seen x) (seen y)) v h e ∙ both-back {x = x} {y = y} (λ a b. int_in (f a b)) fx.sfits fy.sfits
