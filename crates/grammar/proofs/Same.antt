-- Lists of bytes that are the same, and lists that begin others.
use Prim.Native.Nat.{ℕ}
use mathlib.Core.Path.{◌≡◌, refl}
use mathlib.Core.Bool.{true, false≢true}
use mathlib.Core.List.{List, [], ◌∷◌, ◌++◌}
use lib.Dec.{eqb}
use Rattle.grammar.specs.Leads.{same, begins}
use Rattle.grammar.proofs.Bools.{both, both_true, byte-is, byte-self}

pub same-eq : (s t : List ℕ) → same s t ≡ true → s ≡ t
unfolding same
same-eq [] [] e = refl
same-eq [] (c ∷ t) e = absurd (false≢true e)
same-eq (b ∷ s) [] e = absurd (false≢true e)
same-eq (b ∷ s) (c ∷ t) e = let h = both (eqb b c) (same s t) e in λ i. byte-is b c (h.0) i ∷ same-eq s t (h.1) i

pub same_self : (t : List ℕ) → same t t ≡ true
unfolding same
same_self [] = refl
same_self (b ∷ t) = both_true _ _ (byte-self b) (same_self t)

pub begins-self : (t : List ℕ) → begins t t ≡ true
unfolding begins
begins-self [] = refl
begins-self (b ∷ t) = both_true _ _ (byte-self b) (begins-self t)

pub begins-front : (q v t : List ℕ) → begins (q ++ v) t ≡ true → begins q t ≡ true
unfolding begins
begins-front [] v t e = refl
begins-front (b ∷ q) v [] e = absurd (false≢true e)
begins-front (b ∷ q) v (c ∷ t) e = let h = both (eqb b c) (begins (q ++ v) t) e in both_true _ _ (h.0) (begins-front q v t (h.1))

pub begins-rest : (q t : List ℕ) → begins q t ≡ true → (v : List ℕ) × (q ++ v ≡ t)
unfolding begins
begins-rest [] t e = (t, refl)
begins-rest (b ∷ q) [] e = absurd (false≢true e)
begins-rest (b ∷ q) (c ∷ t) e = let h = both (eqb b c) (begins q t) e in let r = begins-rest q t (h.1) in (r.0, λ i. byte-is b c (h.0) i ∷ r.1 i)
