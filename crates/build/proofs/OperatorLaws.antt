-- An operator's entries in the image.
use Prim.Native.Nat.{ℕ, ◌-◌, ◌≤◌, ◌<◌}
use mathlib.Core.Path.{◌≡◌, refl, sym, ◌∙◌, ap, subst}
use mathlib.Core.List.{List, [], ◌∷◌, ◌++◌, append_assoc}
use native.Mathlib.Omega.{arith}
use lib.ListN.{length, get_or, length-append}
use Rattle.plexil.specs.Assemble as Assemble
use Rattle.notation.specs.Sayings.{Operator}
use Rattle.notation.specs.Draft.{Entry, negation, two, Draft}
use Rattle.notation.specs.Hearing.{made, last, ◌▸◌}
use Rattle.notation.specs.Mapping.{binary_code, kind_of_binary, entry_bytes}
use Rattle.build.specs.Flow.{of_operator}
use Rattle.build.specs.Standing.{Scene, Stands, kinds_after}
use Rattle.build.specs.Steps.{Emits}
use Rattle.build.specs.Operators.{binary_of, first_of, also_not}
use Rattle.build.proofs.Numbers.{made-two, made_one, made-not, kind-first}
use Rattle.build.proofs.EntryLaws.{length_more}

first-bytes : (d : Draft) (ks : List ℕ) (o : Operator) (a b op kind x y : ℕ) → op ≡ binary_code (binary_of o) → kind ≡ kind_of_binary (binary_of o) (get_or ks a 0) → x ≡ first_of o a b → y ≡ first_of o b a
    → entry_bytes d ks (two (binary_of o) (first_of o a b) (first_of o b a)) ≡ Assemble.expr op kind x y 0
unfolding entry_bytes
first-bytes d ks o a b op kind x y p q e f = cc (kind-first o (λ z. get_or ks z 0) a b)

pub negation-bytes : (d : Draft) (ks : List ℕ) (a : ℕ) → entry_bytes d ks (negation a) ≡ Assemble.expr 6 0 a 0 0
unfolding entry_bytes
negation-bytes d ks a = refl

module _ (s : Scene) (es : List Entry) (o : Operator) (base n a : ℕ) (image : List ℕ) (room : length s.under ≡ 41108) (low : base ≤ 6164) (t : Stands s base image es n) where
  pair : Entry
  pair = two (binary_of o) (first_of o a (last es)) (first_of o (last es) a)

  all : List Entry
  all = es ++ made o a (last es) (length es)

  all-is : all ≡ es ++ (pair ∷ also_not o (length es))
  unfolding all pair
  all-is = ap (λ x. es ++ x) (made-two o a (last es) (length es))

  few : length all ≤ 2048 → length es < 2048
  few h = omega (arith, ap length all-is, length-append es (pair ∷ also_not o (length es)))

  before : last es ≡ n - 1
  unfolding last
  before = ap (λ x. x - 1) (sym t.counted)

  module _ (says op kind x y m : ℕ) (mid : List ℕ) (h : length (es ++ made o a (last es) (length es)) ≤ 2048) (e : says ≡ of_operator o) (p : op ≡ binary_code (binary_of o))
      (k : kind ≡ kind_of_binary (binary_of o) (get_or (kinds_after s.whole [] es) a 0)) (f : x ≡ first_of o a (n - 1)) (g : y ≡ first_of o (n - 1) a) (emits : Emits base n op kind x y 0 image m mid) where
    first-stands : Stands s base mid (es ▸ pair) m
    unfolding pair all
    first-stands = emits s es pair room low (few h) t (first-bytes s.whole _ o a (last es) op kind x y p k (f ∙ ap (first_of o a) (sym before)) (g ∙ ap (λ z. first_of o z a) (sym before)))

    pub ends-one : (says ≡ 83 → ⊥) → Stands s base mid (es ++ made o a (last es) (length es)) m
    unfolding all ◌▸◌
    ends-one q = subst (λ l. Stands s base mid l m) (sym (all-is ∙ ap (λ z. es ++ (pair ∷ z)) (made_one o (length es) says e q))) first-stands

    pub ends-two : (r : ℕ) (after : List ℕ) → Emits base m 6 0 n 0 0 mid r after → says ≡ 83 → Stands s base after (es ++ made o a (last es) (length es)) r
    unfolding all
    ends-two r after also q =
        let both : all ≡ es ▸ pair ▸ negation (length es) = unfold all ◌▸◌ in all-is ∙ ap (λ z. es ++ (pair ∷ z)) (made-not o (length es) says e q) ∙ sym (append_assoc es (pair ∷ []) (negation (length es) ∷ [])) in
        let fits : length (es ▸ pair) < 2048 = omega (arith, ap length both, length_more es pair, length_more (es ▸ pair) (negation (length es))) in
        subst (λ l. Stands s base after l r) (sym both)
        (also s (es ▸ pair) (negation (length es)) room low fits first-stands (negation-bytes s.whole _ (length es) ∙ ap (λ z. Assemble.expr 6 0 z 0 0) (sym t.counted)))
