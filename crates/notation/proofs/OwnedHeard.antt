-- What the words of a variable add to a draft.
use Prim.Native.Nat.{ℕ, zero, suc, ◌-◌}
use mathlib.Core.Path.{◌≡◌, refl, ◌∙◌, ap}
use mathlib.Core.Bool.{Bool, true, false}
use mathlib.Core.List.{List, [], ◌∷◌}
use mathlib.Core.Option.{Option, none, some}
use native.Mathlib.Omega.{arith}
use borrow.Author.Tests.{leb-true}
use lib.ListN.{length, length-append}
use lib.Dec.{ltb}
use Rattle.grammar.specs.Leads.{value_from}
use Rattle.notation.specs.Sayings.{Kind, boolean, integer, float, initial_truth, initial_whole, initial_bits}
use Rattle.notation.specs.Numbers.{flag, signed, signed_bits}
use Rattle.notation.specs.Draft.{Variable, Draft, with_variables, with_mentions, with_initial}
use Rattle.notation.specs.Hearing as Hearing
use Rattle.notation.specs.Hearing.{◌▸◌, at_last, last, here}
use Rattle.notation.specs.Abstract.{Own, is_constant, FineOwned, FineInitial, own_variable, all_owned}
use Rattle.notation.specs.Writing as Writing
use Rattle.notation.specs.Writing.{Word, named, numeral, constant_words, initial_words, owned_words}
use Rattle.notation.proofs.FormulasHeard.{hear_word, hear_words, words_append, whole-low, whole_word, bits-low, bits-high}

-- ---- one more at the end
pub at-last : {A : Type 0} (f : A → A) (l : List A) (a : A) → at_last f (l ▸ a) ≡ l ▸ f a
unfolding at_last ◌▸◌
at-last f [] a = refl
at-last f (x ∷ []) a = refl
at-last f (x ∷ (y ∷ l)) a = ap (λ m. x ∷ m) (at-last f (y ∷ l) a)

pub last-is : {A : Type 0} (l : List A) (a : A) → last (l ▸ a) ≡ length l
unfolding last ◌▸◌
last-is l a = omega (arith, length-append l (a ∷ []))

-- ---- variables
pub initial-heard : (k : Kind) (w : ℕ) (vs : List Variable) (v : Variable) (d : Draft) → is_constant k w ≡ true
    → hear_words (constant_words initial_truth initial_whole initial_bits k w) (with_mentions [] (with_variables (vs ▸ v) d)) ≡ with_mentions [] (with_variables (vs ▸ with_initial w v) d)
unfolding constant_words hear_words hear_word Hearing.hear Hearing.on_variable flag is_constant
initial-heard k w vs v d e = go k w e
  where
    told : (w : ℕ) → with_mentions [] (with_variables (at_last (with_initial w) (vs ▸ v)) d) ≡ with_mentions [] (with_variables (vs ▸ with_initial w v) d)
    told w = ap (λ l. with_mentions [] (with_variables l d)) (at-last (with_initial w) vs v)

    by : (a w : ℕ) → a ≡ w → with_mentions [] (with_variables (at_last (with_initial a) (vs ▸ v)) d) ≡ with_mentions [] (with_variables (vs ▸ with_initial w v) d)
    by a w q = ap (λ (m : ℕ). with_mentions [] (with_variables (at_last (with_initial m) (vs ▸ v)) d)) q ∙ told w

    go : (k : Kind) (w : ℕ) → is_constant k w ≡ true
        → hear_words (constant_words initial_truth initial_whole initial_bits k w) (with_mentions [] (with_variables (vs ▸ v) d)) ≡ with_mentions [] (with_variables (vs ▸ with_initial w v) d)
    go boolean zero e = told 0
    go boolean (suc zero) e = told 1
    go boolean (suc (suc n)) e = absurd (omega (arith, leb-true (suc (suc n)) 1 e))
    go integer n e = split (ltb n 9223372036854775808) refl
      where
        split : (b : Bool) → ltb n 9223372036854775808 ≡ b
            → hear_words (elim b as (λ _. List Word) [ true ↦ named (initial_whole false) (numeral n) ∷ [] | false ↦ Writing.silent "-" ∷ named (initial_whole true) (numeral (18446744073709551616 - n)) ∷ [] ])
            (with_mentions [] (with_variables (vs ▸ v) d)) ≡ with_mentions [] (with_variables (vs ▸ with_initial n v) d)
        split true l = by (signed false (value_from 0 (numeral n))) n (whole-low n l)
        split false l = by (signed true (value_from 0 (numeral (18446744073709551616 - n)))) n (whole_word n e l)
    go float n e = split (ltb n 9223372036854775808) refl
      where
        split : (b : Bool) → ltb n 9223372036854775808 ≡ b
            → hear_words (elim b as (λ _. List Word) [
              | true ↦ Writing.silent "RealBits" ∷ Writing.silent "(" ∷ named (initial_bits false) (numeral n) ∷ Writing.silent ")" ∷ []
              | false ↦ Writing.silent "-" ∷ Writing.silent "RealBits" ∷ Writing.silent "(" ∷ named (initial_bits true) (numeral (n - 9223372036854775808)) ∷ Writing.silent ")" ∷ []
            ])
            (with_mentions [] (with_variables (vs ▸ v) d)) ≡ with_mentions [] (with_variables (vs ▸ with_initial n v) d)
        split true l = by (signed_bits false (value_from 0 (numeral n))) n (bits-low n e l)
        split false l = by (signed_bits true (value_from 0 (numeral (n - 9223372036854775808)))) n (bits-high n e l)

pub owned-heard : (os : List Own) (d : Draft) → FineOwned os → hear_words (owned_words os) (with_mentions [] d) ≡ with_mentions [] (with_variables (all_owned (here d) os d.variables) d)
unfolding owned_words hear_words hear_word Hearing.hear Hearing.mentioning all_owned initial_words own_variable
owned-heard [] d h = refl
owned-heard (o ∷ os) d h =
    words_append (initial_words o.kind o.initial) (Writing.silent "}" ∷ owned_words os) (with_mentions [] (with_variables (d.variables ▸ own_variable (here d) o.name o.kind none) d))
    ∙ ap (λ z. hear_words (owned_words os) (hear_word (Writing.silent "}") z)) (declared o.initial h.1)
    ∙ owned-heard os (with_variables (d.variables ▸ own_variable (here d) o.name o.kind o.initial) d) h.2
  where
    declared : (i : Option ℕ) → FineInitial o.kind i
        → hear_words (initial_words o.kind i) (with_mentions [] (with_variables (d.variables ▸ own_variable (here d) o.name o.kind none) d))
        ≡ with_mentions [] (with_variables (d.variables ▸ own_variable (here d) o.name o.kind i) d)
    declared none f = refl
    declared (some w) f =
        words_append (constant_words initial_truth initial_whole initial_bits o.kind w) (Writing.silent ";" ∷ []) _
        ∙ ap (hear_word (Writing.silent ";")) (initial-heard o.kind w d.variables (own_variable (here d) o.name o.kind none) d f)
