-- Constants by the numbers of what is said.
use Prim.Native.Nat.{ℕ, ◌-◌, ◌≤◌, ◌<◌}
use mathlib.Core.Path.{◌≡◌, refl, ◌∙◌, ap}
use mathlib.Core.Bool.{true, false}
use mathlib.Core.List.{List, [], ◌∷◌}
use native.Mathlib.Omega.{arith}
use lib.ListN.{get_or}
use lib.Dec.{eqb}
use Rattle.grammar.specs.Spelling.{Token, Placed}
use Rattle.grammar.specs.Leads.{is_number, value_from}
use Rattle.plexil.specs.Assemble as Assemble
use Rattle.notation.specs.Sayings.{boolean, integer, float, Saying}
use Rattle.notation.specs.Phrases.{Leaf, is-truth, is_whole, is-decimal, is-bits, is-unknown, is-lookup}
use Rattle.notation.specs.Numbers.{flag, signed, real_bits, signed_bits}
use Rattle.notation.specs.Draft.{Entry, Mentioned, Pending, Draft}
use Rattle.notation.specs.Hearing as Hearing
use Rattle.notation.specs.Hearing.{hear, ◌▸◌}
use Rattle.notation.specs.Mapping.{entry_bytes, kind_code}
use Rattle.words.specs.Exact.{exact}
use Rattle.build.specs.Flow as Flow
use Rattle.build.specs.Flow.{code_of}
use Rattle.build.specs.Standing.{within}
use Rattle.build.specs.Hearsay.{Apt}
use Rattle.build.specs.Literals as Literals
use Rattle.build.specs.Literals.{leaf_entry, word_of, known_of, kind_of}

-- what a leaf adds to the draft
pub leaf-hears : (x : Saying) → Leaf x → (t : Placed) (d : Draft) (es : List Entry) (ms : List Mentioned) (ps : List Pending)
    → hear x t (within d es ms ps) ≡ within d (es ▸ leaf_entry x t.bytes) (hear x t (within d es ms ps)).mentions ps
unfolding hear Hearing.adding Hearing.mentioning leaf_entry
leaf-hears _ (is-truth b) t d es ms ps = refl
leaf-hears _ (is_whole b) t d es ms ps = refl
leaf-hears _ (is-decimal b) t d es ms ps = refl
leaf-hears _ (is-bits b) t d es ms ps = refl
leaf-hears _ (is-unknown k) t d es ms ps = refl
leaf-hears _ is-lookup t d es ms ps = refl

pub literal-bytes : (x : Saying) → Leaf x → (d : Draft) (ks : List ℕ) (t : Token) → code_of x < 42 → entry_bytes d ks (leaf_entry x t) ≡ Assemble.expr 0 (kind_of x) 0 (known_of x) (word_of x t)
unfolding entry_bytes Literals.opened kind_code code_of
literal-bytes _ (is-truth b) d ks t h = refl
literal-bytes _ (is_whole b) d ks t h = refl
literal-bytes _ (is-decimal b) d ks t h = refl
literal-bytes _ (is-bits b) d ks t h = refl
literal-bytes _ (is-unknown k) d ks t h = refl
literal-bytes _ is-lookup d ks t h = absurd (omega arith)

pub leaf-range : (x : Saying) → Leaf x → (31 ≤ code_of x) × (code_of x ≤ 42)
unfolding Flow.opened
leaf-range _ (is-truth true) = (omega arith, omega arith)
leaf-range _ (is-truth false) = (omega arith, omega arith)
leaf-range _ (is_whole true) = (omega arith, omega arith)
leaf-range _ (is_whole false) = (omega arith, omega arith)
leaf-range _ (is-decimal true) = (omega arith, omega arith)
leaf-range _ (is-decimal false) = (omega arith, omega arith)
leaf-range _ (is-bits true) = (omega arith, omega arith)
leaf-range _ (is-bits false) = (omega arith, omega arith)
leaf-range _ (is-unknown boolean) = (omega arith, omega arith)
leaf-range _ (is-unknown integer) = (omega arith, omega arith)
leaf-range _ (is-unknown float) = (omega arith, omega arith)
leaf-range _ is-lookup = (omega arith, omega arith)

pub kinds-are : (x : Saying) → Leaf x → (n : ℕ) → n ≡ code_of x → n < 42 → get_or (0 ∷ 0 ∷ 1 ∷ 1 ∷ 2 ∷ 2 ∷ 2 ∷ 2 ∷ 0 ∷ 1 ∷ 2 ∷ []) (n - 31) 0 ≡ kind_of x
unfolding Flow.opened kind_of kind_code
kinds-are _ (is-truth true) n e h = ap (λ z. get_or (0 ∷ 0 ∷ 1 ∷ 1 ∷ 2 ∷ 2 ∷ 2 ∷ 2 ∷ 0 ∷ 1 ∷ 2 ∷ []) (z - 31) 0) e
kinds-are _ (is-truth false) n e h = ap (λ z. get_or (0 ∷ 0 ∷ 1 ∷ 1 ∷ 2 ∷ 2 ∷ 2 ∷ 2 ∷ 0 ∷ 1 ∷ 2 ∷ []) (z - 31) 0) e
kinds-are _ (is_whole true) n e h = ap (λ z. get_or (0 ∷ 0 ∷ 1 ∷ 1 ∷ 2 ∷ 2 ∷ 2 ∷ 2 ∷ 0 ∷ 1 ∷ 2 ∷ []) (z - 31) 0) e
kinds-are _ (is_whole false) n e h = ap (λ z. get_or (0 ∷ 0 ∷ 1 ∷ 1 ∷ 2 ∷ 2 ∷ 2 ∷ 2 ∷ 0 ∷ 1 ∷ 2 ∷ []) (z - 31) 0) e
kinds-are _ (is-decimal true) n e h = ap (λ z. get_or (0 ∷ 0 ∷ 1 ∷ 1 ∷ 2 ∷ 2 ∷ 2 ∷ 2 ∷ 0 ∷ 1 ∷ 2 ∷ []) (z - 31) 0) e
kinds-are _ (is-decimal false) n e h = ap (λ z. get_or (0 ∷ 0 ∷ 1 ∷ 1 ∷ 2 ∷ 2 ∷ 2 ∷ 2 ∷ 0 ∷ 1 ∷ 2 ∷ []) (z - 31) 0) e
kinds-are _ (is-bits true) n e h = ap (λ z. get_or (0 ∷ 0 ∷ 1 ∷ 1 ∷ 2 ∷ 2 ∷ 2 ∷ 2 ∷ 0 ∷ 1 ∷ 2 ∷ []) (z - 31) 0) e
kinds-are _ (is-bits false) n e h = ap (λ z. get_or (0 ∷ 0 ∷ 1 ∷ 1 ∷ 2 ∷ 2 ∷ 2 ∷ 2 ∷ 0 ∷ 1 ∷ 2 ∷ []) (z - 31) 0) e
kinds-are _ (is-unknown boolean) n e h = ap (λ z. get_or (0 ∷ 0 ∷ 1 ∷ 1 ∷ 2 ∷ 2 ∷ 2 ∷ 2 ∷ 0 ∷ 1 ∷ 2 ∷ []) (z - 31) 0) e
kinds-are _ (is-unknown integer) n e h = ap (λ z. get_or (0 ∷ 0 ∷ 1 ∷ 1 ∷ 2 ∷ 2 ∷ 2 ∷ 2 ∷ 0 ∷ 1 ∷ 2 ∷ []) (z - 31) 0) e
kinds-are _ (is-unknown float) n e h = ap (λ z. get_or (0 ∷ 0 ∷ 1 ∷ 1 ∷ 2 ∷ 2 ∷ 2 ∷ 2 ∷ 0 ∷ 1 ∷ 2 ∷ []) (z - 31) 0) e
kinds-are _ is-lookup n e h = absurd (omega arith)

pub known-are : (x : Saying) → Leaf x → (n : ℕ) → n ≡ code_of x → n < 39 → 1 ≡ known_of x
unfolding Flow.opened known_of
known-are _ (is-truth true) n e h = refl
known-are _ (is-truth false) n e h = refl
known-are _ (is_whole true) n e h = refl
known-are _ (is_whole false) n e h = refl
known-are _ (is-decimal true) n e h = refl
known-are _ (is-decimal false) n e h = refl
known-are _ (is-bits true) n e h = refl
known-are _ (is-bits false) n e h = refl
known-are _ (is-unknown boolean) n e h = absurd (omega arith)
known-are _ (is-unknown integer) n e h = absurd (omega arith)
known-are _ (is-unknown float) n e h = absurd (omega arith)
known-are _ is-lookup n e h = absurd (omega arith)

pub unknown-are : (x : Saying) → Leaf x → (n : ℕ) → n ≡ code_of x → 39 ≤ n → 0 ≡ known_of x
unfolding Flow.opened known_of
unknown-are _ (is-truth true) n e h = absurd (omega arith)
unknown-are _ (is-truth false) n e h = absurd (omega arith)
unknown-are _ (is_whole true) n e h = absurd (omega arith)
unknown-are _ (is_whole false) n e h = absurd (omega arith)
unknown-are _ (is-decimal true) n e h = absurd (omega arith)
unknown-are _ (is-decimal false) n e h = absurd (omega arith)
unknown-are _ (is-bits true) n e h = absurd (omega arith)
unknown-are _ (is-bits false) n e h = absurd (omega arith)
unknown-are _ (is-unknown boolean) n e h = refl
unknown-are _ (is-unknown integer) n e h = refl
unknown-are _ (is-unknown float) n e h = refl
unknown-are _ is-lookup n e h = refl

module _ (t : Token) where
  pub no_word : (x : Saying) → Leaf x → (n : ℕ) → n ≡ code_of x → 39 ≤ n → 0 ≡ word_of x t
  unfolding Flow.opened word_of
  no_word _ (is-truth true) n e h = absurd (omega arith)
  no_word _ (is-truth false) n e h = absurd (omega arith)
  no_word _ (is_whole true) n e h = absurd (omega arith)
  no_word _ (is_whole false) n e h = absurd (omega arith)
  no_word _ (is-decimal true) n e h = absurd (omega arith)
  no_word _ (is-decimal false) n e h = absurd (omega arith)
  no_word _ (is-bits true) n e h = absurd (omega arith)
  no_word _ (is-bits false) n e h = absurd (omega arith)
  no_word _ (is-unknown boolean) n e h = refl
  no_word _ (is-unknown integer) n e h = refl
  no_word _ (is-unknown float) n e h = refl
  no_word _ is-lookup n e h = refl

  pub true-word : (x : Saying) → Leaf x → (n : ℕ) → n ≡ code_of x → n ≡ 32 → 1 ≡ word_of x t
  unfolding Flow.opened word_of flag
  true-word _ (is-truth true) n e h = refl
  true-word _ (is-truth false) n e h = absurd (omega arith)
  true-word _ (is_whole true) n e h = absurd (omega arith)
  true-word _ (is_whole false) n e h = absurd (omega arith)
  true-word _ (is-decimal true) n e h = absurd (omega arith)
  true-word _ (is-decimal false) n e h = absurd (omega arith)
  true-word _ (is-bits true) n e h = absurd (omega arith)
  true-word _ (is-bits false) n e h = absurd (omega arith)
  true-word _ (is-unknown boolean) n e h = absurd (omega arith)
  true-word _ (is-unknown integer) n e h = absurd (omega arith)
  true-word _ (is-unknown float) n e h = absurd (omega arith)
  true-word _ is-lookup n e h = absurd (omega arith)

  pub false-word : (x : Saying) → Leaf x → (n : ℕ) → n ≡ code_of x → n < 33 → (n ≡ 32 → ⊥) → 0 ≡ word_of x t
  unfolding Flow.opened word_of flag
  false-word _ (is-truth true) n e h g = absurd (g e)
  false-word _ (is-truth false) n e h g = refl
  false-word _ (is_whole true) n e h g = absurd (omega arith)
  false-word _ (is_whole false) n e h g = absurd (omega arith)
  false-word _ (is-decimal true) n e h g = absurd (omega arith)
  false-word _ (is-decimal false) n e h g = absurd (omega arith)
  false-word _ (is-bits true) n e h g = absurd (omega arith)
  false-word _ (is-bits false) n e h g = absurd (omega arith)
  false-word _ (is-unknown boolean) n e h g = absurd (omega arith)
  false-word _ (is-unknown integer) n e h g = absurd (omega arith)
  false-word _ (is-unknown float) n e h g = absurd (omega arith)
  false-word _ is-lookup n e h g = absurd (omega arith)

  pub whole_word : (x : Saying) → Leaf x → (n m r : ℕ) → n ≡ code_of x → 33 ≤ n → n < 35 → Apt x t → (is_number t ≡ true → value_from 0 t ≤ 9223372036854775808 → m ≡ value_from 0 t) → r ≡ signed (eqb n 34) m → r ≡ word_of x t
  unfolding Flow.opened word_of Apt
  whole_word _ (is-truth true) n m r e h g a q p = absurd (omega arith)
  whole_word _ (is-truth false) n m r e h g a q p = absurd (omega arith)
  whole_word _ (is_whole true) n m r e h g a q p = p ∙ ap (λ z. signed (eqb z 34) m) e ∙ ap (signed true) (q a.0 a.1)
  whole_word _ (is_whole false) n m r e h g a q p = p ∙ ap (λ z. signed (eqb z 34) m) e ∙ ap (signed false) (q a.0 a.1)
  whole_word _ (is-decimal true) n m r e h g a q p = absurd (omega arith)
  whole_word _ (is-decimal false) n m r e h g a q p = absurd (omega arith)
  whole_word _ (is-bits true) n m r e h g a q p = absurd (omega arith)
  whole_word _ (is-bits false) n m r e h g a q p = absurd (omega arith)
  whole_word _ (is-unknown boolean) n m r e h g a q p = absurd (omega arith)
  whole_word _ (is-unknown integer) n m r e h g a q p = absurd (omega arith)
  whole_word _ (is-unknown float) n m r e h g a q p = absurd (omega arith)
  whole_word _ is-lookup n m r e h g a q p = absurd (omega arith)

  pub decimal-word : (x : Saying) → Leaf x → (n r : ℕ) → n ≡ code_of x → 35 ≤ n → n < 37 → Apt x t → (exact t ≡ true → r ≡ real_bits (eqb n 36) t) → r ≡ word_of x t
  unfolding Flow.opened word_of Apt
  decimal-word _ (is-truth true) n r e h g a q = absurd (omega arith)
  decimal-word _ (is-truth false) n r e h g a q = absurd (omega arith)
  decimal-word _ (is_whole true) n r e h g a q = absurd (omega arith)
  decimal-word _ (is_whole false) n r e h g a q = absurd (omega arith)
  decimal-word _ (is-decimal true) n r e h g a q = q a ∙ ap (λ z. real_bits (eqb z 36) t) e
  decimal-word _ (is-decimal false) n r e h g a q = q a ∙ ap (λ z. real_bits (eqb z 36) t) e
  decimal-word _ (is-bits true) n r e h g a q = absurd (omega arith)
  decimal-word _ (is-bits false) n r e h g a q = absurd (omega arith)
  decimal-word _ (is-unknown boolean) n r e h g a q = absurd (omega arith)
  decimal-word _ (is-unknown integer) n r e h g a q = absurd (omega arith)
  decimal-word _ (is-unknown float) n r e h g a q = absurd (omega arith)
  decimal-word _ is-lookup n r e h g a q = absurd (omega arith)

  pub bits-word : (x : Saying) → Leaf x → (n m r : ℕ) → n ≡ code_of x → 37 ≤ n → n < 39 → Apt x t → (is_number t ≡ true → value_from 0 t ≤ 9223372036854775808 → m ≡ value_from 0 t) → (m < 9223372036854775808 → r ≡ signed_bits (eqb n 38) m) → r ≡ word_of x t
  unfolding Flow.opened word_of Apt
  bits-word _ (is-truth true) n m r e h g a q p = absurd (omega arith)
  bits-word _ (is-truth false) n m r e h g a q p = absurd (omega arith)
  bits-word _ (is_whole true) n m r e h g a q p = absurd (omega arith)
  bits-word _ (is_whole false) n m r e h g a q p = absurd (omega arith)
  bits-word _ (is-decimal true) n m r e h g a q p = absurd (omega arith)
  bits-word _ (is-decimal false) n m r e h g a q p = absurd (omega arith)
  bits-word _ (is-bits true) n m r e h g a q p = let v = q a.0 (omega (arith, a.1)) in p (omega (arith, a.1)) ∙ ap (λ z. signed_bits (eqb z 38) m) e ∙ ap (signed_bits true) v
  bits-word _ (is-bits false) n m r e h g a q p = let v = q a.0 (omega (arith, a.1)) in p (omega (arith, a.1)) ∙ ap (λ z. signed_bits (eqb z 38) m) e ∙ ap (signed_bits false) v
  bits-word _ (is-unknown boolean) n m r e h g a q p = absurd (omega arith)
  bits-word _ (is-unknown integer) n m r e h g a q p = absurd (omega arith)
  bits-word _ (is-unknown float) n m r e h g a q p = absurd (omega arith)
  bits-word _ is-lookup n m r e h g a q p = absurd (omega arith)

pub literal-expr : (x : Saying) → Leaf x → (d : Draft) (ks : List ℕ) (t : Token) (n k b w : ℕ) → n ≡ code_of x → n < 42 → k ≡ kind_of x → b ≡ known_of x → w ≡ word_of x t
    → entry_bytes d ks (leaf_entry x t) ≡ Assemble.expr 0 k 0 b w
literal-expr x l d ks t n k b w e h p q r = cc (literal-bytes x l d ks t (omega arith))
