-- The words of a constant, a path and a question follow the rows of an operand.
use Prim.Native.Nat.{ℕ, zero, suc, ◌-◌, ◌≤◌, ◌<◌}
use mathlib.Core.Path.{◌≡◌, refl}
use mathlib.Core.Bool.{Bool, true, false, false≢true}
use mathlib.Core.List.Memᴰ
use mathlib.Core.List.{List, [], ◌∷◌}
use native.Mathlib.Omega.{arith}
use borrow.Author.Tests.{leb-true, ltb-true, ltb-false, lt-leb}
use lib.ListN.{length}
use lib.Dec.{leb, ltb}
use Rattle.grammar.specs.Spelling as Spelling
use Rattle.grammar.specs.Spelling.{Token}
use Rattle.grammar.specs.Leads as Leads
use Rattle.grammar.specs.Leads.{name, up_to}
use Rattle.grammar.specs.Table.{Item, lit, sort, pick}
use Rattle.grammar.proofs.Bools.{both}
use Rattle.notation.specs.Sayings.{Kind, boolean, integer, float, What, status, outcome, failure, truth, whole, bits, descends, asks}
use Rattle.notation.specs.Rows.{Close, Sort, operand, operator, after_name, after_path, negative, property, code, pattern, code_words, ◌↣◌says◌}
use Rattle.notation.specs.Rows as Table
use Rattle.notation.specs.Abstract.{AreNames, is_constant}
use Rattle.notation.specs.Writing as Writing
use Rattle.notation.specs.Writing.{Word, named, numeral, constant_words, word_at, part_words, question_words}
use Rattle.notation.proofs.Goes.{Goes, stop, step, by_row}
use Rattle.notation.proofs.Numerals.{numeral-accepted}

-- what may be to come after an operand
pub data After (c : Close) : Sort → Type 0 where
  is_operator : After c (operator c)
  is_name : After c (after_name c)

-- what may be to come after a part of a path
pub data Dot (c : Close) : Sort → Type 0 where
  first : Dot c (after_name c)
  later : Dot c (after_path c)

-- ---- constants
pub finite-low : (n : ℕ) → is_constant float n ≡ true → ltb n 9223372036854775808 ≡ true → n ≤ 9218868437227405311
unfolding is_constant
finite-low n e l = go (leb n 9218868437227405311) refl
  where
    low : n < 9223372036854775808
    low = ltb-true n 9223372036854775808 l

    go : (b : Bool) → leb n 9218868437227405311 ≡ b → n ≤ 9218868437227405311
    go true q = leb-true n 9218868437227405311 q
    go false q = absurd (false≢true (rw (q, lt-leb 9223372036854775808 n low) at e))

pub finite-high : (n : ℕ) → is_constant float n ≡ true → ltb n 9223372036854775808 ≡ false → n - 9223372036854775808 ≤ 9218868437227405311
unfolding is_constant
finite-high n e l = go (leb n 9218868437227405311) refl
  where
    high : 9223372036854775808 ≤ n
    high = ltb-false n 9223372036854775808 l

    go : (b : Bool) → leb n 9218868437227405311 ≡ b → n - 9223372036854775808 ≤ 9218868437227405311
    go true q = omega (arith, high, leb-true n 9218868437227405311 q)
    go false q = let h = leb-true n 18442240474082181119 (both (leb 9223372036854775808 n) (leb n 18442240474082181119) (rw q at e)).1 in omega (arith, high)

pub constant-goes : (k : Kind) (w : ℕ) (c : Close) (s : List (Item Sort)) → is_constant k w ≡ true
    → Goes (sort (operand c) ∷ s) (constant_words truth whole bits k w) (sort (operator c) ∷ s)
unfolding Table.opened Spelling.opened Leads.opened pick constant_words
constant-goes boolean zero c s e = step _ refl refl stop
constant-goes boolean (suc n) c s e = step _ refl refl stop
constant-goes integer n c s e = go (ltb n 9223372036854775808) refl
  where
    high : n ≤ 18446744073709551615
    high = unfold is_constant in leb-true n 18446744073709551615 e

    go : (b : Bool) → ltb n 9223372036854775808 ≡ b
        → Goes (sort (operand c) ∷ s) (elim b as (λ _. List Word) [ true ↦ named (whole false) (numeral n) ∷ [] | false ↦ Writing.silent "-" ∷ named (whole true) (numeral (18446744073709551616 - n)) ∷ [] ]) (sort (operator c) ∷ s)
    go true l =
        let h = ltb-true n 9223372036854775808 l in
        by_row (operand c) (up_to 9223372036854775807 ↣ sort (operator c) ∷ [] says whole false) (numeral n)
        (Memᴰ.tail (Memᴰ.tail (Memᴰ.tail (Memᴰ.tail (Memᴰ.tail (Memᴰ.tail (Memᴰ.head refl))))))) (numeral-accepted 9223372036854775807 n (omega arith) (omega arith)) stop
    go false l =
        let h = ltb-false n 9223372036854775808 l in
        step _ refl refl
        (by_row (negative c) (up_to 9223372036854775808 ↣ sort (operator c) ∷ [] says whole true) (numeral (18446744073709551616 - n))
        (Memᴰ.head refl) (numeral-accepted 9223372036854775808 (18446744073709551616 - n) (omega arith) (omega arith)) stop)
constant-goes float n c s e = go (ltb n 9223372036854775808) refl
  where
    inner : (g : Bool) (m : ℕ) → m ≤ 9218868437227405311 → Goes (lit "(" ∷ sort (pattern g) ∷ lit ")" ∷ sort (operator c) ∷ s) (Writing.silent "(" ∷ named (bits g) (numeral m) ∷ Writing.silent ")" ∷ []) (sort (operator c) ∷ s)
    inner g m h =
        step _ refl refl
        (by_row (pattern g) (up_to 9218868437227405311 ↣ [] says bits g) (numeral m) (Memᴰ.head refl) (numeral-accepted 9218868437227405311 m h (omega arith)) (step _ refl refl stop))

    go : (b : Bool) → ltb n 9223372036854775808 ≡ b
        → Goes (sort (operand c) ∷ s) (elim b as (λ _. List Word) [
          | true ↦ Writing.silent "RealBits" ∷ Writing.silent "(" ∷ named (bits false) (numeral n) ∷ Writing.silent ")" ∷ []
          | false ↦ Writing.silent "-" ∷ Writing.silent "RealBits" ∷ Writing.silent "(" ∷ named (bits true) (numeral (n - 9223372036854775808)) ∷ Writing.silent ")" ∷ []
        ]) (sort (operator c) ∷ s)
    go true l = step _ refl refl (inner false n (finite-low n e l))
    go false l = step _ refl refl (step _ refl refl (inner true (n - 9223372036854775808) (finite-high n e l)))

-- ---- paths and questions
pub parts-go : (xs : List Token) (c : Close) (z : Sort) (s : List (Item Sort)) → Dot c z → AreNames xs → (y : Sort) × Dot c y × Goes (sort z ∷ s) (part_words xs) (sort y ∷ s)
unfolding Table.opened Spelling.opened Leads.opened pick part_words
parts-go [] c z s d h = (z, d, stop)
parts-go (x ∷ xs) c z s d h =
    let r = parts-go xs c (after_path c) s later h.1 in (
      r.0,
      r.1,
      dotted z d (by_row (property c) (name ↣ sort (after_path c) ∷ [] says descends) x
          (Memᴰ.tail (Memᴰ.tail (Memᴰ.tail (Memᴰ.tail (Memᴰ.head refl))))) h.0 r.2),
    )
  where
    dotted : (z : Sort) → Dot c z → {ws : List Word} {s' : List (Item Sort)} → Goes (sort (property c) ∷ s) ws s' → Goes (sort z ∷ s) (Writing.silent "." ∷ ws) s'
    dotted z first g = step _ refl refl g
    dotted z later g = step _ refl refl g

pub code-goes : (w : What) (k : ℕ) (c : Close) (s : List (Item Sort)) → k < length (code_words w)
    → Goes (sort (code w false c) ∷ s) (named (asks w false k) (word_at (code_words w) k) ∷ []) (sort (operator c) ∷ s)
unfolding Table.opened Spelling.opened Leads.opened pick word_at
code-goes status zero c s l = step _ refl refl stop
code-goes status (suc zero) c s l = step _ refl refl stop
code-goes status (suc (suc zero)) c s l = step _ refl refl stop
code-goes status (suc (suc (suc zero))) c s l = step _ refl refl stop
code-goes status (suc (suc (suc (suc zero)))) c s l = step _ refl refl stop
code-goes status (suc (suc (suc (suc (suc zero))))) c s l = step _ refl refl stop
code-goes status (suc (suc (suc (suc (suc (suc zero)))))) c s l = step _ refl refl stop
code-goes status (suc (suc (suc (suc (suc (suc (suc k))))))) c s l = absurd (omega arith)
code-goes outcome zero c s l = step _ refl refl stop
code-goes outcome (suc zero) c s l = step _ refl refl stop
code-goes outcome (suc (suc zero)) c s l = step _ refl refl stop
code-goes outcome (suc (suc (suc zero))) c s l = step _ refl refl stop
code-goes outcome (suc (suc (suc (suc k)))) c s l = absurd (omega arith)
code-goes failure zero c s l = step _ refl refl stop
code-goes failure (suc zero) c s l = step _ refl refl stop
code-goes failure (suc (suc zero)) c s l = step _ refl refl stop
code-goes failure (suc (suc (suc zero))) c s l = step _ refl refl stop
code-goes failure (suc (suc (suc (suc zero)))) c s l = step _ refl refl stop
code-goes failure (suc (suc (suc (suc (suc zero))))) c s l = step _ refl refl stop
code-goes failure (suc (suc (suc (suc (suc (suc k)))))) c s l = absurd (omega arith)

pub question-goes : (w : What) (k : ℕ) (c : Close) (z : Sort) (s : List (Item Sort)) → Dot c z → k < length (code_words w) → Goes (sort z ∷ s) (question_words w k) (sort (operator c) ∷ s)
unfolding Table.opened Spelling.opened Leads.opened pick question_words Writing.what_word
question-goes w k c z s d l = dotted z d (asked w (code-goes w k c s l))
  where
    asked : (w : What) {ws : List Word} {s' : List (Item Sort)} → Goes (sort (code w false c) ∷ s) ws s' → Goes (sort (property c) ∷ s) (Writing.silent (Writing.what_word w) ∷ Writing.silent "==" ∷ ws) s'
    asked status g = step _ refl refl (step _ refl refl g)
    asked outcome g = step _ refl refl (step _ refl refl g)
    asked failure g = step _ refl refl (step _ refl refl g)

    dotted : (z : Sort) → Dot c z → {ws : List Word} {s' : List (Item Sort)} → Goes (sort (property c) ∷ s) ws s' → Goes (sort z ∷ s) (Writing.silent "." ∷ ws) s'
    dotted z first g = step _ refl refl g
    dotted z later g = step _ refl refl g
