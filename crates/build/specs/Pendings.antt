-- Operators whose right operand has not ended, as they are kept in an array: at each place three numbers.
use Rattle.std.specs.Prelude.{ℕ, suc, ◌+◌, ◌-◌, ◌*◌, ◌≤◌, ◌<◌, ◌%◌, ◌≡◌, Bool, true, false, List, [], ◌∷◌, length, get_or, set}
use Rattle.notation.specs.Sayings.{Operator}
use Rattle.notation.specs.Draft.{Pending, prefix, paren, infix'}
use Rattle.notation.specs.Hearing.{strength}
use Rattle.recognise.specs.declared.Cursor.{Cursor}
use Rattle.recognise.specs.Tape.{Tape}
use Rattle.build.specs.Flow.{binding, of_operator}
use Rattle.build.specs.Known.{Tables, Known}
use Rattle.build.specs.Standing.{Scene, Fair, parens}
use Rattle.build.specs.Operators.{Binds, Ends}
use Rattle.build.specs.Steps.{Due, Met, Past, Emits}

-- how many parentheses, and how many operators, are pending
unfoldable pub opens : List Pending → ℕ
opens [] = 0
opens (paren ∷ ps) = suc (opens ps)
opens (prefix ∷ ps) = opens ps
opens (infix' o a ∷ ps) = opens ps

unfoldable pub operators : List Pending → ℕ
operators [] = 0
operators (paren ∷ ps) = operators ps
operators (prefix ∷ ps) = suc (operators ps)
operators (infix' o a ∷ ps) = suc (operators ps)

-- the left operands are among the first n entries
unfoldable pub Lefts : ℕ → List Pending → Type 0
Lefts n [] = Unit {0}
Lefts n (paren ∷ ps) = Lefts n ps
Lefts n (prefix ∷ ps) = Lefts n ps
Lefts n (infix' o a ∷ ps) = (a < n) × Lefts n ps

-- the places 1 to t of the array a have the operators of ps: an operator's saying (79 NOT), its left operand's entry, and how many parentheses are open after it; place 0 has those before the first operator
pub data Kept (a : List ℕ) : ℕ → List Pending → Type 0 where
  none : Kept a 0 (parens (get_or a 2 0) [])
  not : {t : ℕ} {ps : List Pending} → get_or a (3 * suc t) 0 ≡ 79 → Kept a t ps → Kept a (suc t) (parens (get_or a (3 * suc t + 2) 0) (prefix ∷ ps))
  operator : {t : ℕ} {ps : List Pending} (o : Operator) → get_or a (3 * suc t) 0 ≡ of_operator o → Kept a t ps → Kept a (suc t) (parens (get_or a (3 * suc t + 2) 0) (infix' o (get_or a (3 * suc t + 1) 0) ∷ ps))

-- how many numbers the array has: 2049 places
abbrev pub places : ℕ
places = 6147

-- ---- where a reader stands, with what is pending in the array
pub record DueBy (u : List ℕ) (s : Scene) (base : ℕ) (a : List ℕ) (top size : ℕ) (at : Cursor) (count : ℕ) (image : List ℕ) : Type 0 where
  pub pending : List Pending
  pub kept : Kept a top pending
  pub lefts : Lefts count pending
  pub due : Due u s base (opens pending) pending size at count image

pub record MetBy (u : List ℕ) (s : Scene) (base : ℕ) (a : List ℕ) (top size : ℕ) (at : Cursor) (count : ℕ) (image : List ℕ) : Type 0 where
  pub pending : List Pending
  pub kept : Kept a top pending
  pub lefts : Lefts count pending
  pub met : Met u s base (opens pending) pending size at count image

pub record PastBy (u : List ℕ) (s : Scene) (base : ℕ) (a : List ℕ) (top size : ℕ) (at : Cursor) (count : ℕ) (image : List ℕ) : Type 0 where
  pub pending : List Pending
  pub kept : Kept a top pending
  pub lefts : Lefts count pending
  pub past : Past u s base (opens pending) pending size at count image

-- how strongly the operator of that number binds, NOT among them
pub record Weighs (says r : ℕ) : Type 0 where
  pub tells : (o : Operator) → says ≡ of_operator o → r ≡ strength o
  pub not : says ≡ 79 → r ≡ 3

-- nothing that is kept up to place t ends before what binds with strength k: no operator is kept, a parenthesis is open, or the last operator binds more weakly
pub data Held (a : List ℕ) (k : ℕ) : ℕ → Type 0 where
  empty : Held a k 0
  group : {t : ℕ} → (get_or a (3 * t + 2) 0 ≡ 0 → ⊥) → Held a k t
  weaker : {t r : ℕ} → Weighs (get_or a (3 * suc t) 0 % 256) r → r < k → Held a k (suc t)

-- one more operator is kept; a parenthesis opens; it closes
abbrev pub Pushed : List ℕ → ℕ → ℕ → ℕ → ℕ → List ℕ → Type 0
Pushed a top says first r b = length a ≡ places → top < 2048 → (r ≡ top + 1) × (b ≡ set (set (set a (3 * (top + 1)) says) (3 * (top + 1) + 1) first) (3 * (top + 1) + 2) 0)

abbrev pub Raised : List ℕ → ℕ → List ℕ → Type 0
Raised a top b = length a ≡ places → top ≤ 2048 → get_or a (3 * top + 2) 0 < 18446744073709551615 → b ≡ set a (3 * top + 2) (get_or a (3 * top + 2) 0 + 1)

abbrev pub Lowered : List ℕ → ℕ → List ℕ → Type 0
Lowered a top b = length a ≡ places → top ≤ 2048 → b ≡ set a (3 * top + 2) (get_or a (3 * top + 2) 0 - 1)

-- one operator ends
abbrev pub EndsOne : ℕ → ℕ → ℕ → ℕ → List ℕ → ℕ → List ℕ → Type 0
EndsOne base n says a image r after = (says ≡ 79 → Emits base n 6 0 (n - 1) 0 0 image r after) × ((says ≡ 79 → ⊥) → Ends base n says a image r after)

abbrev pub EndsAt : ℕ → List ℕ → ℕ → ℕ → List ℕ → ℕ → List ℕ → Type 0
EndsAt base a t n image r after = t ≤ 2048 → EndsOne base n (get_or a (3 * t) 0 % 256) (get_or a (3 * t + 1) 0) image r after

-- "(" or NOT, and it is kept
abbrev pub IsPrefix : ℕ → Bool → Type 0
IsPrefix says r = (r ≡ false → (says ≡ 91 → ⊥) × (says ≡ 79 → ⊥)) × (r ≡ true → (says ≡ 91 → ⊥) → says ≡ 79)

abbrev pub Keeps : List ℕ → ℕ → ℕ → ℕ → List ℕ → Type 0
Keeps a top says r b = (says ≡ 91 → Raised a top b × (r ≡ top)) × ((says ≡ 91 → ⊥) → Pushed a top 79 0 r b)

-- the operator at a place is held, or it ends
abbrev pub IsHeld : List ℕ → ℕ → ℕ → Bool → Type 0
IsHeld a t k r = t ≤ 2048 → (r ≡ true → 0 < t → Held a k t) × (r ≡ false → (get_or a (3 * t + 2) 0 ≡ 0) × (w : ℕ) × Weighs (get_or a (3 * t) 0 % 256) w × (k ≤ w))

-- parentheses and NOTs before an operand are passed
abbrev pub Prefixes : List ℕ → List ℕ → ℕ → ℕ → Cursor → List ℕ → Cursor → ℕ → List ℕ → Type 0
Prefixes u os left top c a r up b =
    Tape u os → (s : Scene) (node base size count : ℕ) (image : List ℕ) → length a ≡ places → Fair s node base → s.whole.pending ≡ [] → size ≤ left → DueBy u s base a top size c count image
    → MetBy u s base b up size r count image × (r.says ≡ 91 → ⊥) × (r.says ≡ 79 → ⊥) × (length b ≡ places)

-- the operators that bind at least as strongly as k end
abbrev pub Unwinds : ℕ → List ℕ → ℕ → ℕ → ℕ → List ℕ → ℕ → ℕ → List ℕ → Type 0
Unwinds base a top n k image up m after =
    (u : List ℕ) (s : Scene) (node size : ℕ) (c : Cursor) → length a ≡ places → Fair s node base → s.whole.pending ≡ [] → Binds c.says k → PastBy u s base a top size c n image
    → PastBy u s base a up size c m after × Held a k up × (n ≤ m)

-- after an operand: what is said next ends what it ends, and parentheses close
abbrev pub Follows : List ℕ → List ℕ → ℕ → ℕ → ℕ → Cursor → ℕ → List ℕ → List ℕ → Cursor → ℕ → ℕ → List ℕ → List ℕ → Type 0
Follows u os base left top c n a image r up m b after =
    Tape u os → (s : Scene) (node size : ℕ) → length a ≡ places → Fair s node base → s.whole.pending ≡ [] → size ≤ left → PastBy u s base a top size c n image
    → PastBy u s base b up size r m after × (r.says ≡ 92 → ⊥) × (k : ℕ) × Binds r.says k × Held b k up × (n ≤ m) × (length b ≡ places)

-- an expression is read to its end; A is asked of the array, and B holds of it then
abbrev pub ReadsBy : Type 0 → Type 0 → List ℕ → Tables → ℕ → ℕ → ℕ → Cursor → ℕ → List ℕ → Cursor → ℕ → List ℕ → Type 0
ReadsBy A B u t node base left c count image r many after =
    (s : Scene) (size : ℕ) → A → Known u s.whole t → Fair s node base → s.whole.pending ≡ [] → size ≤ left → Due u s base 0 [] size c count image
    → (p : Past u s base 0 [] size r many after) × (binding p.next.what < 1) × B

abbrev pub Reads : List ℕ → Tables → ℕ → ℕ → ℕ → Cursor → ℕ → List ℕ → List ℕ → Cursor → ℕ → List ℕ → List ℕ → Type 0
Reads u t node base left c count a image r many b after = ReadsBy (length a ≡ places) (length b ≡ places) u t node base left c count image r many after

-- opens every definition of this file
unfoldable pub opened : Unit {0}
unfolding opens operators Lefts
opened = tt
