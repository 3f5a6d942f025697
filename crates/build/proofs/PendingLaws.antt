-- Operators kept in an array: one more, one less, and how many there can be.
use Prim.Native.Nat.{ℕ, zero, suc, ◌+◌, ◌-◌, ◌*◌, ◌≤◌, ◌<◌}
use mathlib.Core.Path.{◌≡◌, refl, sym, ◌∙◌, ap, subst}
use mathlib.Core.List.{List, [], ◌∷◌}
use native.Mathlib.Omega.{arith}
use lib.ListN.{length, get_or, set, length-set}
use lib.Seq.{get_or-set_same, get_or-set_other}
use Rattle.notation.specs.Sayings.{Operator}
use Rattle.notation.specs.Phrases as Phrases
use Rattle.notation.specs.Phrases.{Sayings, Path}
use Rattle.notation.specs.Draft.{Pending, prefix, paren, infix'}
use Rattle.build.specs.Flow as Flow
use Rattle.build.specs.Flow.{Before, After, of_operator}
use Rattle.build.specs.Standing.{parens}
use Rattle.build.specs.Pendings.{opens, operators, Kept, none, not, operator}

-- ---- the array below a place
kept-so : (a b : List ℕ) (t : ℕ) (ps : List Pending) → ((i : ℕ) → i < 3 * suc t → get_or b i 0 ≡ get_or a i 0) → Kept a t ps → Kept b t ps
kept-so a b _ _ h none = subst (λ n. Kept b 0 (parens n [])) (h 2 (omega arith)) none
kept-so a b _ _ h (not {t} {ps} e k) =
    subst (λ n. Kept b (suc t) (parens n (prefix ∷ ps))) (h (3 * suc t + 2) (omega arith)) (not (h (3 * suc t) (omega arith) ∙ e) (kept-so a b t ps (λ i m. h i (omega arith)) k))
kept-so a b _ _ h (operator {t} {ps} o e k) =
    subst (λ n. Kept b (suc t) (parens n (infix' o (get_or a (3 * suc t + 1) 0) ∷ ps))) (h (3 * suc t + 2) (omega arith))
    (subst (λ n. Kept b (suc t) (parens (get_or b (3 * suc t + 2) 0) (infix' o n ∷ ps))) (h (3 * suc t + 1) (omega arith)) (operator o (h (3 * suc t) (omega arith) ∙ e) (kept-so a b t ps (λ i m. h i (omega arith)) k)))

-- a place's parentheses are another number
module _ (a : List ℕ) (x : ℕ) where
  others : (t i : ℕ) → i < 3 * t + 2 → get_or (set a (3 * t + 2) x) i 0 ≡ get_or a i 0
  others t i h = get_or-set_other a (3 * t + 2) i x 0 (λ e. omega arith)

  kept-nest : (t : ℕ) (ps : List Pending) → 3 * t + 2 < length a → Kept a t ps → (qs : List Pending) × (ps ≡ parens (get_or a (3 * t + 2) 0) qs) × Kept (set a (3 * t + 2) x) t (parens x qs)
  kept-nest _ _ h none =
      let e : get_or (set a 2 x) 2 0 ≡ x = get_or-set_same a 2 x 0 (omega arith) in
      ([], refl, subst (λ n. Kept (set a 2 x) 0 (parens n [])) e none)
  kept-nest _ _ h (not {t} {ps} e k) =
      let b : List ℕ = set a (3 * suc t + 2) x in
      let f : get_or b (3 * suc t + 2) 0 ≡ x = get_or-set_same a (3 * suc t + 2) x 0 h in
      (prefix ∷ ps, refl, subst (λ n. Kept b (suc t) (parens n (prefix ∷ ps))) f (not (others (suc t) (3 * suc t) (omega arith) ∙ e) (kept-so a b t ps (λ i m. others (suc t) i (omega arith)) k)))
  kept-nest _ _ h (operator {t} {ps} o e k) =
      let b : List ℕ = set a (3 * suc t + 2) x in
      let f : get_or b (3 * suc t + 2) 0 ≡ x = get_or-set_same a (3 * suc t + 2) x 0 h in
      let g : get_or b (3 * suc t + 1) 0 ≡ get_or a (3 * suc t + 1) 0 = others (suc t) (3 * suc t + 1) (omega arith) in (
        infix' o (get_or a (3 * suc t + 1) 0) ∷ ps,
        refl,
        subst (λ n. Kept b (suc t) (parens n (infix' o (get_or a (3 * suc t + 1) 0) ∷ ps))) f
            (subst (λ n. Kept b (suc t) (parens (get_or b (3 * suc t + 2) 0) (infix' o n ∷ ps))) g (operator o (others (suc t) (3 * suc t) (omega arith) ∙ e) (kept-so a b t ps (λ i m. others (suc t) i (omega arith)) k))),
      )

-- a parenthesis opens
pub kept-open : (a : List ℕ) (t : ℕ) (ps : List Pending) → 3 * t + 2 < length a → Kept a t ps → Kept (set a (3 * t + 2) (get_or a (3 * t + 2) 0 + 1)) t (paren ∷ ps)
unfolding parens
kept-open a t ps h k =
    let n : ℕ = get_or a (3 * t + 2) 0 in
    let x = kept-nest a (n + 1) t ps h k in
    let e : parens (n + 1) x.0 ≡ paren ∷ ps = (let z : n + 1 ≡ suc n = omega arith in ap (λ m. parens m x.0) z) ∙ ap (λ q. paren ∷ q) (sym x.1) in
    subst (Kept (set a (3 * t + 2) (n + 1)) t) e x.2

-- a parenthesis closes
pub kept-close : (a : List ℕ) (t : ℕ) (ps : List Pending) → 3 * t + 2 < length a → (get_or a (3 * t + 2) 0 ≡ 0 → ⊥) → Kept a t ps
    → (qs : List Pending) × (ps ≡ paren ∷ qs) × Kept (set a (3 * t + 2) (get_or a (3 * t + 2) 0 - 1)) t qs
unfolding parens
kept-close a t ps h g k =
    let n : ℕ = get_or a (3 * t + 2) 0 in
    let x = kept-nest a (n - 1) t ps h k in
    let z : n ≡ suc (n - 1) = positive n g in
    (parens (n - 1) x.0, x.1 ∙ ap (λ m. parens m x.0) z, x.2)
  where
    positive : (n : ℕ) → (n ≡ 0 → ⊥) → n ≡ suc (n - 1)
    positive zero f = absurd (f refl)
    positive (suc n) f = omega arith

-- one more operator
module _ (a : List ℕ) (t says first : ℕ) (h : 3 * suc t + 2 < length a) where
  abbrev pub pushed : List ℕ
  pushed = set (set (set a (3 * (t + 1)) says) (3 * (t + 1) + 1) first) (3 * (t + 1) + 2) 0

  below : (i : ℕ) → i < 3 * suc t → get_or pushed i 0 ≡ get_or a i 0
  below i m =
      get_or-set_other (set (set a (3 * (t + 1)) says) (3 * (t + 1) + 1) first) (3 * (t + 1) + 2) i 0 0 (λ e. omega arith)
      ∙ get_or-set_other (set a (3 * (t + 1)) says) (3 * (t + 1) + 1) i first 0 (λ e. omega arith) ∙ get_or-set_other a (3 * (t + 1)) i says 0 (λ e. omega arith)

  says_there : get_or pushed (3 * suc t) 0 ≡ says
  says_there =
      let z : 3 * suc t ≡ 3 * (t + 1) = omega arith in
      ap (λ i. get_or pushed i 0) z ∙ get_or-set_other (set (set a (3 * (t + 1)) says) (3 * (t + 1) + 1) first) (3 * (t + 1) + 2) (3 * (t + 1)) 0 0 (λ e. omega arith)
      ∙ get_or-set_other (set a (3 * (t + 1)) says) (3 * (t + 1) + 1) (3 * (t + 1)) first 0 (λ e. omega arith) ∙ get_or-set_same a (3 * (t + 1)) says 0 (omega arith)

  first-there : get_or pushed (3 * suc t + 1) 0 ≡ first
  first-there =
      let z : 3 * suc t + 1 ≡ 3 * (t + 1) + 1 = omega arith in
      ap (λ i. get_or pushed i 0) z ∙ get_or-set_other (set (set a (3 * (t + 1)) says) (3 * (t + 1) + 1) first) (3 * (t + 1) + 2) (3 * (t + 1) + 1) 0 0 (λ e. omega arith)
      ∙ get_or-set_same (set a (3 * (t + 1)) says) (3 * (t + 1) + 1) first 0 (omega (arith, length-set a (3 * (t + 1)) says))

  nest-there : get_or pushed (3 * suc t + 2) 0 ≡ 0
  nest-there =
      let z : 3 * suc t + 2 ≡ 3 * (t + 1) + 2 = omega arith in
      ap (λ i. get_or pushed i 0) z
      ∙ get_or-set_same (set (set a (3 * (t + 1)) says) (3 * (t + 1) + 1) first) (3 * (t + 1) + 2) 0 0 (omega (arith, length-set (set a (3 * (t + 1)) says) (3 * (t + 1) + 1) first, length-set a (3 * (t + 1)) says))

  pub pushed-length : length pushed ≡ length a
  pushed-length = length-set (set (set a (3 * (t + 1)) says) (3 * (t + 1) + 1) first) (3 * (t + 1) + 2) 0 ∙ length-set (set a (3 * (t + 1)) says) (3 * (t + 1) + 1) first ∙ length-set a (3 * (t + 1)) says

  pub kept-not : (ps : List Pending) → says ≡ 79 → Kept a t ps → Kept pushed (suc t) (prefix ∷ ps)
  unfolding parens
  kept-not ps e k = subst (λ n. Kept pushed (suc t) (parens n (prefix ∷ ps))) nest-there (not (says_there ∙ e) (kept-so a pushed t ps below k))

  pub kept-operator : (ps : List Pending) (o : Operator) → says ≡ of_operator o → Kept a t ps → Kept pushed (suc t) (infix' o first ∷ ps)
  unfolding parens
  kept-operator ps o e k =
      subst (λ n. Kept pushed (suc t) (parens n (infix' o first ∷ ps))) nest-there
      (subst (λ n. Kept pushed (suc t) (parens (get_or pushed (3 * suc t + 2) 0) (infix' o n ∷ ps))) first-there (operator o (says_there ∙ e) (kept-so a pushed t ps below k)))

-- ---- how many
operators-parens : (n : ℕ) (ps : List Pending) → operators (parens n ps) ≡ operators ps
unfolding parens operators
operators-parens zero ps = refl
operators-parens (suc n) ps = operators-parens n ps

pub kept-many : (a : List ℕ) (t : ℕ) (ps : List Pending) → Kept a t ps → operators ps ≡ t
unfolding operators
kept-many a _ _ none = operators-parens (get_or a 2 0) []
kept-many a _ _ (not {t} {ps} e k) = operators-parens (get_or a (3 * suc t + 2) 0) (prefix ∷ ps) ∙ ap suc (kept-many a t ps k)
kept-many a _ _ (operator {t} {ps} o e k) = operators-parens (get_or a (3 * suc t + 2) 0) (infix' o (get_or a (3 * suc t + 1) 0) ∷ ps) ∙ ap suc (kept-many a t ps k)

opens-parens : (n : ℕ) (ps : List Pending) → opens (parens n ps) ≡ n + opens ps
unfolding parens opens
opens-parens zero ps = omega arith
opens-parens (suc n) ps = ap suc (opens-parens n ps) ∙ omega arith

-- a place's parentheses are some of those that are open
pub nest-few : (a : List ℕ) (t : ℕ) (ps : List Pending) → Kept a t ps → get_or a (3 * t + 2) 0 ≤ opens ps
nest-few a _ _ none = omega (arith, opens-parens (get_or a 2 0) [])
nest-few a _ _ (not {t} {ps} e k) = omega (arith, opens-parens (get_or a (3 * suc t + 2) 0) (prefix ∷ ps))
nest-few a _ _ (operator {t} {ps} o e k) = omega (arith, opens-parens (get_or a (3 * suc t + 2) 0) (infix' o (get_or a (3 * suc t + 1) 0) ∷ ps))

path-shorter : {l k : Sayings} → Path l k → length k < length l
path-shorter (Phrases.asked a n c e) = omega arith
path-shorter (Phrases.part e p) = omega (arith, path-shorter p)

-- each open parenthesis has its closing one still to come
mutual
  pub before-opens : {n : ℕ} {l k : Sayings} → Before n l k → n < length l
  before-opens (Flow.leaf f a) = omega (arith, after-opens a)
  before-opens (Flow.variable e a) = omega (arith, after-opens a)
  before-opens (Flow.path e p a) = omega (arith, after-opens a, path-shorter p)
  before-opens (Flow.not e b) = omega (arith, before-opens b)
  before-opens (Flow.group e b) = omega (arith, before-opens b)

  pub after-opens : {n : ℕ} {l k : Sayings} → After n l k → n < length l
  after-opens (Flow.closing e a) = omega (arith, after-opens a)
  after-opens (Flow.operator o e b) = omega (arith, before-opens b)
  after-opens (Flow.ending e) = omega arith
