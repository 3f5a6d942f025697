-- What a step leaves is what the row that the token begins leaves: one law for each place that a position can have, by the row's effect.
use Prim.Native.Nat.{ℕ, zero, suc, ◌-◌, ◌<◌}
use mathlib.Core.Path.{◌≡◌, refl, ◌∙◌, sym, ap, subst}
use mathlib.Core.Bool.{Bool, true, false, not, ◌||◌, cond}
use mathlib.Core.List.{List, [], ◌∷◌, ◌++◌, append_assoc}
use mathlib.Core.Option.{Option, none, some}
use native.Mathlib.Omega.{arith}
use native.Mathlib.Numerals.{add-one}
use lib.ListN.{get_or, set, length-set, get_or-replicate}
use lib.Seq.{get_or-set_same, get_or-set_other}
use lib.Dec.{eqb}
use borrow.Author.Tests.{ne_eqb, lt-ltb, eqb-true, eqb-false}
use Rattle.grammar.specs.Table.{Item, lit, sort}
use Rattle.notation.specs.Rows.{bracket, Sort, nodes, attributes, operator, met}
use Rattle.recognise.specs.declared.Ahead.{Ahead}
use Rattle.recognise.specs.Codes.{say_of}
use Rattle.recognise.specs.Positions.{Bottom, lists, body, expression, Position, position_at, positions, operator_at, body_at, brace_at, tower, closer, parentheses}
use Rattle.recognise.specs.Tables.{Move}
use Rattle.recognise.specs.Steps.{Stepped, goes_on, begins_node, begins_in_list, closes_list, opens_list, assigns, opens_paren, ends, closes_paren, marks, unmarked, most, went, rear_at, moved}
use Rattle.recognise.specs.Hears.{Marks, rear_item, below, items_of, Stands}
use Rattle.recognise.proofs.Claims.{Outcome, stub, shown, alike, as_lists, as_body, as_expression, in_lists', in_expression, ends_by, closes_by, given, saying, unless}

-- what a token leaves as it is
unfoldable pub tail : List ℕ → Ahead → Bottom → List (Item Sort)
tail m a lists = tower a.lists
tail m a body = tower a.lists
tail m a expression = parentheses a.parens ++ (rear_item m a.rear ∷ tower a.lists)

pub below_split : (m : List ℕ) (a : Ahead) (b : Bottom) → below m a b ≡ stub m b ++ tail m a b
unfolding below stub tail
below_split m a lists = refl
below_split m a body = refl
below_split m a expression = refl

-- a step gives what is expected, before what is left as it is
abbrev pub Fits : Option Outcome → List (Item Sort) → Stepped → Type 0
Fits none t r = r.ok ≡ false
Fits (some o) t r = (r.ok ≡ true) × (say_of r.says ≡ o.word) × Stands r.next (o.items ++ t)

pub fits-same : {x y : Option Outcome} (t : List (Item Sort)) (r : Stepped) → some y ≡ some x → Fits y t r → Fits x t r
fits-same {x} {y} t r e f = let h : y ≡ x = cc in subst (λ (z : Option Outcome). Fits z t r) h f

pub never-some : {A : Type 0} {x : A} → none ≡ some x → ⊥
never-some e = let z : ◌≡◌ {A = ℕ} 0 1 = cc in omega arith

-- the items of what is to come, by the position's bottom
module _ (m : List ℕ) (a : Ahead) {b : Bottom} (e : (position_at (closer a.parens) a.at).bottom ≡ b) where
  items_at : items_of m a ≡ (position_at (closer a.parens) a.at).front ++ below m a b
  unfolding items_of
  items_at = ap (λ (q : Bottom). (position_at (closer a.parens) a.at).front ++ below m a q) e

  items_shown : items_of m a ≡ shown m (position_at (closer a.parens) a.at) ++ tail m a b
  unfolding items_of shown
  items_shown =
      let q = position_at (closer a.parens) a.at in
      ap (λ (s : List (Item Sort)). q.front ++ s) (below_split m a q.bottom) ∙ sym (append_assoc q.front (stub m q.bottom) (tail m a q.bottom))
      ∙ ap (λ (x : Bottom). (q.front ++ stub m q.bottom) ++ tail m a x) e

-- marks
pub unmarked-marks : Marks [] unmarked
unfolding met
unmarked-marks = record { size = refl; each = each }
  where
    each : (n : ℕ) → n < 8 → met n [] ≡ not (eqb (get_or unmarked n 0) 0)
    each n h = ap (λ (x : ℕ). not (eqb x 0)) (sym (get_or-replicate 8 n 0 0 h))

pub marks-more : (m l : List ℕ) → Marks m l → (n : ℕ) → n < 8 → Marks (n ∷ m) (set l n 1)
unfolding met
marks-more m l k n h = record { size = length-set l n 1 ∙ k.size; each = each }
  where
    go : (j : ℕ) (t : Bool) → eqb j n ≡ t → j < 8 → t || met j m ≡ not (eqb (get_or (set l n 1) j 0) 0)
    go j true e g = rw (eqb-true j n e, get_or-set_same l n 1 0 (omega (arith, k.size)))
    go j false e g = k.each j g ∙ ap (λ (x : ℕ). not (eqb x 0)) (sym (get_or-set_other l n j 1 0 (eqb-false j n e)))

    each : (j : ℕ) → j < 8 → met j (n ∷ m) ≡ not (eqb (get_or (set l n 1) j 0) 0)
    each j g = go j (eqb j n) refl g

-- a step to the position q, with the number w for what is said
module _ (m : List ℕ) (p : ℕ) (l : List ℕ) (r : ℕ) (marked : Marks m l) (q w : ℕ) (known : q < 78) (x : Option Outcome) where
  abbrev pub here : ℕ → ℕ → Ahead
  here k d = record { at = p; met = l; rear = r; parens = k; lists = d }

  abbrev pub on : ℕ → ℕ → ℕ → Stepped
  on j k d = went w (record { at = j; met = l; rear = r; parens = k; lists = d })

  abbrev pub row : Move
  row = record { effect = 0; says = w; next = q }

  abbrev pub Q : ℕ → Position
  Q k = position_at (closer k) q

  pub goes : (k d : ℕ) (b bq : Bottom) → (Q k).bottom ≡ bq → saying (say_of w) (alike b bq (some (shown m (Q k)))) ≡ some x → Fits x (tail m (here k d) b) (moved (here k d) row goes_on)
  unfolding alike saying tail moved
  goes k d lists lists e f = fits-same _ _ f (refl, refl, record { known = known; had = m; marked = marked; items = items_shown m _ e })
  goes k d lists body e f = fits-same _ _ f (refl, refl, record { known = known; had = m; marked = marked; items = items_shown m _ e })
  goes k d lists expression e f = absurd (never-some f)
  goes k d body lists e f = fits-same _ _ f (refl, refl, record { known = known; had = m; marked = marked; items = items_shown m _ e })
  goes k d body body e f = fits-same _ _ f (refl, refl, record { known = known; had = m; marked = marked; items = items_shown m _ e })
  goes k d body expression e f = absurd (never-some f)
  goes k d expression lists e f = absurd (never-some f)
  goes k d expression body e f = absurd (never-some f)
  goes k d expression expression e f = fits-same _ _ f (refl, refl, record { known = known; had = m; marked = marked; items = items_shown m _ e })

  pub begins : (k d : ℕ) (b bq : Bottom) → (Q k).bottom ≡ bq → saying (say_of w) (in_lists' b (as_body bq (some (shown [] (Q k))))) ≡ some x
      → Fits x (tail m (here k d) b) (moved (here k d) row begins_node)
  unfolding in_lists' as_body saying tail moved
  begins k d lists lists e f = absurd (never-some f)
  begins k d lists body e f = fits-same _ _ f (refl, refl, record { known = known; had = []; marked = unmarked-marks; items = items_shown [] _ e })
  begins k d lists expression e f = absurd (never-some f)
  begins k d body bq e f = absurd (never-some f)
  begins k d expression bq e f = absurd (never-some f)

  pub opens : (k d : ℕ) → k < most → (b bq : Bottom) → (position_at bracket q).bottom ≡ bq
      → saying (say_of w) (in_expression b (as_expression bq (some ((position_at bracket q).front ++ (sort (operator (closer k)) ∷ []))))) ≡ some x
      → Fits x (tail m (here k d) b) (moved (here k d) row opens_paren)
  unfolding in_expression as_expression saying tail moved closer below parentheses
  opens k d g lists bq e f = absurd (never-some f)
  opens k d g body bq e f = absurd (never-some f)
  opens k d g expression lists e f = absurd (never-some f)
  opens k d g expression body e f = absurd (never-some f)
  opens k d g expression expression e f =
      rw (lt-ltb k most g, add-one k)
      (fits-same _ (on q (suc k) d) f (refl, refl, record { known = known; had = m; marked = marked; items = items_at m _ e ∙ sym (append_assoc (position_at bracket q).front _ _) }))

  rear-items : (t : Bool) (d : ℕ) → items_of m (record { at = cond t body_at brace_at; met = l; rear = r; parens = 0; lists = d }) ≡ cond t (sort (attributes m)) (lit "}") ∷ tower d
  unfolding items_of position_at positions closer below
  rear-items true d = refl
  rear-items false d = refl

  rear-known : (t : Bool) → cond t body_at brace_at < 78
  rear-known true = omega arith
  rear-known false = omega arith

  pub ending : (k d : ℕ) (b : Bottom) → saying (say_of w) (as_expression b (ends_by (closer k))) ≡ some x → Fits x (tail m (here k d) b) (moved (here k d) row ends)
  unfolding as_expression saying tail moved closer ends_by parentheses rear_item rear_at
  ending k d lists f = absurd (never-some f)
  ending k d body f = absurd (never-some f)
  ending zero d expression f =
      fits-same _ (on (rear_at r) 0 d) f (refl, refl, record { known = rear-known (eqb r 0); had = m; marked = marked; items = rear-items (eqb r 0) d })
  ending (suc k) d expression f = rw (ne_eqb (suc k) 0 (omega arith)) (fits-same _ _ f refl)

  pub closing : (k d : ℕ) (b : Bottom) (t : Bool) → eqb q operator_at ≡ t → saying (say_of w) (cond t (as_expression b (closes_by (closer k))) none) ≡ some x
      → Fits x (tail m (here k d) b) (moved (here k d) row closes_paren)
  unfolding as_expression saying tail moved closer closes_by parentheses items_of position_at positions below
  closing k d b false e f = absurd (never-some f)
  closing k d lists true e f = absurd (never-some f)
  closing k d body true e f = absurd (never-some f)
  closing zero d expression true e f = fits-same _ _ f refl
  closing (suc k) d expression true e f =
      let z : suc k - 1 ≡ k = omega arith in
      rw (ne_eqb (suc k) 0 (omega arith), z)
      (fits-same _ (on q k d) f
      (refl, refl, subst (λ (j : ℕ). Stands (record { at = j; met = l; rear = r; parens = k; lists = d }) (tail m (here (suc k) d) expression)) (sym (eqb-true q operator_at e)) (record { known = omega arith; had = m; marked = marked; items = refl })))

  pub begins-in-list : (k d : ℕ) (bq : Bottom) → (Q k).bottom ≡ bq → saying (say_of w) (as_body bq (some (shown [] (Q k) ++ (sort nodes ∷ [])))) ≡ some x
      → Fits x (tower d) (moved (here k (suc d)) row begins_in_list)
  unfolding as_body saying tail moved tower
  begins-in-list k d lists e f = absurd (never-some f)
  begins-in-list k d body e f =
      rw (ne_eqb (suc d) 0 (omega arith))
      (fits-same _ _ f (refl, refl, record { known = known; had = []; marked = unmarked-marks; items = items_shown [] _ e ∙ sym (append_assoc (shown [] (Q k)) _ _) }))
  begins-in-list k d expression e f = absurd (never-some f)

  pub closes-list : (k d : ℕ) (bq : Bottom) → (Q k).bottom ≡ bq → saying (say_of w) (as_lists bq (some (Q k).front)) ≡ some x
      → Fits x (tower d) (moved (here k (suc d)) row closes_list)
  unfolding as_lists saying moved below
  closes-list k d lists e f =
      let z : suc d - 1 ≡ d = omega arith in
      rw (ne_eqb (suc d) 0 (omega arith), z)
      (fits-same _ (on q k d) f (refl, refl, record { known = known; had = m; marked = marked; items = items_at m _ e }))
  closes-list k d body e f = absurd (never-some f)
  closes-list k d expression e f = absurd (never-some f)

  pub opens-list : (k d : ℕ) → d < most → (bq : Bottom) → (Q k).bottom ≡ bq → saying (say_of w) (as_lists bq (some ((Q k).front ++ (sort nodes ∷ [])))) ≡ some x
      → Fits x (tower d) (moved (here k d) row opens_list)
  unfolding as_lists saying moved below tower
  opens-list k d g lists e f =
      rw (lt-ltb d most g, add-one d)
      (fits-same _ (on q k (suc d)) f (refl, refl, record { known = known; had = m; marked = marked; items = items_at m _ e ∙ sym (append_assoc (Q k).front _ _) }))
  opens-list k d g body e f = absurd (never-some f)
  opens-list k d g expression e f = absurd (never-some f)

  pub assigning : (k d : ℕ) (bq : Bottom) → (Q 0).bottom ≡ bq → saying (say_of w) (as_expression bq (some ((Q 0).front ++ (lit "}" ∷ [])))) ≡ some x
      → Fits x (tower d) (moved (here k d) row assigns)
  unfolding as_expression saying moved below parentheses rear_item
  assigning k d lists e f = absurd (never-some f)
  assigning k d body e f = absurd (never-some f)
  assigning k d expression e f =
      fits-same _ _ f (refl, refl, record { known = known; had = m; marked = marked; items = items_at m _ e ∙ sym (append_assoc (Q 0).front _ _) })

  pub marking : (k d n : ℕ) → n < 8 → (u : Bool) → eqb (get_or l n 0) 0 ≡ u → (bq : Bottom) → (Q 0).bottom ≡ bq
      → unless (not u) (saying (say_of w) (given (n ∷ m) q bq)) ≡ some x → Fits x (tower d) (moved (here k d) row (marks n))
  unfolding unless given saying moved below parentheses rear_item closer tail
  marking k d n h u a lists e f = absurd (never-some f)
  marking k d n h true a body e f =
      rw a (fits-same _ _ f (refl, refl, record { known = known; had = n ∷ m; marked = marks-more m l marked n h; items = items_shown (n ∷ m) _ e }))
  marking k d n h true a expression e f =
      rw a (fits-same _ _ f (refl, refl, record { known = known; had = n ∷ m; marked = marks-more m l marked n h; items = items_at (n ∷ m) _ e ∙ sym (append_assoc (Q 0).front _ _) }))
  marking k d n h false a body e f = rw a (fits-same _ _ f refl)
  marking k d n h false a expression e f = rw a (fits-same _ _ f refl)
