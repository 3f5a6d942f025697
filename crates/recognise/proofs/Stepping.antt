-- A step of the machine is a step of the grammar: it is refused where no row begins so, and else leaves what the row leaves.
use Prim.Native.Nat.{ℕ, zero, suc, ◌<◌}
use mathlib.Core.Path.{◌≡◌, refl, ◌∙◌, sym, ap, subst, subst₂}
use mathlib.Core.Bool.{Bool, true, false, cond}
use mathlib.Core.List.{List, [], ◌∷◌, ◌++◌, append_assoc}
use mathlib.Core.Option.{Option, none, some}
use native.Mathlib.Omega.{arith}
use lib.ListN.{get_or}
use lib.Dec.{eqb, ltb}
use borrow.Author.Tests.{ltb-true}
use Rattle.grammar.specs.Table.{Item, Row, rows_of}
use Rattle.notation.specs.Sayings.{Saying}
use Rattle.notation.specs.Rows.{Sort, nodes, attributes, rows, met, notation}
use Rattle.notation.specs.Classes.{pick_class}
use Rattle.recognise.specs.declared.Ahead.{Ahead}
use Rattle.recognise.specs.Codes.{say_of}
use Rattle.recognise.specs.Positions.{Bottom, lists, body, expression, at, position_at, operator_at, tower, closer}
use Rattle.recognise.specs.Tables.{Move, row_of}
use Rattle.recognise.specs.Steps.{Stepped, Effect, refuses, goes_on, begins_node, begins_in_list, closes_list, opens_list, assigns, opens_paren, ends, closes_paren, marks, effect_of, most, moved, step_of}
use Rattle.recognise.specs.Hears.{Marks, below, items_of, Stands}
use Rattle.recognise.proofs.Claims.{Outcome, made, stub, saying, unless, only_once, given, expected_in_front, expected_in_lists, expected_in_body, expected, tabled, reached_at, where_of}
use Rattle.recognise.proofs.Found.{after, found-free, found-attributes}
use Rattle.recognise.proofs.Claimed.{claim, row_next}
use Rattle.recognise.proofs.Standing.{tail, below_split, Fits, fits-same, never-some, goes, begins, opens, ending, closing, begins-in-list, closes-list, opens-list, assigning, marking}

module _ (m : List ℕ) (a : Ahead) (marked : Marks m a.met) (few_parens : a.parens < most) (few_lists : a.lists < most) (r : Move) (known : r.next < 78) (x : Option Outcome) where
  abbrev w : Saying
  w = say_of r.says

  front_by : (b : Bottom) (e : Effect) → only_once m e (saying w (expected_in_front m (closer a.parens) b r.next e)) ≡ some x → Fits x (tail m a b) (moved a r e)
  unfolding only_once unless saying expected_in_front moved
  front_by b refuses f = fits-same _ _ f refl
  front_by b goes_on f = goes m a.at a.met a.rear marked r.next r.says known x a.parens a.lists b _ refl f
  front_by b begins_node f = begins m a.at a.met a.rear marked r.next r.says known x a.parens a.lists b _ refl f
  front_by b begins_in_list f = absurd (never-some f)
  front_by b closes_list f = absurd (never-some f)
  front_by b opens_list f = absurd (never-some f)
  front_by b assigns f = absurd (never-some f)
  front_by b opens_paren f = opens m a.at a.met a.rear marked r.next r.says known x a.parens a.lists few_parens b _ refl f
  front_by b ends f = ending m a.at a.met a.rear marked r.next r.says known x a.parens a.lists b f
  front_by b closes_paren f = closing m a.at a.met a.rear marked r.next r.says known x a.parens a.lists b (eqb r.next operator_at) refl f
  front_by b (marks n) f = absurd (never-some f)

  lists-by : (d : ℕ) → a.lists ≡ suc d → (e : Effect) → only_once m e (saying w (expected_in_lists (closer a.parens) r.next e)) ≡ some x → Fits x (tower d) (moved a r e)
  unfolding only_once unless saying expected_in_lists moved
  lists-by d h refuses f = fits-same _ _ f refl
  lists-by d h goes_on f = absurd (never-some f)
  lists-by d h begins_node f = absurd (never-some f)
  lists-by d h begins_in_list f = rw h (begins-in-list m a.at a.met a.rear marked r.next r.says known x a.parens d _ refl f)
  lists-by d h closes_list f = rw h (closes-list m a.at a.met a.rear marked r.next r.says known x a.parens d _ refl f)
  lists-by d h opens_list f = absurd (never-some f)
  lists-by d h assigns f = absurd (never-some f)
  lists-by d h opens_paren f = absurd (never-some f)
  lists-by d h ends f = absurd (never-some f)
  lists-by d h closes_paren f = absurd (never-some f)
  lists-by d h (marks n) f = absurd (never-some f)

  marks-by : (n : ℕ) (t : Bool) → ltb n 8 ≡ t → unless (met n m) (saying w (cond t (given (n ∷ m) r.next (position_at (closer 0) r.next).bottom) none)) ≡ some x
      → Fits x (tower a.lists) (moved a r (marks n))
  unfolding unless saying moved
  marks-by n false e f = absurd (never-some f)
  marks-by n true e f =
      let h : n < 8 = ltb-true n 8 e in
      marking m a.at a.met a.rear marked r.next r.says known x a.parens a.lists n h (eqb (get_or a.met n 0) 0) refl _ refl
      (rw (marked.each n h) at f)

  body-by : (e : Effect) → only_once m e (saying w (expected_in_body m (closer a.parens) r.next e)) ≡ some x → Fits x (tower a.lists) (moved a r e)
  unfolding only_once saying expected_in_body moved closer tail
  body-by refuses f = fits-same _ _ f refl
  body-by goes_on f = goes m a.at a.met a.rear marked r.next r.says known x a.parens a.lists body _ refl f
  body-by begins_node f = absurd (never-some f)
  body-by begins_in_list f = absurd (never-some f)
  body-by closes_list f = absurd (never-some f)
  body-by opens_list f = opens-list m a.at a.met a.rear marked r.next r.says known x a.parens a.lists few_lists _ refl f
  body-by assigns f = assigning m a.at a.met a.rear marked r.next r.says known x a.parens a.lists _ refl f
  body-by opens_paren f = absurd (never-some f)
  body-by ends f = absurd (never-some f)
  body-by closes_paren f = absurd (never-some f)
  body-by (marks n) f = marks-by n (ltb n 8) refl f

-- a step does what the row does
abbrev pub Right : Option (Row Sort Saying) → List (Item Sort) → Stepped → Type 0
Right none s r = r.ok ≡ false
Right (some row) s r = (r.ok ≡ true) × (say_of r.says ≡ row.says) × Stands r.next (row.rest ++ s)

fits-right : (o : Option (Row Sort Saying)) (s t : List (Item Sort)) (r : Stepped) → Fits (after s o) t r → Right o (s ++ t) r
unfolding after made
fits-right none s t r f = f
fits-right (some o) s t r f = (f.0, f.1, subst (λ (z : List (Item Sort)). Stands r.next z) (append_assoc o.rest s t) f.2)

once-never : (m : List ℕ) (e : Effect) → only_once m e none ≡ none
unfolding only_once unless
once-never m refuses = refl
once-never m goes_on = refl
once-never m begins_node = refl
once-never m begins_in_list = refl
once-never m closes_list = refl
once-never m opens_list = refl
once-never m assigns = refl
once-never m opens_paren = refl
once-never m ends = refl
once-never m closes_paren = refl
once-never m (marks n) = refl

no-tower : (d : ℕ) → tower d ≡ [] → d ≡ 0
unfolding tower
no-tower zero e = refl
no-tower (suc d) e = absurd (let z : ◌≡◌ {A = ℕ} 0 1 = cc in omega arith)

-- with no list open nothing comes after the end of a node
ended_by : (m : List ℕ) (a : Ahead) (r : Move) (x : Option Outcome) → a.lists ≡ 0 → (e : Effect)
    → only_once m e (saying (say_of r.says) (expected_in_lists (closer a.parens) r.next e)) ≡ some x → (moved a r e).ok ≡ false
unfolding only_once unless saying expected_in_lists moved
ended_by m a r x h refuses f = refl
ended_by m a r x h goes_on f = absurd (never-some f)
ended_by m a r x h begins_node f = absurd (never-some f)
ended_by m a r x h begins_in_list f = rw h
ended_by m a r x h closes_list f = rw h
ended_by m a r x h opens_list f = absurd (never-some f)
ended_by m a r x h assigns f = absurd (never-some f)
ended_by m a r x h opens_paren f = absurd (never-some f)
ended_by m a r x h ends f = absurd (never-some f)
ended_by m a r x h closes_paren f = absurd (never-some f)
ended_by m a r x h (marks n) f = absurd (never-some f)

module _ (a : Ahead) (k : ℕ) (class : k < 76) (few_parens : a.parens < most) (few_lists : a.lists < most) where
  right-same : {i j : Item Sort} {s t : List (Item Sort)} → Right (pick_class (rows_of notation i) k) s (step_of a k) → i ∷ s ≡ j ∷ t
      → Right (pick_class (rows_of notation j) k) t (step_of a k)
  right-same {i} {j} {s} {t} h e =
      let f : i ≡ j = cc in
      let g : s ≡ t = cc in
      subst₂ (λ (x : Item Sort) (z : List (Item Sort)). Right (pick_class (rows_of notation x) k) z (step_of a k)) f g h

  module _ (m : List ℕ) (marked : Marks m a.met) (known : a.at < 78) where
    in-front : (f : Item Sort) (fs : List (Item Sort)) (b : Bottom) → position_at (closer a.parens) a.at ≡ at (f ∷ fs) b
        → Right (pick_class (rows_of notation f) k) (fs ++ below m a b) (step_of a k)
    unfolding tabled expected where_of reached_at step_of
    in-front f fs b e =
        let r = row_of a.at k in
        let s = fs ++ stub m b in
        let x = pick_class (rows_of notation f) k in
        let c = claim m (closer a.parens) a.at k (f ∷ fs) b known class e ∙ ap some (found-free m s (rows_of notation f) k) in
        subst (λ (z : List (Item Sort)). Right x z (step_of a k)) (append_assoc fs (stub m b) (tail m a b) ∙ ap (λ (z : List (Item Sort)). fs ++ z) (sym (below_split m a b)))
        (fits-right x s (tail m a b) (step_of a k) (front_by m a marked few_parens few_lists r (row_next a.at k) (after s x) b (effect_of r.effect) c))

    in-lists : (d : ℕ) → a.lists ≡ suc d → position_at (closer a.parens) a.at ≡ at [] lists → Right (pick_class (rows nodes) k) (tower d) (step_of a k)
    unfolding tabled expected where_of reached_at step_of
    in-lists d h e =
        let r = row_of a.at k in
        let x = pick_class (rows nodes) k in
        let c = claim m (closer a.parens) a.at k [] lists known class e ∙ ap some (found-free m [] (rows nodes) k) in
        fits-right x [] (tower d) (step_of a k) (lists-by m a marked few_parens few_lists r (row_next a.at k) (after [] x) d h (effect_of r.effect) c)

    in-body : position_at (closer a.parens) a.at ≡ at [] body → Right (pick_class (rows (attributes m)) k) (tower a.lists) (step_of a k)
    unfolding tabled expected where_of reached_at step_of
    in-body e =
        let r = row_of a.at k in
        let x = pick_class (rows (attributes m)) k in
        let c = claim m (closer a.parens) a.at k [] body known class e ∙ ap some (found-attributes m k class) in
        fits-right x [] (tower a.lists) (step_of a k) (body-by m a marked few_parens few_lists r (row_next a.at k) (after [] x) (effect_of r.effect) c)

    nowhere : position_at (closer a.parens) a.at ≡ at [] expression → ⊥
    unfolding tabled expected where_of saying
    nowhere e = never-some (sym (once-never m (effect_of (row_of a.at k).effect)) ∙ claim m (closer a.parens) a.at k [] expression known class e)

    lists-step : (d : ℕ) → a.lists ≡ d → position_at (closer a.parens) a.at ≡ at [] lists
        → (i : Item Sort) (s : List (Item Sort)) → tower d ≡ i ∷ s → Right (pick_class (rows_of notation i) k) s (step_of a k)
    unfolding tower
    lists-step zero h e i s g = absurd (let z : ◌≡◌ {A = ℕ} 0 1 = cc in omega arith)
    lists-step (suc d) h e i s g = right-same (in-lists d h e) g

    row_step : (f : List (Item Sort)) (b : Bottom) → position_at (closer a.parens) a.at ≡ at f b
        → (i : Item Sort) (s : List (Item Sort)) → f ++ below m a b ≡ i ∷ s → Right (pick_class (rows_of notation i) k) s (step_of a k)
    unfolding below
    row_step (f ∷ fs) b e i s g = right-same (in-front f fs b e) g
    row_step [] lists e i s g = lists-step a.lists refl e i s g
    row_step [] body e i s g = right-same (in-body e) g
    row_step [] expression e i s g = absurd (nowhere e)

  pub step_right : (i : Item Sort) (s : List (Item Sort)) → Stands a (i ∷ s) → Right (pick_class (rows_of notation i) k) s (step_of a k)
  unfolding items_of
  step_right i s h = row_step h.had h.marked h.known _ _ refl i s h.items

  -- where nothing is to come, no token comes
  end_by : (m : List ℕ) → Marks m a.met → a.at < 78 → (f : List (Item Sort)) (b : Bottom) → position_at (closer a.parens) a.at ≡ at f b → f ++ below m a b ≡ [] → (step_of a k).ok ≡ false
  unfolding below tabled expected where_of reached_at step_of
  end_by m marked known (f ∷ fs) b e g = absurd (let z : ◌≡◌ {A = ℕ} 0 1 = cc in omega arith)
  end_by m marked known [] lists e g =
      let r = row_of a.at k in
      ended_by m a r _ (no-tower a.lists g) (effect_of r.effect) (claim m (closer a.parens) a.at k [] lists known class e)
  end_by m marked known [] body e g = absurd (let z : ◌≡◌ {A = ℕ} 0 1 = cc in omega arith)
  end_by m marked known [] expression e g = absurd (nowhere m marked known e)

  pub step-ends : Stands a [] → (step_of a k).ok ≡ false
  unfolding items_of
  step-ends h = end_by h.had h.marked h.known _ _ refl h.items
