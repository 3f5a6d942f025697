-- How much of a token can come where something is to come: the most over the classes is the most over the rows.
use Prim.Native.Nat.{ℕ, zero, suc, ◌<◌, ◌≤◌}
use mathlib.Core.Path.{◌≡◌, refl, ◌∙◌, sym}
use mathlib.Core.Bool.{Bool, true, false, cond}
use mathlib.Core.List.{List, [], ◌∷◌}
use mathlib.Core.Option.{Option, none, some}
use native.Mathlib.Omega.{arith}
use native.Mathlib.Decide.{dec_lt}
use lib.Dec.{ltb}
use borrow.Author.Tests.{ltb-true, ltb-false}
use Rattle.grammar.specs.Spelling.{Token}
use Rattle.grammar.specs.Table.{Item, Row, rows_of}
use Rattle.grammar.specs.Scan.{viable_by_rows}
use Rattle.notation.specs.Sayings.{Saying}
use Rattle.notation.specs.Rows.{Sort, notation}
use Rattle.notation.specs.Classes.{pick_class}
use Rattle.notation.proofs.Classes.{item-known}
use Rattle.words.specs.Viable.{viable_class}
use Rattle.recognise.specs.declared.Ahead.{Ahead}
use Rattle.recognise.specs.Steps.{Stepped, most, step_of}
use Rattle.recognise.specs.Hears.{Stands}
use Rattle.recognise.specs.Reaching.{more_of, viable_from}
use Rattle.recognise.proofs.ItemsKnown.{first-known}
use Rattle.recognise.proofs.Stepping.{Right, step_right, step-ends}
use Rattle.recognise.proofs.ViableClasses.{rows-within, rows-most, picks-some}

no_bool : true ≡ false → ⊥
no_bool e = let z : ◌≡◌ {A = ℕ} 0 1 = cc in omega arith

module _ (t : Token) (a : Ahead) where
  more-keeps : (n k : ℕ) → n ≤ more_of t a n k
  unfolding more_of
  more-keeps n k = go (step_of a k).ok (ltb n (viable_class k t)) refl
    where
      go : (o b : Bool) → ltb n (viable_class k t) ≡ b → n ≤ cond o (cond b (viable_class k t) n) n
      go true true e = omega (arith, ltb-true n (viable_class k t) e)
      go true false e = omega arith
      go false b e = omega arith

  more-has : (n k : ℕ) → (step_of a k).ok ≡ true → viable_class k t ≤ more_of t a n k
  unfolding more_of
  more-has n k h = rw h (go (ltb n (viable_class k t)) refl)
    where
      go : (b : Bool) → ltb n (viable_class k t) ≡ b → viable_class k t ≤ cond b (viable_class k t) n
      go true e = omega arith
      go false e = ltb-false n (viable_class k t) e

  more_within : (n k x : ℕ) → n ≤ x → ((step_of a k).ok ≡ true → viable_class k t ≤ x) → more_of t a n k ≤ x
  unfolding more_of
  more_within n k x h f = go (step_of a k).ok (ltb n (viable_class k t)) f
    where
      go : (o b : Bool) → (o ≡ true → viable_class k t ≤ x) → cond o (cond b (viable_class k t) n) n ≤ x
      go true true g = g refl
      go true false g = h
      go false b g = h

  from-keeps : (n k : ℕ) → n ≤ viable_from t a n k
  unfolding viable_from
  from-keeps n zero = omega arith
  from-keeps n (suc k) = let h = from-keeps (more_of t a n k) k in omega (arith, h, more-keeps n k)

  from-has : (n k j : ℕ) → j < k → (step_of a j).ok ≡ true → viable_class j t ≤ viable_from t a n k
  unfolding viable_from
  from-has n zero j h o = absurd (omega arith)
  from-has n (suc k) j h o = go (dec_lt j k) (from-has (more_of t a n k) k j)
    where
      go : Dec (j < k) → (j < k → (step_of a j).ok ≡ true → viable_class j t ≤ viable_from t a (more_of t a n k) k) → viable_class j t ≤ viable_from t a (more_of t a n k) k
      go (yes l) f = f l o
      go (no l) f =
          let e : j ≡ k = omega arith in
          let m : viable_class j t ≤ more_of t a n k = rw (← e) (more-has n j o) in
          omega (arith, m, from-keeps (more_of t a n k) k)

  from-within : (n k x : ℕ) → n ≤ x → ((j : ℕ) → j < k → (step_of a j).ok ≡ true → viable_class j t ≤ x) → viable_from t a n k ≤ x
  unfolding viable_from
  from-within n zero x h f = h
  from-within n (suc k) x h f = from-within (more_of t a n k) k x (more_within n k x h (f k (omega arith))) (λ j g. f j (omega arith))

module _ (t : Token) (a : Ahead) (few_parens : a.parens < most) (few_lists : a.lists < most) where
  picked : (o : Option (Row Sort Saying)) (s : List (Item Sort)) (r : Stepped) → Right o s r → r.ok ≡ true → (x : Row Sort Saying) × (o ≡ some x)
  picked none s r f h = absurd (no_bool (sym h ∙ f))
  picked (some x) s r f h = (x, refl)

  come : (o : Option (Row Sort Saying)) (s : List (Item Sort)) (r : Stepped) → Right o s r → (o ≡ none → ⊥) → r.ok ≡ true
  come none s r f h = absurd (h refl)
  come (some x) s r f h = f.0

  pub viable-here : (i : Item Sort) (s : List (Item Sort)) → Stands a (i ∷ s) → viable_from t a 0 76 ≡ viable_by_rows (rows_of notation i) t
  viable-here i s w =
      let rs = rows_of notation i in
      let low = from-within t a 0 76 (viable_by_rows rs t) (omega arith) (λ j h o. (let x = picked (pick_class rs j) s (step_of a j) (step_right a j h few_parens few_lists i s w) o in rows-within rs j t x.0 h x.1)) in
      let high =
      rows-most rs t (viable_from t a 0 76) (item-known i (first-known a i s w))
      (λ j h k. from-has t a 0 76 j h (come (pick_class rs j) s (step_of a j) (step_right a j h few_parens few_lists i s w) (picks-some rs j k)))
      in
      omega arith

  pub viable-nowhere : Stands a [] → viable_from t a 0 76 ≡ 0
  viable-nowhere w =
      let low = from-within t a 0 76 0 (omega arith) (λ j h o. absurd (no_bool (sym o ∙ step-ends a j h few_parens few_lists w))) in
      omega arith
