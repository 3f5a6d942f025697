-- What is still to be heard, one token after another.
use Prim.Native.Nat.{ℕ, ◌+◌, ◌<◌, ◌≤◌}
use mathlib.Core.Path.{◌≡◌, refl, ◌∙◌, sym, ap, subst}
use mathlib.Core.Bool.{Bool, true, false, cond}
use mathlib.Core.List.{List, [], ◌∷◌, ◌++◌}
use mathlib.Core.Option.{Option, none, some}
use native.Mathlib.Omega.{arith}
use lib.ListN.{length, get_or}
use lib.Seq.{slice}
use lib.Dec.{eqb, ltb}
use Rattle.grammar.specs.Spelling.{Placed}
use Rattle.grammar.specs.Table.{Item, Row, Said, rows_of, on_said}
use Rattle.grammar.specs.Scan.{Next, done, broken, token, token_at, token_in, says_from}
use Rattle.grammar.proofs.TokenAt.{token-at}
use Rattle.grammar.proofs.SaysFrom.{says-token, says_past, says-done, says-short, says-broken}
use Rattle.notation.specs.Sayings.{Saying}
use Rattle.notation.specs.Rows.{Sort, notation}
use Rattle.notation.specs.Spoken.{spoken}
use Rattle.notation.specs.Classes.{class_of, pick_class}
use Rattle.notation.proofs.Classes.{choose-class}
use Rattle.std.specs.Prelude.{Err}
use Rattle.recognise.specs.declared.Ahead.{Ahead}
use Rattle.recognise.specs.Codes.{say_of}
use Rattle.recognise.specs.Tables.{Move, row_of}
use mathlib.Core.Bool.{false≢true}
use Rattle.recognise.proofs.Takings.{taken-err}
use Rattle.recognise.specs.Steps.{Stepped, Effect, refuses, goes_on, begins_node, begins_in_list, closes_list, opens_list, assigns, opens_paren, ends, closes_paren, marks, effect_of, most, moved, step_of}
use Rattle.recognise.specs.declared.taking.Halt.{Halt}
use Rattle.recognise.specs.Taking.{taken_by, taken_of}
use Rattle.recognise.specs.Hears.{Stands, Hearing}
use Rattle.recognise.proofs.ClassSmall.{class-below}
use Rattle.recognise.proofs.ItemsKnown.{first-known}
use Rattle.recognise.proofs.Stepping.{Right, step_right}

-- a token opens at most one parenthesis, and at most one list
pub record Near (a b : Ahead) : Type 0 where
  pub parens : b.parens ≤ a.parens + 1
  pub lists : b.lists ≤ a.lists + 1

cond-near : (a : Ahead) (t : Bool) (x y : Stepped) → Near a x.next → Near a y.next → Near a (cond t x y).next
cond-near a true x y h g = h
cond-near a false x y h g = g

moved-near : (a : Ahead) (m : Move) (e : Effect) → Near a (moved a m e).next
unfolding moved
moved-near a m refuses = record { parens = omega arith; lists = omega arith }
moved-near a m goes_on = record { parens = omega arith; lists = omega arith }
moved-near a m begins_node = record { parens = omega arith; lists = omega arith }
moved-near a m begins_in_list = cond-near a (eqb a.lists 0) _ _ (record { parens = omega arith; lists = omega arith }) (record { parens = omega arith; lists = omega arith })
moved-near a m closes_list = cond-near a (eqb a.lists 0) _ _ (record { parens = omega arith; lists = omega arith }) (record { parens = omega arith; lists = omega arith })
moved-near a m opens_list = cond-near a (ltb a.lists most) _ _ (record { parens = omega arith; lists = omega arith }) (record { parens = omega arith; lists = omega arith })
moved-near a m assigns = record { parens = omega arith; lists = omega arith }
moved-near a m opens_paren = cond-near a (ltb a.parens most) _ _ (record { parens = omega arith; lists = omega arith }) (record { parens = omega arith; lists = omega arith })
moved-near a m ends = cond-near a (eqb a.parens 0) _ _ (record { parens = omega arith; lists = omega arith }) (record { parens = omega arith; lists = omega arith })
moved-near a m closes_paren = cond-near a (eqb a.parens 0) _ _ (record { parens = omega arith; lists = omega arith }) (record { parens = omega arith; lists = omega arith })
moved-near a m (marks n) = cond-near a (eqb (get_or a.met n 0) 0) _ _ (record { parens = omega arith; lists = omega arith }) (record { parens = omega arith; lists = omega arith })

pub step-near : (a : Ahead) (k : ℕ) → Near a (step_of a k).next
unfolding step_of
step-near a k = moved-near a (row_of a.at k) (effect_of (row_of a.at k).effect)

pub never : {A : Type 0} {x : A} → none ≡ some x → ⊥
never e = let z : ◌≡◌ {A = ℕ} 0 1 = cc in omega arith

-- a token of the text has come, and the machine has taken it
pub record Went (u : List ℕ) (from to : ℕ) (r : Stepped) (l : List (Said Saying)) : Type 0 where
  pub ok : r.ok ≡ true
  pub later : List (Said Saying)
  pub hearing : Hearing u to r.next (spoken later)
  pub first : spoken (record { what = say_of r.says; token = token_in u from to } ∷ later) ≡ l

-- what is said after a row
said-after : (t : Placed) (r : Row Sort Saying) (o : Option (List (Said Saying))) (l : List (Said Saying))
    → on_said notation t (some r) (λ q. o) ≡ some l → (k : List (Said Saying)) × (o ≡ some k) × (record { what = r.says; token = t } ∷ k ≡ l)
unfolding on_said
said-after t r none l e = absurd (never e)
said-after t r (some k) l e = (k, refl, cc)

module _ (u : List ℕ) (small : length u < 18446744073709551616) (n : ℕ) (a : Ahead) (l : List (Said Saying)) (from to : ℕ) (h : token_at u n ≡ token from to) where
  went-by : (i : Item Sort) (s : List (Item Sort)) (k : List (Said Saying)) (r : Stepped) (o : Option (Row Sort Saying))
      → on_said notation (token_in u from to) o (λ q. says_from notation (q.rest ++ s) u to) ≡ some k → spoken k ≡ l
      → a.parens ≤ n → a.lists ≤ n → Near a r.next → Right o s r → Went u from to r l
  unfolding on_said
  went-by i s k r none e g p q w f = absurd (never e)
  went-by i s k r (some o) e g p q w f =
      let t = token-at u n from to h in
      let c = said-after (token_in u from to) o (says_from notation (o.rest ++ s) u to) k e in
      record {
        ok = f.0;
        later = c.0;
        hearing = record {
          items = o.rest ++ s;
          stands = f.2;
          sayings = c.0;
          says = c.1;
          heard = refl;
          few_parens = omega (arith, t.low, t.some, w.parens);
          few_lists = omega (arith, t.low, t.some, w.lists);
        };
        first = rw f.1 (ap spoken c.2 ∙ g);
      }

  by-items : (g : Hearing u n a l) (s : List (Item Sort)) → Stands a s → says_from notation s u n ≡ some g.sayings → Went u from to (step_of a (class_of (slice from to u))) l
  by-items g [] w e = absurd (never (sym (says_past notation u n from to h) ∙ e))
  by-items g (i ∷ s) w e =
      let t = token-at u n from to h in
      let k = class_of (slice from to u) in
      went-by i s g.sayings (step_of a k) (pick_class (rows_of notation i) k)
      (subst (λ (o : Option (Row Sort Saying)). on_said notation (token_in u from to) o (λ q. says_from notation (q.rest ++ s) u to) ≡ some g.sayings)
      (choose-class i (slice from to u) (first-known a i s w) t.is_whole) (sym (says-token notation u n i s from to h) ∙ e))
      g.heard g.few_parens g.few_lists (step-near a k)
      (step_right a k (class-below (slice from to u)) (omega (arith, t.low, t.some, t.high, g.few_parens)) (omega (arith, t.low, t.some, t.high, g.few_lists)) i s w)

  pub hear-token : Hearing u n a l → Went u from to (step_of a (class_of (slice from to u))) l
  hear-token g = by-items g g.items g.stands g.says

module _ (u : List ℕ) (small : length u < 18446744073709551616) (n : ℕ) (a : Ahead) (l : List (Said Saying)) (g : Hearing u n a l) where
  done-by : token_at u n ≡ done → (s : List (Item Sort)) → says_from notation s u n ≡ some g.sayings → l ≡ []
  unfolding spoken
  done-by h [] e = let z : g.sayings ≡ [] = cc (says-done notation u n h) in sym g.heard ∙ ap spoken z
  done-by h (i ∷ s) e = absurd (never (sym (says-short notation u n i s h) ∙ e))

  ends-by : (x : Next) → token_at u n ≡ x → (o : Halt) → Err o ≡ taken_by u a x → l ≡ []
  unfolding taken_by
  ends-by done h o f = done-by h g.items g.says
  ends-by (broken k) h o f = absurd (never (sym (says-broken notation u n g.items k h) ∙ g.says))
  ends-by (token from to) h o f = absurd (false≢true (sym (taken-err from to (step_of a (class_of (slice from to u))) o f).0 ∙ (hear-token u small n a l from to h g).ok))

  -- where no token can come, nothing more is heard
  pub hear-ends : (o : Halt) → Err o ≡ taken_of u n a → l ≡ []
  unfolding taken_of
  hear-ends o e = ends-by (token_at u n) refl o e
