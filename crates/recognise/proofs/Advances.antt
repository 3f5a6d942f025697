-- To the next token that says something: what each way of the loop keeps and shows.
use Prim.Native.Nat.{ℕ, zero, suc, ◌<◌, ◌≤◌}
use mathlib.Core.Path.{◌≡◌, refl, ◌∙◌, sym, ap, subst}
use mathlib.Core.Bool.{Bool, true, false, cond}
use mathlib.Core.List.{List, [], ◌∷◌}
use mathlib.Core.Option.{some}
use native.Mathlib.Omega.{arith}
use lib.ListN.{length, get_or}
use lib.Seq.{slice}
use lib.Dec.{eqb, ltb}
use Rattle.grammar.specs.Table.{Said, sort}
use Rattle.grammar.specs.Scan.{token_in}
use Rattle.grammar.proofs.TokenAt.{token-at}
use Rattle.grammar.proofs.SaysFrom.{says-whole}
use Rattle.notation.specs.Sayings.{Saying}
use Rattle.notation.specs.Rows.{plan, notation}
use Rattle.notation.specs.Spoken.{is_silent, spoken}
use Rattle.notation.specs.Classes.{class_of}
use Rattle.notation.specs.Reading.{plan_says}
use Rattle.std.specs.Prelude.{Ok, Err}
use Rattle.recognise.specs.declared.Ahead.{Ahead}
use Rattle.recognise.specs.declared.taking.Taken.{Taken}
use Rattle.recognise.specs.declared.taking.Halt.{Halt}
use Rattle.recognise.specs.declared.Cursor.{Cursor}
use Rattle.recognise.specs.Codes as Codes
use Rattle.recognise.specs.Codes.{say_of}
use Rattle.recognise.specs.Positions as Positions
use Rattle.recognise.specs.Tables.{Move, row_of}
use Rattle.recognise.specs.Steps.{Stepped, Effect, refuses, goes_on, begins_node, begins_in_list, closes_list, opens_list, assigns, opens_paren, ends, closes_paren, marks, effect_of, start_ahead, most, moved, step_of}
use Rattle.recognise.specs.Taking.{taken_of}
use Rattle.recognise.specs.Hears as Hears
use Rattle.recognise.specs.Hears.{Hearing, Scanned}
use Rattle.recognise.proofs.Claims.{listing}
use Rattle.recognise.proofs.Claimed.{listed, row-says}
use Rattle.recognise.proofs.Standing.{unmarked-marks}
use Rattle.recognise.proofs.Takings.{One, taken-one}
use Rattle.recognise.proofs.Hearings.{hear-token, hear-ends}
use Rattle.recognise.proofs.Pieces.{slice-part}

-- the numbers of what is said
cond-says : (t : Bool) (x y : Stepped) → x.says ≤ 93 → y.says ≤ 93 → (cond t x y).says ≤ 93
cond-says true x y h g = h
cond-says false x y h g = g

moved-says : (a : Ahead) (m : Move) (e : Effect) → m.says ≤ 93 → (moved a m e).says ≤ 93
unfolding moved
moved-says a m refuses h = omega arith
moved-says a m goes_on h = h
moved-says a m begins_node h = h
moved-says a m begins_in_list h = cond-says (eqb a.lists 0) _ _ (omega arith) h
moved-says a m closes_list h = cond-says (eqb a.lists 0) _ _ (omega arith) h
moved-says a m opens_list h = cond-says (ltb a.lists most) _ _ h (omega arith)
moved-says a m assigns h = h
moved-says a m opens_paren h = cond-says (ltb a.parens most) _ _ h (omega arith)
moved-says a m ends h = cond-says (eqb a.parens 0) _ _ h (omega arith)
moved-says a m closes_paren h = cond-says (eqb a.parens 0) _ _ (omega arith) h
moved-says a m (marks n) h = cond-says (eqb (get_or a.met n 0) 0) _ _ h (omega arith)

pub step-says-small : (a : Ahead) (k : ℕ) → (step_of a k).says ≤ 93
unfolding step_of
step-says-small a k = moved-says a (row_of a.at k) (effect_of (row_of a.at k).effect) (row-says a.at k)

none-silent : listing (λ n. is_silent (say_of (suc n))) 0 93 ≡ listing (λ n. false) 0 93
unfolding Codes.opened is_silent listing
none-silent = refl

pub says-something : (n : ℕ) → (n ≡ 0 → ⊥) → n ≤ 93 → is_silent (say_of n) ≡ false
says-something zero h g = absurd (h refl)
says-something (suc n) h g = listed (λ j. is_silent (say_of (suc j))) (λ j. false) 93 true none-silent n g

pub spoken-heard : (w : Said Saying) (l : List (Said Saying)) → is_silent w.what ≡ false → spoken (w ∷ l) ≡ w ∷ spoken l
unfolding spoken
spoken-heard w l h = ap (λ (b : Bool). elim b as (λ x. List (Said Saying)) [ true ↦ spoken l | false ↦ w ∷ spoken l ]) h

pub spoken-silent : (w : Said Saying) (l : List (Said Saying)) → is_silent w.what ≡ true → spoken (w ∷ l) ≡ spoken l
unfolding spoken
spoken-silent w l h = ap (λ (b : Bool). elim b as (λ x. List (Said Saying)) [ true ↦ spoken l | false ↦ w ∷ spoken l ]) h

-- what the token says that has been taken
abbrev pub token_said : List ℕ → Taken → Said Saying
token_said u r = record { what = say_of r.says; token = token_in u r.from r.to }

module _ (u : List ℕ) (small : length u < 18446744073709551616) (n : ℕ) (a : Ahead) (r : Taken) (one : One u n a r) where
  pub taken-further : (n < r.to) × (r.from ≤ r.to) × (r.to ≤ length u)
  taken-further =
      let t = token-at u n r.from r.to one.next-token in
      (omega (arith, t.low, t.some), omega (arith, t.some), t.high)

  pub taken-says : r.says ≤ 93
  taken-says = subst (λ (k : ℕ). k ≤ 93) one.step-says (step-says-small a (class_of (slice r.from r.to u)))

  pub record Onward (l : List (Said Saying)) : Type 0 where
    pub later : List (Said Saying)
    pub hearing : Hearing u r.to r.next (spoken later)
    pub first : spoken (token_said u r ∷ later) ≡ l

  pub taken-hears : (l : List (Said Saying)) → Hearing u n a l → Onward l
  taken-hears l g =
      let w = hear-token u small n a l r.from r.to one.next-token g in
      record {
        later = w.later;
        hearing = subst (λ (b : Ahead). Hearing u r.to b (spoken w.later)) one.step-next w.hearing;
        first = subst (λ (k : ℕ). spoken (record { what = say_of k; token = token_in u r.from r.to } ∷ w.later) ≡ l) one.step-says w.first;
      }

  -- a token that says nothing is passed
  pub taken-silent : r.says ≡ 0 → (l : List (Said Saying)) → Hearing u n a l → Hearing u r.to r.next l
  unfolding Codes.opened is_silent
  taken-silent e l g =
      let o = taken-hears l g in
      let s : is_silent (say_of r.says) ≡ true = ap (λ (k : ℕ). is_silent (say_of k)) e in
      subst (λ (k : List (Said Saying)). Hearing u r.to r.next k) (sym (spoken-silent (token_said u r) o.later s) ∙ o.first) o.hearing

  -- a token that says something is heard
  pub taken-heard : (r.says ≡ 0 → ⊥) → (l : List (Said Saying)) → Hearing u n a l → (k : List (Said Saying)) × Hearing u r.to r.next k × (token_said u r ∷ k ≡ l)
  taken-heard e l g =
      let o = taken-hears l g in
      (spoken o.later, o.hearing, sym (spoken-heard (token_said u r) o.later (says-something r.says e taken-says)) ∙ o.first)

-- what the loop keeps
pub record Kept (u : List ℕ) (m : ℕ) (b : Ahead) (n : ℕ) (a : Ahead) : Type 0 where
  pub onward : m ≤ n
  pub hears : (l : List (Said Saying)) → Hearing u m b l → Hearing u n a l

module _ (u : List ℕ) (small : length u < 18446744073709551616) (c : Cursor) (n : ℕ) (a : Ahead) (kept : Kept u c.at c.ahead n a) where
  pub advanced-over : (h : Halt) → Err h ≡ taken_of u n a → Scanned u c (record { at = n; from = 0; to = 0; says = 94; ahead = a; sayings = 0 })
  unfolding Hears.opened
  advanced-over h e = record {
    more = λ w l g. absurd (let z : w ∷ l ≡ [] = hear-ends u small n a (w ∷ l) (kept.hears (w ∷ l) g) h e in let y : ◌≡◌ {A = ℕ} 0 1 = cc in omega arith);
    done = λ g. refl;
    plain = refl;
    onward = kept.onward;
    known = omega arith;
    ordered = omega arith;
    within = omega arith;
  }

  module _ (r : Taken) (e : Ok r ≡ taken_of u n a) where
    pub further : (n < r.to) × (r.from ≤ r.to) × (r.to ≤ length u)
    further = taken-further u small n a r (taken-one u n a r e)

    pub kept_on : r.says ≡ 0 → Kept u c.at c.ahead r.to r.next
    kept_on s = record { onward = omega (arith, kept.onward, further.0); hears = λ l g. taken-silent u small n a r (taken-one u n a r e) s l (kept.hears l g) }

    pub advanced-heard : (r.says ≡ 0 → ⊥) → Scanned u c (record { at = r.to; from = r.from; to = r.to; says = r.says; ahead = r.next; sayings = 0 })
    unfolding Hears.opened token_in
    advanced-heard s = record {
      more = λ w l g. (
          let k = taken-heard u small n a r (taken-one u n a r e) s (w ∷ l) (kept.hears (w ∷ l) g) in
          let x : token_said u r ≡ w = cc in
          let y : k.0 ≡ l = cc in (
            record { what = ap (λ (z : Said Saying). z.what) x; bytes = sym (slice-part r.from r.to u) ∙ ap (λ (z : Said Saying). z.token.bytes) x; place = ap (λ (z : Said Saying). z.token.place) x },
            subst (λ (z : List (Said Saying)). Hearing u r.to r.next z) y k.1,
            omega (arith, kept.onward, further.0),
          ));
      done = λ g. absurd (let k = taken-heard u small n a r (taken-one u n a r e) s [] (kept.hears [] g) in let y : ◌≡◌ {A = ℕ} 0 1 = cc in omega arith);
      plain = refl;
      onward = omega (arith, kept.onward, further.0);
      known = omega (arith, taken-says u small n a r (taken-one u n a r e));
      ordered = further.1;
      within = further.2;
    }

-- at the beginning
pub begun : (u : List ℕ) (l : List (Said Saying)) → plan_says u ≡ some l → Hearing u 0 start_ahead (spoken l)
unfolding Hears.opened Positions.opened plan_says
begun u l e = record {
  items = sort plan ∷ [];
  stands = record { known = omega arith; had = []; marked = unmarked-marks; items = refl };
  sayings = l;
  says = says-whole notation (sort plan ∷ []) u ∙ e;
  heard = refl;
  few_parens = omega arith;
  few_lists = omega arith;
}
