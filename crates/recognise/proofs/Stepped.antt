-- The code's replies for a row and for a step are those of the definition.
use Prim.Native.Nat.{ℕ, zero, suc, ◌-◌, ◌<◌, ◌≤◌}
use mathlib.Core.Path.{◌≡◌, refl, ◌∙◌, sym, ap}
use mathlib.Core.Bool.{Bool, true, false, cond}
use native.Mathlib.Omega.{arith}
use lib.ListN.{get_or}
use lib.Dec.{eqb, ltb}
use borrow.Author.Tests.{lt-ltb, le-ltb}
use mathlib.Core.Logic.{inl, inr}
use Rattle.std.proofs.lemmas.Bool.{cases_lt}
use Rattle.std.specs.Prelude.{Option, Some, None}
use Rattle.recognise.specs.declared.Ahead.{Ahead}
use Rattle.recognise.specs.declared.steps.Went.{Went}
use Rattle.recognise.specs.declared.tables.Move as code_move
use Rattle.recognise.specs.declared.tables.Effect.TheVariants as code
use Rattle.recognise.specs.declared.tables.Effect.{Effect}
use Rattle.recognise.specs.Tables.{Move, effects, say_numbers, nexts, refusal, row_at, row_of}
use Rattle.recognise.specs.Steps as plan
use Rattle.recognise.specs.Steps.{Stepped, refuses, goes_on, begins_node, begins_in_list, closes_list, opens_list, assigns, opens_paren, ends, closes_paren, marks, effect_list, effect_of, most, moved, step_of}
use Rattle.recognise.specs.Replies.{effect_is, Lawful, plain_effects, effect_code, row_with, row_told, to_position, ahead_of, came}
use Rattle.recognise.proofs.Moves.{effect-marked, effect-beyond}

-- the numbers of the effects
pub code-plain : (e : ℕ) → e < 10 → get_or plain_effects e None ≡ effect_code e
unfolding effect_code
code-plain e h = rw (lt-ltb e 10 h) refl

pub code-marks : (e : ℕ) → 10 ≤ e → e < 18 → Some (code.Marks (e - 10)) ≡ effect_code e
unfolding effect_code
code-marks e h g = rw (le-ltb e 10 h, lt-ltb e 18 g) refl

pub code-none : (e : ℕ) → (e < 10 → e ≡ 0) → (10 ≤ e → 18 ≤ e) → None ≡ effect_code e
unfolding effect_code plain_effects
code-none zero h g = refl
code-none (suc e) h g = elim (cases_lt (suc e) 10) [
  | inl l ↦ absurd (let z = h l in omega arith)
  | inr l ↦ rw (le-ltb (suc e) 10 l, le-ltb (suc e) 18 (g l)) refl
]

-- a number's effect as the definition has it
told : Option Effect → plan.Effect
told None = refuses
told (Some e) = effect_is e

small : (e : ℕ) → e < 10 → effect_of e ≡ told (get_or plain_effects e None)
unfolding effect_of effect_list plain_effects effect_is told
small zero h = refl
small (suc zero) h = refl
small (suc (suc zero)) h = refl
small (suc (suc (suc zero))) h = refl
small (suc (suc (suc (suc zero)))) h = refl
small (suc (suc (suc (suc (suc zero))))) h = refl
small (suc (suc (suc (suc (suc (suc zero)))))) h = refl
small (suc (suc (suc (suc (suc (suc (suc zero))))))) h = refl
small (suc (suc (suc (suc (suc (suc (suc (suc zero)))))))) h = refl
small (suc (suc (suc (suc (suc (suc (suc (suc (suc zero))))))))) h = refl
small (suc (suc (suc (suc (suc (suc (suc (suc (suc (suc e)))))))))) h = absurd (omega arith)

code-told : (e : ℕ) → effect_of e ≡ told (effect_code e)
unfolding told effect_is
code-told e = elim (cases_lt e 10) [
  | inl h ↦ small e h ∙ ap told (code-plain e h)
  | inr h ↦ elim (cases_lt e 18) [
    | inl g ↦ effect-marked e h g ∙ ap told (code-marks e h g)
    | inr g ↦ effect-beyond e g ∙ ap told (code-none e (λ l. absurd (omega arith)) (λ l. g))
  ]
]

-- no row is told where there is none
pub none-told : None ≡ row_told refusal
unfolding row_told row_with effect_code plain_effects
none-told = refl

-- a mark is that of one of eight attributes
plain-lawful : (e n : ℕ) → get_or plain_effects e None ≡ Some (code.Marks n) → n < 8
unfolding plain_effects
plain-lawful zero n h = cc
plain-lawful (suc zero) n h = cc
plain-lawful (suc (suc zero)) n h = cc
plain-lawful (suc (suc (suc zero))) n h = cc
plain-lawful (suc (suc (suc (suc zero)))) n h = cc
plain-lawful (suc (suc (suc (suc (suc zero))))) n h = cc
plain-lawful (suc (suc (suc (suc (suc (suc zero)))))) n h = cc
plain-lawful (suc (suc (suc (suc (suc (suc (suc zero))))))) n h = cc
plain-lawful (suc (suc (suc (suc (suc (suc (suc (suc zero)))))))) n h = cc
plain-lawful (suc (suc (suc (suc (suc (suc (suc (suc (suc zero))))))))) n h = cc
plain-lawful (suc (suc (suc (suc (suc (suc (suc (suc (suc (suc e)))))))))) n h = cc

code-lawful : (e n : ℕ) → effect_code e ≡ Some (code.Marks n) → n < 8
code-lawful e n h = elim (cases_lt e 10) [
  | inl l ↦ plain-lawful e n (code-plain e l ∙ h)
  | inr l ↦ elim (cases_lt e 18) [
    | inl g ↦ (let z : Some (code.Marks (e - 10)) ≡ Some (code.Marks n) = code-marks e l g ∙ h in let y : e - 10 ≡ n = cc in omega arith)
    | inr g ↦ (let z : ◌≡◌ {A = Option Effect} None (Some (code.Marks n)) = code-none e (λ b. absurd (omega arith)) (λ b. g) ∙ h in cc)
  ]
]

-- what a row that is told tells
pub record Row (r : Move) (m : code_move.Move) : Type 0 where
  pub effect : effect_of r.effect ≡ effect_is m.effect
  pub says : m.says ≡ r.says
  pub next : m.next ≡ r.next
  pub lawful : Lawful m.effect

pub row-some : (r : Move) (m : code_move.Move) → Some m ≡ row_told r → Row r m
unfolding row_told row_with told Lawful
row-some r m h = go (effect_code r.effect) refl h
  where
    go : (o : Option Effect) → effect_code r.effect ≡ o → Some m ≡ row_with o r → Row r m
    go None e h = cc
    go (Some x) e h =
        let same : x ≡ m.effect = cc in
        record { effect = code-told r.effect ∙ ap told e ∙ ap effect_is same; says = cc; next = cc; lawful = λ n g. code-lawful r.effect n (e ∙ ap Some same ∙ ap Some g) }

row-none : (r : Move) → None ≡ row_told r → effect_of r.effect ≡ refuses
unfolding row_told row_with told
row-none r h = go (effect_code r.effect) refl h
  where
    go : (o : Option Effect) → effect_code r.effect ≡ o → None ≡ row_with o r → effect_of r.effect ≡ refuses
    go None e h = code-told r.effect ∙ ap told e
    go (Some x) e h = cc

-- the reply with what the row says
with_says : ℕ → Option Ahead → Option Went
with_says w None = None
with_says w (Some n) = Some (record { says = w; next = n })

cond-came : (w : ℕ) (b : Bool) (x y s t : Stepped) → with_says w (ahead_of x) ≡ came s → with_says w (ahead_of y) ≡ came t → with_says w (ahead_of (cond b x y)) ≡ came (cond b s t)
cond-came w true x y s t h g = h
cond-came w false x y s t h g = g

moved-came : (a : Ahead) (r : Move) (e : plan.Effect) → with_says r.says (ahead_of (moved a (to_position r.next) e)) ≡ came (moved a r e)
unfolding moved ahead_of came with_says
moved-came a r refuses = refl
moved-came a r goes_on = refl
moved-came a r begins_node = refl
moved-came a r begins_in_list = cond-came r.says (eqb a.lists 0) _ _ _ _ refl refl
moved-came a r closes_list = cond-came r.says (eqb a.lists 0) _ _ _ _ refl refl
moved-came a r opens_list = cond-came r.says (ltb a.lists most) _ _ _ _ refl refl
moved-came a r assigns = refl
moved-came a r opens_paren = cond-came r.says (ltb a.parens most) _ _ _ _ refl refl
moved-came a r ends = cond-came r.says (eqb a.parens 0) _ _ _ _ refl refl
moved-came a r closes_paren = cond-came r.says (eqb a.parens 0) _ _ _ _ refl refl
moved-came a r (marks n) = cond-came r.says (eqb (get_or a.met n 0) 0) _ _ _ _ refl refl

module _ (a : Ahead) (k : ℕ) where
  pub step-none : None ≡ row_told (row_of a.at k) → None ≡ came (step_of a k)
  unfolding step_of moved came
  step-none h = rw (row-none (row_of a.at k) h) refl

  step-with : (m : code_move.Move) → Some m ≡ row_told (row_of a.at k) → (o : Option Ahead) → o ≡ ahead_of (moved a (to_position m.next) (effect_is m.effect)) → with_says m.says o ≡ came (step_of a k)
  unfolding step_of
  step-with m h o e =
      let r = row-some (row_of a.at k) m h in
      rw (e, r.says, r.next, sym r.effect) (moved-came a (row_of a.at k) (effect_of (row_of a.at k).effect))

  pub step-refused : (m : code_move.Move) → Some m ≡ row_told (row_of a.at k) → None ≡ ahead_of (moved a (to_position m.next) (effect_is m.effect)) → None ≡ came (step_of a k)
  unfolding with_says
  step-refused m h e = step-with m h None e

  pub step-went : (m : code_move.Move) → Some m ≡ row_told (row_of a.at k) → (n : Ahead) → Some n ≡ ahead_of (moved a (to_position m.next) (effect_is m.effect)) → Some (record { says = m.says; next = n }) ≡ came (step_of a k)
  unfolding with_says
  step-went m h n e = step-with m h (Some n) e

-- a row of the tables
module _ (i : ℕ) where
  pub at-none : None ≡ effect_code (get_or effects i 0) → None ≡ row_told (row_at i)
  unfolding row_told row_at row_with
  at-none h = rw (sym h) refl

  pub at-some : (e : Effect) → Some e ≡ effect_code (get_or effects i 0) → Some (record { effect = e; says = get_or say_numbers i 0; next = get_or nexts i 0 }) ≡ row_told (row_at i)
  unfolding row_told row_at row_with
  at-some e h = rw (sym h) refl
