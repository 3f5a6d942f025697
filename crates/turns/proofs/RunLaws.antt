-- A run round by round: how a step ended, the list's part put back, and what is left of the run.
use Prim.Native.Nat.{ℕ, suc, ◌+◌, ◌-◌, ◌≤◌, ◌<◌}
use mathlib.Core.Path.{◌≡◌, refl, sym, ap, ◌∙◌, subst}
use mathlib.Core.Bool.{Bool, true, false}
use mathlib.Core.List.{List, ◌++◌, append-nil}
use native.Mathlib.Omega.{arith}
use native.Mathlib.Numerals.{add-one}
use lib.ListN.{length, take, drop, length-drop, take-append-drop}
use lib.Seq.{drop-drop, drop-length, take_all}
use borrow.Rule.Slice.PartMut.{put_mid, Post-is}
use lib.Dec.{leb}
use borrow.Author.Tests.{leb-true, leb-false, le-leb, lt-leb}
use Rattle.plexil.specs.declared.State.{State}
use Rattle.plexil.specs.declared.Card.{Card}
use Rattle.plexil.specs.declared.Ran.{Ran}
use Rattle.plexil.specs.Lists.{put}
use Rattle.plexil.specs.Image.{Image}
use Rattle.plexil.specs.Micro.{step, words, quiet}
use Rattle.plexil.specs.Quiescence.{RunEnd, at_quiet, spent, no_room, Run, stop, fits, run_from, run}
use Rattle.plexil.specs.Replies.{end_answer, phase_after, has_run}
use Rattle.plexil.specs.Promises.{IsAdmitted, IsKept}
use Rattle.plexil.proofs.ListLaws.{if-true, if-false}
use Rattle.plexil.proofs.PutLaws.{length-put}
use Rattle.plexil.proofs.RunCourse.{run-quiet, run-spent, run-no-room, run_on}
use Rattle.plexil.proofs.StepKept.{step_kept}
use Rattle.micro.specs.declared.steps.Stepped.{Stepped}
use Rattle.micro.specs.declared.steps.Stepped.TheVariants.{Quiet, NoRoom, Done}
use Rattle.micro.specs.Stepped.{stepped_of, part_after}
use Rattle.turns.specs.Ended.{ran_to}

-- ---- how a step ended
-- what a step did, and the state then; s where it did nothing
done_of : Stepped → State → ℕ × State
done_of Quiet s = (0, s)
done_of NoRoom s = (0, s)
done_of (Done n t) s = (n, t)

code_of : Stepped → ℕ
code_of Quiet = 0
code_of NoRoom = 1
code_of (Done n t) = 2

other : {r a b : Stepped} → r ≡ a → r ≡ b → (code_of a ≡ code_of b → ⊥) → ⊥
other h g f = f (ap code_of (sym h ∙ g))

module _ (p : Image) (s : State) (part : List ℕ) {r : Stepped} {l : List ℕ} (e : r ≡ stepped_of p s part) (h : l ≡ part_after p s part) where
  quiet-ends : quiet p s ≡ true → (r ≡ Quiet) × (l ≡ part)
  unfolding stepped_of part_after
  quiet-ends q = (e ∙ if-true _ _ _ q, h ∙ if-true _ _ _ q)

  crowded-ends : quiet p s ≡ false → leb (length (words p s)) (length part) ≡ false → (r ≡ NoRoom) × (l ≡ part)
  unfolding stepped_of part_after
  crowded-ends q f = (e ∙ (if-false _ _ _ q ∙ if-false _ _ _ f), h ∙ (if-false _ _ _ q ∙ if-false _ _ _ f))

  done-ends : quiet p s ≡ false → leb (length (words p s)) (length part) ≡ true → (r ≡ Done (length (words p s)) (step p s)) × (l ≡ put part 0 (words p s))
  unfolding stepped_of part_after
  done-ends q f = (e ∙ (if-false _ _ _ q ∙ if-true _ _ _ f), h ∙ (if-false _ _ _ q ∙ if-true _ _ _ f))

  pub ended-quiet : r ≡ Quiet → (quiet p s ≡ true) × (l ≡ part)
  unfolding code_of
  ended-quiet a = by (quiet p s) refl (leb (length (words p s)) (length part)) refl
    where
      by : (q : Bool) → quiet p s ≡ q → (f : Bool) → leb (length (words p s)) (length part) ≡ f → (quiet p s ≡ true) × (l ≡ part)
      by true q f g = (q, (quiet-ends q).1)
      by false q false g = absurd (other a (crowded-ends q g).0 (λ z. omega arith))
      by false q true g = absurd (other a (done-ends q g).0 (λ z. omega arith))

  pub ended-crowded : r ≡ NoRoom → (quiet p s ≡ false) × (leb (length (words p s)) (length part) ≡ false) × (l ≡ part)
  unfolding code_of
  ended-crowded a = by (quiet p s) refl (leb (length (words p s)) (length part)) refl
    where
      by : (q : Bool) → quiet p s ≡ q → (f : Bool) → leb (length (words p s)) (length part) ≡ f → (quiet p s ≡ false) × (leb (length (words p s)) (length part) ≡ false) × (l ≡ part)
      by true q f g = absurd (other a (quiet-ends q).0 (λ z. omega arith))
      by false q false g = (q, g, (crowded-ends q g).1)
      by false q true g = absurd (other a (done-ends q g).0 (λ z. omega arith))

  pub ended-done : {n : ℕ} {t : State} → r ≡ Done n t
      → (quiet p s ≡ false) × (leb (length (words p s)) (length part) ≡ true) × (n ≡ length (words p s)) × (t ≡ step p s) × (l ≡ put part 0 (words p s))
  unfolding code_of done_of
  ended-done {n} {t} a = by (quiet p s) refl (leb (length (words p s)) (length part)) refl
    where
      by : (q : Bool) → quiet p s ≡ q → (f : Bool) → leb (length (words p s)) (length part) ≡ f
          → (quiet p s ≡ false) × (leb (length (words p s)) (length part) ≡ true) × (n ≡ length (words p s)) × (t ≡ step p s) × (l ≡ put part 0 (words p s))
      by true q f g = absurd (other a (quiet-ends q).0 (λ z. omega arith))
      by false q false g = absurd (other a (crowded-ends q g).0 (λ z. omega arith))
      by false q true g =
          let d = ap (λ (x : Stepped). done_of x s) (sym a ∙ (done-ends q g).0) in
          (q, g, ap (λ (x : ℕ × State). x.0) d, ap (λ (x : ℕ × State). x.1) d, (done-ends q g).1)

-- ---- the list's part from place k on, as it is lent and put back
abbrev lent : List ℕ → ℕ → List ℕ
lent l k = take (length l - k) (drop k l)

abbrev back : List ℕ → ℕ → List ℕ → List ℕ
back l k part = put_mid k (length l - k) l part

module _ (l : List ℕ) (k : ℕ) (h : k ≤ length l) where
  lent_is : lent l k ≡ drop k l
  lent_is = take_all (length l - k) (drop k l) (omega (arith, length-drop k l))

  back_is : (part : List ℕ) → back l k part ≡ take k l ++ part
  back_is part = ap (λ (x : List ℕ). take k l ++ (part ++ x)) (Post-is k (length l) l h ∙ drop-length l) ∙ ap (λ (x : List ℕ). take k l ++ x) (append-nil part)

  pub back-same : {part : List ℕ} → part ≡ lent l k → back l k part ≡ l
  back-same {part} e = back_is part ∙ (ap (λ (x : List ℕ). take k l ++ x) (e ∙ lent_is) ∙ take-append-drop k l)

  back-put : (ws : List ℕ) {part : List ℕ} → part ≡ put (lent l k) 0 ws → back l k part ≡ put l k ws
  unfolding put
  back-put ws {part} e =
      let a : 0 + length ws ≡ length ws = omega arith in
      back_is part
      ∙ (ap (λ (x : List ℕ). take k l ++ x) (e ∙ ap (λ (x : List ℕ). put x 0 ws) lent_is)
      ∙ ap (λ (x : List ℕ). take k l ++ (ws ++ x)) (ap (λ (n : ℕ). drop n (drop k l)) a ∙ drop-drop (length ws) k l))

  part-fits : (p : Image) (s : State) → leb (length (words p s)) (length (lent l k)) ≡ fits p s l k
  unfolding fits
  part-fits p s = ap (λ (x : List ℕ). leb (length (words p s)) (length x)) lent_is ∙ by (leb (length (words p s)) (length (drop k l))) refl
    where
      by : (b : Bool) → leb (length (words p s)) (length (drop k l)) ≡ b → leb (length (words p s)) (length (drop k l)) ≡ leb (k + length (words p s)) (length l)
      by true e = e ∙ sym (le-leb (k + length (words p s)) (length l) (omega (arith, leb-true (length (words p s)) (length (drop k l)) e, length-drop k l)))
      by false e = e ∙ sym (lt-leb (k + length (words p s)) (length l) (omega (arith, leb-false (length (words p s)) (length (drop k l)) e, length-drop k l)))

-- ---- what is left of the run
fits-is : (p : Image) (s : State) (l : List ℕ) (k : ℕ) → fits p s l k ≡ leb (k + length (words p s)) (length l)
unfolding fits
fits-is p s l k = refl

module _ (p : Image) (s : State) (budget : ℕ) (l₀ : List ℕ) (start : ℕ) where
  -- the run goes on from t, after `steps` steps
  pub record Going (steps : ℕ) (t : State) (l : List ℕ) (next : ℕ) : Type 0 where
    pub rest : run p s budget l₀ start ≡ run_from p (budget - steps) steps t l next
    pub within : steps ≤ budget
    pub kept : IsKept p t
    pub room : next ≤ length l
    pub long : length l ≡ length l₀

  pub going_start : IsKept p s → start ≤ length l₀ → Going 0 s l₀ start
  unfolding run
  going_start k h =
      let e : budget ≡ budget - 0 = omega arith in
      record { rest = ap (λ (n : ℕ). run_from p n 0 s l₀ start) e; within = omega arith; kept = k; room = h; long = refl }

  module _ {steps : ℕ} {t : State} {l : List ℕ} {next : ℕ} (g : Going steps t l next) where
    pub going-quiet : quiet p t ≡ true → run p s budget l₀ start ≡ stop at_quiet steps next t l
    going-quiet q = g.rest ∙ run-quiet p (budget - steps) steps t l next q

    pub going-spent : steps ≡ budget → quiet p t ≡ false → run p s budget l₀ start ≡ stop spent steps next t l
    going-spent e q = let z : budget - steps ≡ 0 = omega arith in g.rest ∙ (ap (λ (n : ℕ). run_from p n steps t l next) z ∙ run-spent p steps t l next q)

    -- the whole budget is used
    pub going-quiet-last : budget ≤ steps → quiet p t ≡ true → run p s budget l₀ start ≡ stop at_quiet budget next t l
    going-quiet-last h q = let e : steps ≡ budget = omega (arith, g.within) in going-quiet q ∙ ap (λ (n : ℕ). stop at_quiet n next t l) e

    pub going-spent-last : budget ≤ steps → quiet p t ≡ false → run p s budget l₀ start ≡ stop spent budget next t l
    going-spent-last h q = let e : steps ≡ budget = omega (arith, g.within) in going-spent e q ∙ ap (λ (n : ℕ). stop spent n next t l) e

    left : steps < budget → budget - steps ≡ suc (budget - (steps + 1))
    left h = omega arith

    pub going-crowded : steps < budget → quiet p t ≡ false → leb (length (words p t)) (length (lent l next)) ≡ false → run p s budget l₀ start ≡ stop no_room steps next t l
    going-crowded h q f =
        g.rest ∙ (ap (λ (n : ℕ). run_from p n steps t l next) (left h) ∙ run-no-room p (budget - (steps + 1)) steps t l next q (sym (part-fits l next g.room p t) ∙ f))

    pub going_on : IsAdmitted p → steps < budget → quiet p t ≡ false → leb (length (words p t)) (length (lent l next)) ≡ true
        → {n : ℕ} {t₂ : State} {part : List ℕ} → n ≡ length (words p t) → t₂ ≡ step p t → part ≡ put (lent l next) 0 (words p t)
        → Going (steps + 1) t₂ (back l next part) (next + n)
    going_on a h q f {n} {t₂} {part} en et ep =
        let el : back l next part ≡ put l next (words p t) = back-put l next g.room (words p t) ep in
        let fit : next + length (words p t) ≤ length l = leb-true _ _ (sym (fits-is p t l next) ∙ (sym (part-fits l next g.room p t) ∙ f)) in
        let long : length (back l next part) ≡ length l = ap length el ∙ length-put l next (words p t) fit in
        record {
          rest = g.rest ∙ (ap (λ (m : ℕ). run_from p m steps t l next) (left h) ∙ (run_on p (budget - (steps + 1)) steps t l next q (sym (part-fits l next g.room p t) ∙ f) ∙ moved (sym (add-one steps)) (sym et) (sym el) (sym en)));
          within = omega arith;
          kept = subst (IsKept p) (sym et) (step_kept p t a g.kept);
          room = omega (arith, long, en);
          long = long ∙ g.long;
        }
      where
        moved : {a b : ℕ} → a ≡ b → {x y : State} → x ≡ y → {k m : List ℕ} → k ≡ m → {u v : ℕ} → u ≡ v
            → run_from p (budget - (steps + 1)) a x k (next + u) ≡ run_from p (budget - (steps + 1)) b y m (next + v)
        moved e₁ e₂ e₃ e₄ = λ i. run_from p (budget - (steps + 1)) (e₁ i) (e₂ i) (e₃ i) (next + e₄ i)

-- ---- the reply
pub reply-of : (c : Card) {r : Run} (e : RunEnd) {steps next : ℕ} {t : State} {l : List ℕ} → r ≡ stop e steps next t l
    → {x : Ran} → x ≡ ran_to (end_answer e) (phase_after e) steps next t c → {k : List ℕ} → k ≡ l → (x ≡ (has_run c r).ran) × (k ≡ (has_run c r).list)
unfolding stop has_run
reply-of c e h a b = (a ∙ sym (ap (λ (y : Run). (has_run c y).ran) h), b ∙ sym (ap (λ (y : Run). (has_run c y).list) h))
