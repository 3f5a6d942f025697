-- The literals in one run of bytes, in the order of their classes, each followed by a blank: a test that antt computes.
use Rattle.std.proofs.Common.{◌≡◌, ℕ, zero, suc, ◌<◌, Bool, true, false, not, ◌&&◌, eqb, List, [], ◌∷◌, ◌++◌, length, sym, refl, ap, ◌∙◌, arith, eqb-true}
use Prim.Native.String.{String}
use mathlib.Core.Bool.{false≢true}
use mathlib.Core.Option.{none, some}
use borrow.Author.Tests.{eqb-false, not-true}
use Rattle.grammar.specs.Spelling as Spelling
use Rattle.grammar.specs.Spelling.{Token, whole}
use Rattle.grammar.specs.Leads as Leads
use Rattle.grammar.specs.Leads.{bytes, begins, the}
use Rattle.grammar.specs.Scan.{viable_by, common}
use Rattle.grammar.proofs.Bools.{both}
use Rattle.notation.specs.Rows as Rows
use Rattle.notation.specs.Classes as Classes
use Rattle.notation.specs.Classes.{literals}
use Rattle.words.specs.Viable as Viable
use Rattle.words.specs.Viable.{word_at, lead_of, viable_of, viable_class, after_blanks, common_run}
use Rattle.words.proofs.BlankLaws.{after-end, after-other}

unfoldable pub words_follow : List String → List ℕ → Bool
words_follow [] l = true
words_follow (w ∷ ws) l = begins (bytes w ++ (32 ∷ [])) l && words_follow ws (after_blanks 1 l)

unfoldable pub no_blank : List ℕ → Bool
no_blank [] = true
no_blank (b ∷ t) = not (eqb b 32) && no_blank t

-- each literal is a token, and has no blank
unfoldable pub all_fine : List String → Bool
all_fine [] = true
all_fine (w ∷ ws) = (whole (bytes w) && no_blank (bytes w)) && all_fine ws

literals-fine : all_fine literals ≡ true
unfolding all_fine no_blank Rows.opened Classes.opened Leads.opened Spelling.opened
literals-fine = refl

after_more : (l : List ℕ) (k : ℕ) → after_blanks (suc k) l ≡ after_blanks k (after_blanks 1 l)
unfolding after_blanks
after_more [] k = sym (after-end k)
after_more (b ∷ l) k = go (eqb b 32) refl (after_more l k)
  where
    go : (p : Bool) → eqb b 32 ≡ p → after_blanks (suc k) l ≡ after_blanks k (after_blanks 1 l) → after_blanks (suc k) (b ∷ l) ≡ after_blanks k (after_blanks 1 (b ∷ l))
    go true e r = rw (e, after_blanks) refl
    go false e r =
        after-other (suc k) b l (λ z. omega arith) (eqb-false b 32 e) ∙ r ∙ ap (after_blanks k) (sym (after-other 1 b l (λ z. omega arith) (eqb-false b 32 e)))

word-there : (ws : List String) (c : ℕ) → c < length ws → (w : String) × (word_at c ws ≡ some w)
unfolding word_at
word-there [] c h = absurd (omega arith)
word-there (w ∷ ws) zero h = (w, refl)
word-there (w ∷ ws) (suc c) h = word-there ws c (omega arith)

no_word : {w : String} → none ≡ some w → ⊥
no_word e = let z : ◌≡◌ {A = ℕ} 0 1 = cc in omega arith

some_is : {v w : String} → some v ≡ some w → v ≡ w
some_is e = cc

follow-at : (ws : List String) (l : List ℕ) (c : ℕ) (w : String) → words_follow ws l ≡ true → word_at c ws ≡ some w → begins (bytes w ++ (32 ∷ [])) (after_blanks c l) ≡ true
unfolding words_follow word_at
follow-at [] l c w e p = absurd (no_word p)
follow-at (v ∷ ws) l zero w e p = unfold after_blanks in (rw (← some_is p) (both (begins (bytes v ++ (32 ∷ [])) l) _ e).0)
follow-at (v ∷ ws) l (suc c) w e p = rw (after_more l c) (follow-at ws (after_blanks 1 l) c w (both (begins (bytes v ++ (32 ∷ [])) l) _ e).1 p)

fine-at : (ws : List String) (c : ℕ) (w : String) → all_fine ws ≡ true → word_at c ws ≡ some w → (whole (bytes w) ≡ true) × (no_blank (bytes w) ≡ true)
unfolding all_fine word_at
fine-at [] c w e p = absurd (no_word p)
fine-at (v ∷ ws) zero w e p = rw (← some_is p) (both (whole (bytes v)) _ (both (whole (bytes v) && no_blank (bytes v)) _ e).0)
fine-at (v ∷ ws) (suc c) w e p = fine-at ws c w (both (whole (bytes v) && no_blank (bytes v)) _ e).1 p

no_run : (l : List ℕ) → common_run l [] ≡ 0
unfolding common_run
no_run [] = refl
no_run (b ∷ l) = refl

no-common : (v : List ℕ) → common v [] ≡ 0
unfolding common
no-common [] = refl
no-common (b ∷ v) = refl

run-common : (v l : List ℕ) (t : Token) → begins (v ++ (32 ∷ [])) l ≡ true → no_blank v ≡ true → common_run l t ≡ common v t
unfolding begins no_blank common_run common
run-common v l [] e n = no_run l ∙ sym (no-common v)
run-common [] [] (c ∷ t) e n = refl
run-common [] (b ∷ l) (c ∷ t) e n = rw (← eqb-true 32 b (both (eqb 32 b) _ e).0) refl
run-common (a ∷ v) [] (c ∷ t) e n = absurd (false≢true e)
run-common (a ∷ v) (b ∷ l) (c ∷ t) e n =
    rw (← eqb-true a b h.0, not-true (eqb a 32) k.0, run-common v l t h.1 k.1) refl
  where
    h : (eqb a b ≡ true) × (begins (v ++ (32 ∷ [])) l ≡ true)
    h = both (eqb a b) _ e

    k : (not (eqb a 32) ≡ true) × (no_blank v ≡ true)
    k = both (not (eqb a 32)) (no_blank v) n

the-lead : (c : ℕ) (w : String) → word_at c literals ≡ some w → lead_of c ≡ some (the w)
unfolding lead_of
the-lead c w e = rw (e, lead_of) refl

pub prefix-told : (table : List ℕ) (c : ℕ) (t : Token) {r : ℕ} → r ≡ common_run (after_blanks c table) t → words_follow literals table ≡ true → c < 67 → r ≡ viable_class c t
unfolding viable_class viable_of viable_by
prefix-told table c t {r} e f h = go (word-there literals c (unfold Rows.opened Classes.opened in h))
  where
    go : (w : String) × (word_at c literals ≡ some w) → r ≡ viable_of (lead_of c) t
    go x =
        let g = fine-at literals c x.0 literals-fine x.1 in
        rw (the-lead c x.0 x.1, g.0) (e ∙ run-common (bytes x.0) (after_blanks c table) t (follow-at literals table c x.0 f x.1) g.1)

-- opens what the test of a run of bytes computes with
unfoldable pub tests : Unit {0}
unfolding words_follow Viable.opened Rows.opened Classes.opened Leads.opened
tests = tt
