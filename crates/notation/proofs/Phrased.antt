-- What an accepted text says is a phrase of specs/Phrases: for each sort of the grammar the phrase that its rows speak.
use mathlib.Core.Path.{◌≡◌, refl, ap, subst}
use mathlib.Core.Bool.{Bool, true, false, cond}
use mathlib.Core.List.{List, [], ◌∷◌, ◌++◌}
use mathlib.Core.Option.{Option, none, some}
use Rattle.grammar.specs.Spelling.{Token, Placed, after, between, shut, placed}
use Rattle.grammar.specs.Leads.{accepts}
use Rattle.grammar.specs.Table.{Item, sort, Row, pick, Said, rows_of, on_said, said, text_says}
use Rattle.notation.specs.Sayings.{Saying}
use Rattle.notation.specs.Rows.{reserved, Sort, plan, Rows, notation}
use Rattle.notation.specs.Spoken.{spoken}
use Rattle.notation.specs.Phrases.{Sayings, Plan}
use Rattle.notation.specs.Reading.{plan_says}
use Rattle.notation.specs.Promises.{PlansPhrased}
use Rattle.notation.proofs.SortPhrases.{Then, then-apart, then-join, Makes, Each}
use Rattle.notation.proofs.PhraseRows.{of-item}

-- ---- the tokens of a text, one after another
abbrev Kept : Item Sort → Option (Row Sort Saying) → Type 1
Kept i none = Unit {1}
Kept i (some r) = Makes i r

picked : (i : Item Sort) (rs : Rows) (t : Token) → Each i rs → Kept i (pick reserved rs t)
unfolding pick
picked i [] t e = tt
picked i (r ∷ rs) t e = go (accepts reserved r.lead t) (picked i rs t e.1)
  where
    go : (b : Bool) → Kept i (pick reserved rs t) → Kept i (cond b (some r) (pick reserved rs t))
    go true h = e.0
    go false h = h

no-some : {A : Type 0} {a : A} → none ≡ some a → ⊥
no-some e = subst (λ o. elim o as (λ _. Type 0) [ none ↦ Unit {0} | some a ↦ ⊥ ]) e tt

some-inner : {A : Type 0} (a b : A) → some a ≡ some b → a ≡ b
some-inner a b e = ap (λ o. elim o as (λ _. _) [ none ↦ a | some x ↦ x ]) e

said-then : (w : List Placed) (s : List (Item Sort)) (R : Sayings → Type 0) (l : List (Said Saying)) → R [] → said notation s w ≡ some l → Then s R (spoken l)
unfolding said on_said spoken
said-then [] [] R l h e = subst (λ k. R (spoken k)) (some-inner [] l e) h
said-then [] (i ∷ s) R l h e = absurd (no-some e)
said-then (t ∷ w) [] R l h e = absurd (no-some e)
said-then (t ∷ w) (i ∷ s) R l h e = chosen (pick reserved (rows_of notation i) t.bytes) (picked i (rows_of notation i) t.bytes (of-item i)) (λ r k. said-then w (r.rest ++ s) R k h) e
  where
    later : (r : Row Sort Saying) → Makes i r → (o : Option (List (Said Saying))) → ((k : List (Said Saying)) → o ≡ some k → Then (r.rest ++ s) R (spoken k))
        → elim o as (λ _. Option (List (Said Saying))) [ none ↦ none | some k ↦ some (record { what = r.says; token = t } ∷ k) ] ≡ some l → Then (i ∷ s) R (spoken l)
    later r m none f e = absurd (no-some e)
    later r m (some k) f e =
        subst (λ k. Then (i ∷ s) R (spoken k)) (some-inner (record { what = r.says; token = t } ∷ k) l e)
        (then-join i s R _ (m (Then s R) t k (then-apart r.rest s R (spoken k) (f k refl))))

    chosen : (o : Option (Row Sort Saying)) → Kept i o
        → ((r : Row Sort Saying) (k : List (Said Saying)) → said notation (r.rest ++ s) w ≡ some k → Then (r.rest ++ s) R (spoken k)) → on_said notation t o (λ r. said notation (r.rest ++ s) w) ≡ some l → Then (i ∷ s) R (spoken l)
    chosen none m f e = absurd (no-some e)
    chosen (some r) m f e = later r m (said notation (r.rest ++ s) w) (f r) e

-- what an accepted text says
pub plans-phrased : PlansPhrased
unfolding plan_says text_says
plans-phrased u l e = shutting (shut (after between u)) e
  where
    shutting : (b : Bool) → cond b (said notation (sort plan ∷ []) (placed u)) none ≡ some l → Plan (spoken l)
    shutting true e = let h = said-then (placed u) (sort plan ∷ []) (λ k. k ≡ []) l refl e in h.1 (h.2)
    shutting false e = absurd (no-some e)
