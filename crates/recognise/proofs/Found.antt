-- The row that is found by the classes of the rows is the one that the grammar picks.
use Prim.Native.Nat.{ℕ, zero, suc, ◌+◌, ◌<◌}
use mathlib.Core.Path.{◌≡◌, refl, ◌∙◌, sym, ap}
use mathlib.Core.Bool.{Bool, true, false, not, ◌||◌, cond}
use mathlib.Core.List.{List, [], ◌∷◌, ◌++◌, append-nil}
use mathlib.Core.Option.{Option, none, some}
use native.Mathlib.Nat.{add-zero, zero-add, suc-add, add-suc, not-suc-le-zero, le_of_suc-le-suc}
use lib.ListN.{get_or}
use Rattle.grammar.specs.Leads as Leads
use Rattle.grammar.specs.Leads.{Lead, the, name, up_to, real}
use Rattle.grammar.specs.Table.{Item, Row}
use Rattle.notation.specs.Sayings.{Saying}
use Rattle.notation.specs.Rows as Rows
use Rattle.notation.specs.Rows.{Sort, attributes, rows, met, once}
use Rattle.notation.specs.Classes as Classes
use Rattle.notation.specs.Classes.{accepts_class, pick_class}
use Rattle.recognise.proofs.Claims as Claims
use Rattle.recognise.proofs.Claims.{Outcome, Guarded, Reached, reach_of, within, made, reached_of, allowed, found, free, attributes_of, listing}

-- what a picked row makes
unfoldable pub after : List (Item Sort) → Option (Row Sort Saying) → Option Outcome
after s none = none
after s (some r) = some (made s r)

within-accepts : (l : Lead) (k : ℕ) → within (reach_of l) k ≡ accepts_class l k
unfolding reach_of within accepts_class
within-accepts (the w) k = refl
within-accepts name k = refl
within-accepts (up_to n) k = refl
within-accepts real k = refl

module _ (r : Row Sort Saying) (rs : List (Row Sort Saying)) (k : ℕ) where
  pick_yes : accepts_class r.lead k ≡ true → pick_class (r ∷ rs) k ≡ some r
  unfolding pick_class
  pick_yes h = ap (λ (b : Bool). elim b as (λ x. Option (Row Sort Saying)) [ true ↦ some r | false ↦ pick_class rs k ]) h

  pick_no : accepts_class r.lead k ≡ false → pick_class (r ∷ rs) k ≡ pick_class rs k
  unfolding pick_class
  pick_no h = ap (λ (b : Bool). elim b as (λ x. Option (Row Sort Saying)) [ true ↦ some r | false ↦ pick_class rs k ]) h

module _ (m : List ℕ) (r : Reached) (rs : List Reached) (k : ℕ) where
  found-yes : within r.reach k ≡ true → found m (r ∷ rs) k ≡ allowed m r.guard r.outcome
  unfolding found
  found-yes h = ap (λ (b : Bool). elim b as (λ x. Option Outcome) [ true ↦ allowed m r.guard r.outcome | false ↦ found m rs k ]) h

  found-no : within r.reach k ≡ false → found m (r ∷ rs) k ≡ found m rs k
  unfolding found
  found-no h = ap (λ (b : Bool). elim b as (λ x. Option Outcome) [ true ↦ allowed m r.guard r.outcome | false ↦ found m rs k ]) h

-- rows that may come at any time
free_step : (m : List ℕ) (s : List (Item Sort)) (r : Row Sort Saying) (rs : List (Row Sort Saying)) (k : ℕ) (b : Bool) → accepts_class r.lead k ≡ b
    → found m (reached_of s (free rs)) k ≡ after s (pick_class rs k) → found m (reached_of s (free (r ∷ rs))) k ≡ after s (pick_class (r ∷ rs) k)
unfolding reached_of free after allowed
free_step m s r rs k true h e = found-yes m _ _ k (within-accepts r.lead k ∙ h) ∙ sym (ap (after s) (pick_yes r rs k h))
free_step m s r rs k false h e = found-no m _ _ k (within-accepts r.lead k ∙ h) ∙ e ∙ sym (ap (after s) (pick_no r rs k h))

pub found-free : (m : List ℕ) (s : List (Item Sort)) (rs : List (Row Sort Saying)) (k : ℕ) → found m (reached_of s (free rs)) k ≡ after s (pick_class rs k)
unfolding reached_of free found after pick_class
found-free m s [] k = refl
found-free m s (r ∷ rs) k = free_step m s r rs k (accepts_class r.lead k) refl (found-free m s rs k)

-- rows of which some may come only once
unfoldable pub put : List ℕ → Option ℕ → Row Sort Saying → List (Row Sort Saying) → List (Row Sort Saying)
put m none r rs = r ∷ rs
put m (some n) r rs = once m n r ++ rs

unfoldable pub unguarded : List ℕ → List Guarded → List (Row Sort Saying)
unguarded m [] = []
unguarded m (g ∷ gs) = put m g.guard g.row (unguarded m gs)

unfoldable pub any_within : List Reached → ℕ → Bool
any_within [] k = false
any_within (r ∷ rs) k = within r.reach k || any_within rs k

unfoldable pub alone : Option ℕ → Bool → Bool
alone none b = true
alone (some n) b = not b

-- a row that may come only once is the only one of its class
unfoldable pub lonely : List Reached → ℕ → Bool
lonely [] k = true
lonely (r ∷ rs) k = cond (within r.reach k) (alone r.guard (any_within rs k)) (lonely rs k)

module _ (m : List ℕ) (n : ℕ) (r : Row Sort Saying) (rs : List (Row Sort Saying)) (k : ℕ) where
  once-no : accepts_class r.lead k ≡ false → pick_class (once m n r ++ rs) k ≡ pick_class rs k
  unfolding once
  once-no h = go (met n m)
    where
      go : (b : Bool) → pick_class (cond b [] (r ∷ []) ++ rs) k ≡ pick_class rs k
      go true = refl
      go false = pick_no r rs k h

  once-yes : accepts_class r.lead k ≡ true → pick_class rs k ≡ none → pick_class (once m n r ++ rs) k ≡ cond (met n m) none (some r)
  unfolding once
  once-yes h e = go (met n m)
    where
      go : (b : Bool) → pick_class (cond b [] (r ∷ []) ++ rs) k ≡ cond b none (some r)
      go true = e
      go false = pick_yes r rs k h

or_left : (a b : Bool) → a || b ≡ false → a ≡ false
or_left true b h = h
or_left false b h = refl

or_right : (a b : Bool) → a || b ≡ false → b ≡ false
or_right true b h = cc
or_right false b h = h

put-no : (m : List ℕ) (o : Option ℕ) (r : Row Sort Saying) (rs : List (Row Sort Saying)) (k : ℕ) → accepts_class r.lead k ≡ false → pick_class (put m o r rs) k ≡ pick_class rs k
unfolding put
put-no m none r rs k h = pick_no r rs k h
put-no m (some n) r rs k h = once-no m n r rs k h

none_within : (m : List ℕ) (s : List (Item Sort)) (gs : List Guarded) (k : ℕ) → any_within (reached_of s gs) k ≡ false → pick_class (unguarded m gs) k ≡ none
unfolding reached_of any_within unguarded pick_class
none_within m s [] k h = refl
none_within m s (g ∷ gs) k h =
    let a : within (reach_of g.row.lead) k ≡ false = or_left _ (any_within (reached_of s gs) k) h in
    put-no m g.guard g.row (unguarded m gs) k (sym (within-accepts g.row.lead k) ∙ a)
    ∙ none_within m s gs k (or_right (within (reach_of g.row.lead) k) _ h)

after-cond : (s : List (Item Sort)) (r : Row Sort Saying) (b : Bool) → after s (cond b none (some r)) ≡ cond b none (some (made s r))
unfolding after
after-cond s r true = refl
after-cond s r false = refl

not-true : (b : Bool) → not b ≡ true → b ≡ false
not-true true h = sym h
not-true false h = refl

module _ (m : List ℕ) (s : List (Item Sort)) (r : Row Sort Saying) (gs : List Guarded) (k : ℕ) where
  abbrev first : Option ℕ → Reached
  first o = record { reach = reach_of r.lead; guard = o; outcome = made s r }

  abbrev Step : Option ℕ → Type 0
  Step o = found m (first o ∷ reached_of s gs) k ≡ after s (pick_class (put m o r (unguarded m gs)) k)

  guarded-step : (o : Option ℕ) (b : Bool) → accepts_class r.lead k ≡ b → lonely (first o ∷ reached_of s gs) k ≡ true
      → (lonely (reached_of s gs) k ≡ true → found m (reached_of s gs) k ≡ after s (pick_class (unguarded m gs) k)) → Step o
  unfolding lonely put allowed after alone
  guarded-step none true h l e = found-yes m _ _ k (within-accepts r.lead k ∙ h) ∙ sym (ap (after s) (pick_yes r _ k h))
  guarded-step none false h l e =
      let w : within (reach_of r.lead) k ≡ false = within-accepts r.lead k ∙ h in
      found-no m _ _ k w ∙ e (rw w at l) ∙ sym (ap (after s) (pick_no r _ k h))
  guarded-step (some n) true h l e =
      let w : within (reach_of r.lead) k ≡ true = within-accepts r.lead k ∙ h in
      let u : any_within (reached_of s gs) k ≡ false = not-true _ (rw w at l) in
      found-yes m _ _ k w ∙ sym (after-cond s r (met n m)) ∙ sym (ap (after s) (once-yes m n r _ k h (none_within m s gs k u)))
  guarded-step (some n) false h l e =
      let w : within (reach_of r.lead) k ≡ false = within-accepts r.lead k ∙ h in
      found-no m _ _ k w ∙ e (rw w at l) ∙ sym (ap (after s) (once-no m n r _ k h))

found-guarded : (m : List ℕ) (s : List (Item Sort)) (gs : List Guarded) (k : ℕ) → lonely (reached_of s gs) k ≡ true → found m (reached_of s gs) k ≡ after s (pick_class (unguarded m gs) k)
unfolding reached_of found after pick_class unguarded
found-guarded m s [] k l = refl
found-guarded m s (g ∷ gs) k l = guarded-step m s g.row gs k g.guard (accepts_class g.row.lead k) refl l (found-guarded m s gs k)

-- the rows of a node's attributes
attributes-rows : (m : List ℕ) → unguarded m (attributes_of m) ≡ rows (attributes m)
unfolding Rows.opened put unguarded Claims.opened
attributes-rows m = rw append-nil

lonely-attributes : (m : List ℕ) → listing (λ k. lonely (reached_of [] (attributes_of m)) k) 0 76 ≡ listing (λ k. true) 0 76
unfolding Leads.opened Rows.opened Classes.opened Claims.opened lonely alone any_within
lonely-attributes m = refl

pub listing-at {ℓ} : {A : Type ℓ} (f : ℕ → A) (i n j : ℕ) (d : A) → j < n → get_or (listing f i n) j d ≡ f (i + j)
unfolding listing
listing-at f i zero j d h = absurd (not-suc-le-zero h)
listing-at f i (suc n) zero d h = ap f (sym (add-zero i))
listing-at f i (suc n) (suc j) d h = listing-at f (suc i) n j d (le_of_suc-le-suc h) ∙ ap f (suc-add i j ∙ sym (add-suc i j))

pub found-attributes : (m : List ℕ) (k : ℕ) → k < 76 → found m (reached_of [] (attributes_of m)) k ≡ after [] (pick_class (rows (attributes m)) k)
found-attributes m k h = found-guarded m [] (attributes_of m) k l ∙ ap (λ (rs : List (Row Sort Saying)). after [] (pick_class rs k)) (attributes-rows m)
  where
    l : lonely (reached_of [] (attributes_of m)) k ≡ true
    l =
        sym (listing-at (λ j. lonely (reached_of [] (attributes_of m)) j) 0 76 k false h ∙ ap (λ j. lonely (reached_of [] (attributes_of m)) j) (zero-add k))
        ∙ ap (λ (xs : List Bool). get_or xs k false) (lonely-attributes m) ∙ listing-at (λ j. true) 0 76 k false h
