-- Words that follow the rows: a text that spells them says what they say.
use Prim.Native.Nat.{ℕ, suc, ◌+◌}
use mathlib.Core.Path.{◌≡◌, refl, ◌∙◌, ap}
use mathlib.Core.Bool.{true, cond}
use mathlib.Core.List.{List, [], ◌∷◌, ◌++◌, Memᴰ}
use mathlib.Core.Option.{Option, none, some}
use lib.ListN.{length}
use Rattle.grammar.specs.Spelling.{Token, Placed, between, after, shut, feed, begin, given, pending, is_blank, whole, apart, all_end_at, placed_from, placed}
use Rattle.grammar.specs.Leads.{accepts}
use Rattle.grammar.specs.Table.{Item, sort, Row, pick, Said, rows_of, on_said, said, text_says}
use Rattle.grammar.proofs.Parts.{ends-at-blank}
use Rattle.grammar.proofs.Picks.{pick-whole}
use Rattle.grammar.proofs.Stretch.{placed-token, shut-token}
use Rattle.notation.specs.Sayings.{Saying}
use Rattle.notation.specs.Rows.{reserved, Sort, plan, rows, notation}
use Rattle.notation.specs.Reading.{plan_says}
use Rattle.notation.specs.Writing.{Word, spelt}
use Rattle.notation.proofs.OneRow.{one-row}

-- the words lead from the items s to the items s'
pub data Goes : List (Item Sort) → List Word → List (Item Sort) → Type 0 where
  stop : {s : List (Item Sort)} → Goes s [] s
  step : {i : Item Sort} {s : List (Item Sort)} {w : Word} {ws : List Word} {s' : List (Item Sort)} (r : Row Sort Saying)
      → pick reserved (rows_of notation i) w.token ≡ some r → r.says ≡ w.says → Goes (r.rest ++ s) ws s' → Goes (i ∷ s) (w ∷ ws) s'

pub goes-append : {s s' s'' : List (Item Sort)} {ws vs : List Word} → Goes s ws s' → Goes s' vs s'' → Goes s (ws ++ vs) s''
goes-append stop k = k
goes-append (step r e f g) k = step r e f (goes-append g k)

-- a row that the token begins
pub by_row : {s s' : List (Item Sort)} {ws : List Word} (x : Sort) (r : Row Sort Saying) (t : Token) → Memᴰ r (rows x) → accepts reserved r.lead t ≡ true → Goes (r.rest ++ s) ws s'
    → Goes (sort x ∷ s) (record { says = r.says; token = t } ∷ ws) s'
by_row x r t m e g = step r (one-row x r t m e) refl g

-- ---- what the words say, with the places at which they are spelt
unfoldable pub places_from : ℕ → List Word → List Placed
places_from n [] = []
places_from n (w ∷ ws) = record { bytes = w.token; place = n } ∷ places_from (suc (n + length w.token)) ws

unfoldable pub said_from : ℕ → List Word → List (Said Saying)
said_from n [] = []
said_from n (w ∷ ws) = record { what = w.says; token = record { bytes = w.token; place = n } } ∷ said_from (suc (n + length w.token)) ws

goes-said : (n : ℕ) {s : List (Item Sort)} {ws : List Word} {s' : List (Item Sort)} → Goes s ws s' → s' ≡ [] → said notation s (places_from n ws) ≡ some (said_from n ws)
unfolding said on_said places_from said_from
goes-said n stop e = rw e refl
goes-said n (step {i = i} {s = s} {w = w} {ws = ws} r e f g) z =
    ap (λ o. on_said notation (record { bytes = w.token; place = n }) o (λ r. said notation (r.rest ++ s) (places_from (suc (n + length w.token)) ws))) e
    ∙ told (said notation (r.rest ++ s) (places_from (suc (n + length w.token)) ws)) (goes-said (suc (n + length w.token)) g z)
  where
    told : (o : Option (List (Said Saying))) → o ≡ some (said_from (suc (n + length w.token)) ws)
        → elim o as (λ _. Option (List (Said Saying))) [ none ↦ none | some l ↦ some (record { what = r.says; token = record { bytes = w.token; place = n } } ∷ l) ]
        ≡ some (record { what = w.says; token = record { bytes = w.token; place = n } } ∷ said_from (suc (n + length w.token)) ws)
    told o q = rw (q, f) refl

abbrev Wholes : List Word → Type 0
Wholes [] = Unit {0}
Wholes (w ∷ ws) = (whole w.token ≡ true) × Wholes ws

goes-whole : {s s' : List (Item Sort)} {ws : List Word} → Goes s ws s' → Wholes ws
goes-whole stop = tt
goes-whole (step {i = i} {w = w} r e f g) = (pick-whole reserved (rows_of notation i) w.token (rw e tt), goes-whole g)

ends : (t : Token) (u : List ℕ) → apart t (32 ∷ u) ≡ true
unfolding apart
ends t u = rw (ends-at-blank t) refl

spelt-placed : (n : ℕ) (ws : List Word) → Wholes ws → placed_from between n (spelt ws) ≡ places_from n ws
unfolding spelt places_from placed_from given all_end_at feed begin is_blank pending
spelt-placed n [] h = refl
spelt-placed n (w ∷ ws) h =
    placed-token w.token (32 ∷ spelt ws) n h.0 (ends w.token (spelt ws))
    ∙ ap (λ l. record { bytes = w.token; place = n } ∷ l) (spelt-placed (suc (n + length w.token)) ws h.1)

spelt-shut : (ws : List Word) → Wholes ws → shut (after between (spelt ws)) ≡ true
unfolding spelt shut after feed begin is_blank
spelt-shut [] h = refl
spelt-shut (w ∷ ws) h = shut-token w.token (32 ∷ spelt ws) h.0 (ends w.token (spelt ws)) ∙ spelt-shut ws h.1

pub goes-says : (ws : List Word) → Goes (sort plan ∷ []) ws [] → plan_says (spelt ws) ≡ some (said_from 0 ws)
unfolding plan_says text_says placed
goes-says ws g =
    ap (λ b. cond b (said notation (sort plan ∷ []) (placed (spelt ws))) none) (spelt-shut ws (goes-whole g))
    ∙ ap (said notation (sort plan ∷ [])) (spelt-placed 0 ws (goes-whole g)) ∙ goes-said 0 g refl
