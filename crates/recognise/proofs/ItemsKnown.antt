-- The words and signs that a position waits for are all known: so the class of a token decides whether it can come.
use Prim.Native.Nat.{ℕ, zero, suc}
use mathlib.Core.Path.{◌≡◌, refl, ◌∙◌, sym, ap}
use mathlib.Core.Bool.{Bool, true, false, ◌&&◌, cond}
use mathlib.Core.List.{List, [], ◌∷◌, ◌++◌}
use lib.Dec.{eqb}
use Rattle.grammar.specs.Spelling as Spelling
use Rattle.grammar.specs.Leads as Leads
use Rattle.grammar.specs.Table.{Item, lit, sort}
use Rattle.notation.specs.Rows as Rows
use Rattle.notation.specs.Rows.{Close, semicolon, bracket, Sort, attributes}
use Rattle.notation.specs.Classes as Classes
use Rattle.notation.specs.Classes.{known_item, known_items}
use Rattle.recognise.specs.declared.Ahead.{Ahead}
use Rattle.recognise.specs.Positions as Positions
use Rattle.recognise.specs.Positions.{Bottom, lists, body, expression, position_at, tower, closer, parentheses}
use Rattle.recognise.specs.Hears.{rear_item, below, items_of, Stands}
use Rattle.recognise.proofs.Claims.{listing}
use Rattle.recognise.proofs.Claimed.{listed}

fronts-known : (c : Close) → listing (λ p. known_items (position_at c p).front) 0 78 ≡ listing (λ p. true) 0 78
unfolding Spelling.opened Leads.opened Rows.opened Classes.opened Positions.opened listing
fronts-known semicolon = refl
fronts-known bracket = refl

both : (a b : Bool) → a ≡ true → b ≡ true → a && b ≡ true
both a b h g = rw (h, g)

and_left : (a b : Bool) → a && b ≡ true → a ≡ true
and_left true b h = refl
and_left false b h = h

and_right : (a b : Bool) → a && b ≡ true → b ≡ true
and_right true b h = h
and_right false b h = cc

known-append : (s t : List (Item Sort)) → known_items s ≡ true → known_items t ≡ true → known_items (s ++ t) ≡ true
unfolding known_items
known-append [] t h g = g
known-append (i ∷ s) t h g = both (known_item i) (known_items (s ++ t)) (and_left (known_item i) (known_items s) h) (known-append s t (and_right (known_item i) (known_items s) h) g)

tower-known : (d : ℕ) → known_items (tower d) ≡ true
unfolding tower known_items known_item
tower-known zero = refl
tower-known (suc d) = tower-known d

parens-known : (k : ℕ) → known_items (parentheses k) ≡ true
unfolding parentheses known_items known_item
parens-known zero = refl
parens-known (suc k) = parens-known k

rear-known : (m : List ℕ) (b : Bool) → known_item (cond b (sort (attributes m)) (lit "}")) ≡ true
unfolding Spelling.opened Leads.opened Rows.opened Classes.opened
rear-known m true = refl
rear-known m false = refl

below-known : (m : List ℕ) (a : Ahead) (b : Bottom) → known_items (below m a b) ≡ true
unfolding below known_items known_item rear_item
below-known m a lists = tower-known a.lists
below-known m a body = tower-known a.lists
below-known m a expression =
    known-append (parentheses a.parens) (rear_item m a.rear ∷ tower a.lists) (parens-known a.parens)
    (both (known_item (rear_item m a.rear)) (known_items (tower a.lists)) (rear-known m (eqb a.rear 0)) (tower-known a.lists))

pub first-known : (a : Ahead) (i : Item Sort) (s : List (Item Sort)) → Stands a (i ∷ s) → known_item i ≡ true
unfolding items_of known_items
first-known a i s h =
    let c = closer a.parens in
    let f = listed (λ p. known_items (position_at c p).front) (λ p. true) 78 false (fronts-known c) a.at h.known in
    let all = known-append (position_at c a.at).front (below h.had a (position_at c a.at).bottom) f (below-known h.had a (position_at c a.at).bottom) in
    and_left (known_item i) (known_items s) (sym (ap known_items h.items) ∙ all)
