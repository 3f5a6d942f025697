-- At each position and class the row of the tables is the one of the grammar.
use Prim.Native.Nat.{ℕ, ◌+◌, ◌<◌, ◌≤◌}
use mathlib.Core.Path.{◌≡◌, ◌∙◌, sym, ap, subst}
use mathlib.Core.Bool.{Bool, true, false, cond}
use mathlib.Core.List.{List, []}
use mathlib.Core.Option.{none, some}
use native.Mathlib.Omega.{arith}
use native.Mathlib.Nat.{zero-add}
use lib.ListN.{get_or}
use lib.Dec.{eqb, ltb}
use Rattle.grammar.specs.Table.{Item}
use Rattle.notation.specs.Rows.{Close, semicolon, bracket, Sort}
use Rattle.recognise.specs.Positions.{Bottom, Position, at, position_at}
use Rattle.recognise.specs.Tables.{Move, bases, owners, refusal, row_at, row_of}
use Rattle.recognise.proofs.Claims.{where_of, found, reached_at, tabled, rowed_at, tabled_at, all_rowed, all_tabled, listing}
use Rattle.recognise.proofs.Tabled.{tables-semicolon, tables-bracket}
use Rattle.recognise.proofs.Found.{listing-at}
use Rattle.recognise.proofs.Rowing.{say-small, next_small}

tables-are-rows : (m : List ℕ) (c : Close) → all_tabled m c ≡ all_rowed m c
tables-are-rows m semicolon = tables-semicolon m
tables-are-rows m bracket = tables-bracket m

pub listed {ℓ} : {A : Type ℓ} (f g : ℕ → A) (n : ℕ) (d : A) → listing f 0 n ≡ listing g 0 n → (j : ℕ) → j < n → f j ≡ g j
listed f g n d e j h =
    sym (listing-at f 0 n j d h ∙ ap f (zero-add j)) ∙ ap (λ l. get_or l j d) e ∙ (listing-at g 0 n j d h ∙ ap g (zero-add j))

at_position : (m : List ℕ) (c : Close) (p : ℕ) → p < 78
    → tabled_at m c p (position_at c p).front (position_at c p).bottom ≡ rowed_at m (position_at c p).front (position_at c p).bottom
unfolding all_tabled all_rowed
at_position m c p h =
    listed (λ q. tabled_at m c q (position_at c q).front (position_at c q).bottom) (λ q. rowed_at m (position_at c q).front (position_at c q).bottom) 78 [] (tables-are-rows m c) p h

at-class : (m : List ℕ) (c : Close) (p : ℕ) (f : List (Item Sort)) (b : Bottom) → tabled_at m c p f b ≡ rowed_at m f b → (k : ℕ) → k < 76
    → tabled m c (where_of f b) b (row_of p k) ≡ some (found m (reached_at m f b) k)
unfolding tabled_at rowed_at
at-class m c p f b e k h = listed (λ j. tabled m c (where_of f b) b (row_of p j)) (λ j. some (found m (reached_at m f b) j)) 76 none e k h

pub claim : (m : List ℕ) (c : Close) (p k : ℕ) (f : List (Item Sort)) (b : Bottom) → p < 78 → k < 76 → position_at c p ≡ at f b
    → tabled m c (where_of f b) b (row_of p k) ≡ some (found m (reached_at m f b) k)
claim m c p k f b h g e =
    at-class m c p f b (subst (λ (q : Position). tabled_at m c p q.front q.bottom ≡ rowed_at m q.front q.bottom) e (at_position m c p h)) k g

-- the next position, and the number of what is said
cond-next : (t : Bool) (x y : Move) → x.next < 78 → y.next < 78 → (cond t x y).next < 78
cond-next true x y h g = h
cond-next false x y h g = g

pub row_next : (p k : ℕ) → (row_of p k).next < 78
unfolding row_of row_at
row_next p k =
    let i = get_or bases p 0 + k in
    cond-next (ltb p 78) _ refusal
    (cond-next (ltb k 76) _ refusal (cond-next (eqb (get_or owners i 0) p) (row_at i) refusal (omega (arith, next_small i)) (omega arith)) (omega arith))
    (omega arith)

cond-says : (t : Bool) (x y : Move) → x.says ≤ 93 → y.says ≤ 93 → (cond t x y).says ≤ 93
cond-says true x y h g = h
cond-says false x y h g = g

pub row-says : (p k : ℕ) → (row_of p k).says ≤ 93
unfolding row_of row_at
row-says p k =
    let i = get_or bases p 0 + k in
    cond-says (ltb p 78) _ refusal (cond-says (ltb k 76) _ refusal (cond-says (eqb (get_or owners i 0) p) (row_at i) refusal (say-small i) (omega arith)) (omega arith)) (omega arith)
