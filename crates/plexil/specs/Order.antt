-- "any order is a walk over any list that names each node once": a visit, what it carries on, and the settling. `AnyOrder` (Promises) says
-- that every such walk ends in the definition's next state.
use Rattle.std.specs.Prelude.{ℕ, zero, suc, ◌+◌, ◌≡◌, Bool, false, not, List, [], ◌∷◌, get_or, set, replicate, eqb, ltb}
use Rattle.plexil.specs.declared.Cell.{Cell}
use Rattle.plexil.specs.declared.State.{State}
use Rattle.plexil.specs.declared.Place.{Place}
use Rattle.plexil.specs.declared.Status.TheVariants.{Waiting}
use Rattle.plexil.specs.Lists.{when◌then◌else◌, every, renew}
use Rattle.plexil.specs.Values.{cell}
use Rattle.plexil.specs.Image.{Image, node_count, var_count, priority, owner}
use Rattle.plexil.specs.Places.{status_of, same, status_at, var_cell, initial, Failure, WriteLost}
use Rattle.plexil.specs.Records.{target}
use Rattle.plexil.specs.Micro.{writes, written, place}

-- "the next places so far and, for each variable, the greatest priority met, its node and value, and whether it is tied";
-- top is one more than that priority, and 0 where no writer was met. With its next place a node carries whether it wrote: a place alone does not tell
pub record Carry : Type 0 where
  pub status : List ℕ
  pub outcome : List ℕ
  pub failure : List ℕ
  pub mark : List ℕ
  pub wrote : List Bool
  pub top : List ℕ
  pub node : List ℕ
  pub tags : List ℕ
  pub bits : List ℕ
  pub tied : List ℕ

-- what is carried, by its arrays
abbrev pub carry_of : List ℕ → List ℕ → List ℕ → List ℕ → List Bool → List ℕ → List ℕ → List ℕ → List ℕ → List ℕ → Carry
carry_of st oc fl mk wr top node tags bits tied =
    record { status = st; outcome = oc; failure = fl; mark = mk; wrote = wr; top = top; node = node; tags = tags; bits = bits; tied = tied }

-- before the first visit
unfoldable pub carry_nothing : State → Carry
carry_nothing s =
    carry_of s.status s.outcome s.failure s.mark (replicate 256 false)
    (replicate 128 0) (replicate 128 0) (replicate 128 0) (replicate 128 0) (replicate 128 0)

-- "the next places so far", with node i's, and whether it wrote
unfoldable pub put_place : Carry → ℕ → Place → Bool → Carry
put_place c i r w =
    carry_of (set c.status i r.status) (set c.outcome i r.outcome) (set c.failure i r.failure) (set c.mark i r.mark) (set c.wrote i w)
    c.top c.node c.tags c.bits c.tied

-- a writer i of variable v with top t and value x: it leads, or is tied with the leader, or is beaten
unfoldable pub meet : Carry → ℕ → ℕ → ℕ → Cell → Carry
meet c v t i x =
    when ltb (get_or c.top v 0) t then carry_of c.status c.outcome c.failure c.mark c.wrote
    (set c.top v t) (set c.node v i) (set c.tags v x.tag) (set c.bits v x.bits) (set c.tied v 0)
    else when eqb (get_or c.top v 0) t then carry_of c.status c.outcome c.failure c.mark c.wrote
    c.top c.node c.tags c.bits (set c.tied v 1)
    else c

-- "a visit reads only the state before the step and what earlier visits carried on"
unfoldable pub visit : Image → State → Carry → ℕ → Carry
visit p s c i =
    let d : Carry = put_place c i (place p s i) (writes p s i) in
    when writes p s i then meet d (target p i) (priority p i + 1) i (written p s i) else d

-- the visits of a list, one after the other
unfoldable pub walk : Image → State → List ℕ → Carry → Carry
walk p s [] c = c
walk p s (i ∷ is) c = walk p s is (visit p s c i)

-- the visits of nodes 0 to n - 1, in node order
unfoldable pub walk_to : Image → State → Carry → ℕ → Carry
walk_to p s c zero = c
walk_to p s c (suc n) = visit p s (walk_to p s c n) n

-- "After the last visit the writes and the losers are settled from what is carried": node i leads its variable, and is not tied
unfoldable pub leads : Image → Carry → ℕ → Bool
leads p c i = every (eqb (get_or c.node (target p i) 0) i ∷ eqb (get_or c.tied (target p i) 0) 0 ∷ [])

-- node i wrote and does not lead alone
unfoldable pub lost : Image → Carry → ℕ → Bool
lost p c i = every (get_or c.wrote i false ∷ not (leads p c i) ∷ [])

-- node i enters Waiting
unfoldable pub entered_waiting : State → Carry → ℕ → Bool
entered_waiting s c i = every (not (same (status_at s i) Waiting) ∷ same (status_of (get_or c.status i 0)) Waiting ∷ [])

-- a sole leader's value enters; else the variable is reset, or stays
unfoldable pub settled_var : Image → State → Carry → ℕ → Cell
settled_var p s c v =
    when every (ltb 0 (get_or c.top v 0) ∷ eqb (get_or c.tied v 0) 0 ∷ []) then cell (get_or c.tags v 0) (get_or c.bits v 0)
    else when entered_waiting s c (owner p v) then initial p v else var_cell s v

-- the state after the settling
unfoldable pub settle : Image → State → Carry → State
settle p s c = record {
  status = c.status;
  outcome = renew (node_count p) (λ i. when lost p c i then Failure else get_or c.outcome i 0) c.outcome;
  failure = renew (node_count p) (λ i. when lost p c i then WriteLost else get_or c.failure i 0) c.failure;
  mark = c.mark;
  vartags = renew (var_count p) (λ v. (settled_var p s c v).tag) s.vartags;
  varbits = renew (var_count p) (λ v. (settled_var p s c v).bits) s.varbits;
  looktags = s.looktags;
  lookbits = s.lookbits;
}

-- how often j stands in the list
unfoldable pub count : ℕ → List ℕ → ℕ
count j [] = 0
count j (i ∷ is) = when eqb j i then suc (count j is) else count j is

-- "any list that names each node once"
unfoldable pub NamesOnce : Image → List ℕ → Type 0
NamesOnce p is = (j : ℕ) → count j is ≡ (when ltb j (node_count p) then 1 else 0)

-- opens every definition of this file
unfoldable pub opened : Unit {0}
unfolding carry_nothing put_place meet visit walk walk_to leads lost entered_waiting settled_var settle count NamesOnce
opened = tt
