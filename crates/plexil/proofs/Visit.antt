-- One visit of a walk: the place of its node is new, whether it wrote is known, what is carried of the variable it writes has met it, and all else stays.
use Prim.Native.Nat.{ℕ, ◌+◌, ◌<◌}
use mathlib.Core.Path.{◌≡◌, refl, sym, ap, ◌∙◌}
use mathlib.Core.Bool.{Bool, true, false}
use mathlib.Core.List.{List}
use lib.Dec.{eqb, ltb}
use lib.ListN.{get_or, length, length-set}
use lib.Seq.{get_or-set_same, get_or-set_other}
use Rattle.plexil.specs.declared.Cell.{Cell}
use Rattle.plexil.specs.declared.State.{State}
use Rattle.plexil.specs.declared.Place.{Place}
use Rattle.plexil.specs.Lists.{when◌then◌else◌}
use Rattle.plexil.specs.Values.{cell}
use Rattle.plexil.specs.Image.{Image, priority}
use Rattle.plexil.specs.Records.{target}
use Rattle.plexil.specs.Micro.{writes, written, place}
use Rattle.plexil.specs.Order.{Carry, put_place, meet, visit}
use Rattle.plexil.proofs.ListLaws.{if-true, if-either}
use Rattle.plexil.proofs.Meeting.{Best, meet_best}

-- what is carried of node j, and of variable v
abbrev pub place_at : Carry → ℕ → Place
place_at c j = record { status = get_or c.status j 0; outcome = get_or c.outcome j 0; failure = get_or c.failure j 0; mark = get_or c.mark j 0 }

abbrev pub wrote_at : Carry → ℕ → Bool
wrote_at c j = get_or c.wrote j false

abbrev pub best_at : Carry → ℕ → Best
best_at c v = record { top = get_or c.top v 0; node = get_or c.node v 0; value = cell (get_or c.tags v 0) (get_or c.bits v 0); tied = get_or c.tied v 0 }

pub record Lengths (c : Carry) : Type 0 where
  pub status : length c.status ≡ 256
  pub outcome : length c.outcome ≡ 256
  pub failure : length c.failure ≡ 256
  pub mark : length c.mark ≡ 256
  pub wrote : length c.wrote ≡ 256
  pub top : length c.top ≡ 128
  pub node : length c.node ≡ 128
  pub tags : length c.tags ≡ 128
  pub bits : length c.bits ≡ 128
  pub tied : length c.tied ≡ 128

-- ---- lengths stay
put-lengths : (c : Carry) (i : ℕ) (r : Place) (w : Bool) → Lengths c → Lengths (put_place c i r w)
unfolding put_place
put-lengths c i r w z = record {
  status = simp length-set z.status;
  outcome = simp length-set z.outcome;
  failure = simp length-set z.failure;
  mark = simp length-set z.mark;
  wrote = simp length-set z.wrote;
  top = z.top;
  node = z.node;
  tags = z.tags;
  bits = z.bits;
  tied = z.tied;
}

meet-lengths : (c : Carry) (v t i : ℕ) (x : Cell) → Lengths c → Lengths (meet c v t i x)
unfolding meet
meet-lengths c v t i x z =
    if-either Lengths _ _ _
    (λ e. record {
      status = z.status;
      outcome = z.outcome;
      failure = z.failure;
      mark = z.mark;
      wrote = z.wrote;
      top = simp length-set z.top;
      node = simp length-set z.node;
      tags = simp length-set z.tags;
      bits = simp length-set z.bits;
      tied = simp length-set z.tied;
    })
    (λ e. if-either Lengths _ _ _
    (λ q. record {
      status = z.status;
      outcome = z.outcome;
      failure = z.failure;
      mark = z.mark;
      wrote = z.wrote;
      top = z.top;
      node = z.node;
      tags = z.tags;
      bits = z.bits;
      tied = simp length-set z.tied;
    })
    (λ q. z))

pub visit-lengths : (p : Image) (s : State) (c : Carry) (i : ℕ) → Lengths c → Lengths (visit p s c i)
unfolding visit
visit-lengths p s c i z =
    let y = put-lengths c i (place p s i) (writes p s i) z in
    if-either Lengths (writes p s i) _ _ (λ e. meet-lengths _ _ _ i _ y) (λ e. y)

-- ---- places
meet-place : (c : Carry) (v t i : ℕ) (x : Cell) (j : ℕ) → place_at (meet c v t i x) j ≡ place_at c j
unfolding meet
meet-place c v t i x j =
    if-either (λ (d : Carry). place_at d j ≡ place_at c j) _ _ _ (λ e. refl) (λ e. if-either (λ (d : Carry). place_at d j ≡ place_at c j) _ _ _ (λ q. refl) (λ q. refl))

meet-wrote : (c : Carry) (v t i : ℕ) (x : Cell) → (meet c v t i x).wrote ≡ c.wrote
unfolding meet
meet-wrote c v t i x =
    if-either (λ (d : Carry). d.wrote ≡ c.wrote) _ _ _ (λ e. refl) (λ e. if-either (λ (d : Carry). d.wrote ≡ c.wrote) _ _ _ (λ q. refl) (λ q. refl))

module _ (p : Image) (s : State) (c : Carry) (i : ℕ) where
  -- node i's place put, and whether it wrote
  put : Carry
  put = put_place c i (place p s i) (writes p s i)

  visit-place : (j : ℕ) → place_at (visit p s c i) j ≡ place_at put j
  unfolding visit put
  visit-place j = if-either (λ (d : Carry). place_at d j ≡ place_at put j) (writes p s i) _ _ (λ e. meet-place _ _ _ i _ j) (λ e. refl)

  visit-wrote : (visit p s c i).wrote ≡ put.wrote
  unfolding visit put
  visit-wrote = if-either (λ (d : Carry). d.wrote ≡ put.wrote) (writes p s i) _ _ (λ e. meet-wrote _ _ _ i _) (λ e. refl)

  pub visit-here : Lengths c → i < 256 → place_at (visit p s c i) i ≡ place p s i
  unfolding put put_place
  visit-here z b = visit-place i ∙ λ k. record {
    status = get_or-set_same c.status i (place p s i).status 0 (rw z.status b) k;
    outcome = get_or-set_same c.outcome i (place p s i).outcome 0 (rw z.outcome b) k;
    failure = get_or-set_same c.failure i (place p s i).failure 0 (rw z.failure b) k;
    mark = get_or-set_same c.mark i (place p s i).mark 0 (rw z.mark b) k;
  }

  pub visit-there : (j : ℕ) → (j ≡ i → ⊥) → place_at (visit p s c i) j ≡ place_at c j
  unfolding put put_place
  visit-there j apart = visit-place j ∙ λ k. record {
    status = get_or-set_other c.status i j (place p s i).status 0 apart k;
    outcome = get_or-set_other c.outcome i j (place p s i).outcome 0 apart k;
    failure = get_or-set_other c.failure i j (place p s i).failure 0 apart k;
    mark = get_or-set_other c.mark i j (place p s i).mark 0 apart k;
  }

  pub wrote-here : Lengths c → i < 256 → wrote_at (visit p s c i) i ≡ writes p s i
  unfolding put put_place
  wrote-here z b = ap (λ (l : List Bool). get_or l i false) visit-wrote ∙ get_or-set_same c.wrote i (writes p s i) false (rw z.wrote b)

  pub wrote-there : (j : ℕ) → (j ≡ i → ⊥) → wrote_at (visit p s c i) j ≡ wrote_at c j
  unfolding put put_place
  wrote-there j apart = ap (λ (l : List Bool). get_or l j false) visit-wrote ∙ get_or-set_other c.wrote i j (writes p s i) false apart

-- ---- what is carried of a variable
if-map : {A B : Type 0} (f : A → B) (b : Bool) {x y : A} {u w : B} → f x ≡ u → f y ≡ w → f (when b then x else y) ≡ (when b then u else w)
unfolding when◌then◌else◌
if-map f true q r = q
if-map f false q r = r

meet-here : (c : Carry) (v t i : ℕ) (x : Cell) → Lengths c → v < 128 → best_at (meet c v t i x) v ≡ meet_best (best_at c v) t i x
unfolding meet
meet-here c v t i x z b =
    if-map (λ (d : Carry). best_at d v) (ltb (get_or c.top v 0) t)
    (λ k. record {
      top = get_or-set_same c.top v t 0 (rw z.top b) k;
      node = get_or-set_same c.node v i 0 (rw z.node b) k;
      value = cell (get_or-set_same c.tags v x.tag 0 (rw z.tags b) k) (get_or-set_same c.bits v x.bits 0 (rw z.bits b) k);
      tied = get_or-set_same c.tied v 0 0 (rw z.tied b) k;
    })
    (if-map (λ (d : Carry). best_at d v) (eqb (get_or c.top v 0) t)
    (ap (λ (y : ℕ). record { top = get_or c.top v 0; node = get_or c.node v 0; value = (best_at c v).value; tied = y }) (get_or-set_same c.tied v 1 0 (rw z.tied b)))
    refl)

meet-there : (c : Carry) (v t i : ℕ) (x : Cell) (u : ℕ) → (u ≡ v → ⊥) → best_at (meet c v t i x) u ≡ best_at c u
unfolding meet
meet-there c v t i x u apart =
    if-either (λ (d : Carry). best_at d u ≡ best_at c u) _ _ _
    (λ e k. record {
      top = get_or-set_other c.top v u t 0 apart k;
      node = get_or-set_other c.node v u i 0 apart k;
      value = cell (get_or-set_other c.tags v u x.tag 0 apart k) (get_or-set_other c.bits v u x.bits 0 apart k);
      tied = get_or-set_other c.tied v u 0 0 apart k;
    })
    (λ e. if-either (λ (d : Carry). best_at d u ≡ best_at c u) _ _ _
    (λ q. ap (λ (y : ℕ). record { top = get_or c.top u 0; node = get_or c.node u 0; value = (best_at c u).value; tied = y }) (get_or-set_other c.tied v u 1 0 apart))
    (λ q. refl))

pub visit-meets : (p : Image) (s : State) (c : Carry) (i v : ℕ) → Lengths c → writes p s i ≡ true → target p i ≡ v → v < 128
    → best_at (visit p s c i) v ≡ meet_best (best_at c v) (priority p i + 1) i (written p s i)
unfolding visit put_place
visit-meets p s c i v z w q b =
    ap (λ (d : Carry). best_at d v) (if-true (writes p s i) _ _ w)
    ∙ ap (λ (u : ℕ). best_at (meet (put_place c i (place p s i) (writes p s i)) u (priority p i + 1) i (written p s i)) v) q
    ∙ meet-here (put_place c i (place p s i) (writes p s i)) v (priority p i + 1) i (written p s i) (put-lengths c i (place p s i) (writes p s i) z) b

pub visit-leaves : (p : Image) (s : State) (c : Carry) (i v : ℕ) → (writes p s i ≡ true → target p i ≡ v → ⊥) → best_at (visit p s c i) v ≡ best_at c v
unfolding visit put_place
visit-leaves p s c i v other =
    if-either (λ (d : Carry). best_at d v ≡ best_at c v) (writes p s i) _ _
    (λ w. meet-there (put_place c i (place p s i) (writes p s i)) (target p i) (priority p i + 1) i (written p s i) v (λ q. other w (sym q)))
    (λ w. refl)
