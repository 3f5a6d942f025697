-- One visit in parts: the node's place put, and its write met.
use Prim.Native.Nat.{ℕ, ◌+◌, ◌<◌}
use native.Mathlib.Numerals.{add-one}
use mathlib.Core.Path.{◌≡◌, refl, sym, ap, ◌∙◌}
use mathlib.Core.Bool.{Bool, true, false, not, ◌&&◌, ◌||◌}
use mathlib.Core.List.{List, [], ◌∷◌}
use Rattle.plexil.specs.declared.Cell.{Cell}
use Rattle.plexil.specs.declared.State.{State}
use Rattle.plexil.specs.declared.Place.{Place}
use Rattle.plexil.specs.declared.Move.{Move}
use Rattle.plexil.specs.declared.Worked.{Worked}
use Rattle.plexil.specs.Lists.{every, all_below, renew}
use Rattle.plexil.specs.Values.{encode}
use Rattle.plexil.specs.Image.{Image, node_count, what, priority, value_field}
use Rattle.plexil.specs.Places.{seen}
use Rattle.plexil.specs.Expressions.{value_of}
use Rattle.plexil.specs.Records.{is_writer, target}
use Rattle.plexil.specs.Atomic.{move_of}
use Rattle.plexil.specs.Micro.{judges, writes, written, place_by, place, sent_by, sent, stays}
use Rattle.plexil.specs.Order.{Carry, put_place, meet, visit, walk_to}
use Rattle.plexil.specs.Promises.{IsAdmitted}
use Rattle.plexil.proofs.ListLaws.{if-true, if-false, every-at}
use Rattle.plexil.proofs.RenewLaws.{whole}
use Rattle.plexil.proofs.LoopLaws.{all_below-more}
use Rattle.plexil.proofs.AnyOrder.{fits}
use Rattle.plexil.proofs.NodeOrder.{walk_to-next}

module _ (p : Image) (s : State) (i : ℕ) {m : Move} (e : m ≡ move_of p s i) where
  pub writes-is : {w : Bool} → w ≡ every (is_writer p i ∷ judges m ∷ []) → w ≡ writes p s i
  unfolding writes
  writes-is h = h ∙ ap (λ (x : Move). every (is_writer p i ∷ judges x ∷ [])) e

  pub sent_is : {x : ℕ} → x ≡ sent_by p s i m → x ≡ sent p s i
  unfolding sent
  sent_is h = h ∙ ap (sent_by p s i) e

  pub applied : {b : Bool} → b ≡ not (stays m) → b ≡ not (stays (move_of p s i))
  applied h = h ∙ ap (λ (x : Move). not (stays x)) e

  place_is : {r : Place} → r ≡ place_by p s i m → r ≡ place p s i
  unfolding place
  place_is h = h ∙ ap (place_by p s i) e

  module _ {r : Place} (f : r ≡ place_by p s i m) {w : Bool} (g : w ≡ every (is_writer p i ∷ judges m ∷ [])) (c : Carry) {c₁ : Carry} (h : c₁ ≡ put_place c i r w) where
    -- node i's place put, and whether it wrote
    abbrev put : Carry
    put = put_place c i (place p s i) (writes p s i)

    put_is : c₁ ≡ put
    put_is = h ∙ λ k. put_place c i (place_is f k) (writes-is g k)

    -- the code reads a writer's target as its `what`
    pub visit-writes : w ≡ true → {v t : ℕ} {x : Cell} {c₂ : Carry} → v ≡ what p i → t ≡ priority p i + 1 → x ≡ written p s i → c₂ ≡ meet c₁ v t i x → c₂ ≡ visit p s c i
    unfolding visit target
    visit-writes b {v} {t} {x} a d k q =
        q ∙ (ap (λ (y : Carry). meet y v t i x) put_is
        ∙ (ap (λ (y : ℕ). meet put y t i x) a
        ∙ (ap (λ (y : ℕ). meet put (what p i) y i x) d
        ∙ (ap (meet put (what p i) (priority p i + 1) i) k ∙ sym (if-true _ _ _ (sym (writes-is g) ∙ b))))))

    pub visit-passes : w ≡ false → c₁ ≡ visit p s c i
    unfolding visit
    visit-passes b = put_is ∙ sym (if-false _ _ _ (sym (writes-is g) ∙ b))

  -- a writer's target is a variable
  pub target_below : IsAdmitted p → i < node_count p → {w : Bool} → w ≡ every (is_writer p i ∷ judges m ∷ []) → w ≡ true → {v : ℕ} → v ≡ what p i → v < 128
  unfolding target
  target_below a b g t q = rw q ((fits p a).targets i b (every-at _ 0 (sym g ∙ t)))

pub written_is : (p : Image) (s : State) (i : ℕ) {e : ℕ} {v : Worked} {x : Cell} → e ≡ value_field p i → v ≡ value_of p (seen s) e → x ≡ encode v → x ≡ written p s i
unfolding written
written_is p s i a b d = d ∙ ap encode (b ∙ ap (value_of p (seen s)) a)

-- ---- the walk
pub all_below-or : (n : ℕ) (f : ℕ → Bool) (a b : Bool) → a ≡ not (all_below n f) → b ≡ not (f n) → (a || b) ≡ not (all_below (n + 1) f)
all_below-or n f a b h g = rw (h, g, add-one, all_below-more) (by (all_below n f) (f n))
  where
    by : (x y : Bool) → (not x || not y) ≡ not (y && x)
    by true true = refl
    by true false = refl
    by false true = refl
    by false false = refl

pub walk-next : (p : Image) (s : State) (c₀ : Carry) (n : ℕ) {c c₂ : Carry} → c ≡ walk_to p s c₀ n → c₂ ≡ visit p s c n → c₂ ≡ walk_to p s c₀ (n + 1)
walk-next p s c₀ n e h = h ∙ (ap (λ (x : Carry). visit p s x n) e ∙ sym (walk_to-next p s c₀ n))

-- after the last node
pub walk_end : (p : Image) (s : State) (c₀ : Carry) (sent₀ : List ℕ) (i : ℕ) {moved : Bool} {c : Carry} {l : List ℕ} → i ≡ node_count p
    → moved ≡ not (all_below i (λ (k : ℕ). stays (move_of p s k))) → c ≡ walk_to p s c₀ i → l ≡ renew i (sent p s) sent₀
    → (moved ≡ not (all_below (node_count p) (λ (k : ℕ). stays (move_of p s k)))) × (c ≡ walk_to p s c₀ (node_count p)) × (l ≡ renew (node_count p) (sent p s) sent₀)
walk_end p s c₀ sent₀ i e a b d =
    (a ∙ ap (λ (n : ℕ). not (all_below n (λ (k : ℕ). stays (move_of p s k)))) e, b ∙ ap (walk_to p s c₀) e, whole i (sent p s) sent₀ _ d e)
