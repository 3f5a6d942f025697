-- Lists seen through a map: one more at the end, and the last one changed.
use Prim.Native.Nat.{ℕ, zero, suc, ◌<◌, ◌≤◌}
use mathlib.Core.Path.{◌≡◌, refl, ap}
use mathlib.Core.List.{List, [], ◌∷◌, map}
use native.Mathlib.Omega.{arith}
use lib.ListN.{length, get_or, length-map}
use Rattle.notation.specs.Draft.{Node}
use Rattle.notation.specs.Hearing.{◌▸◌, at_last, parent_in}
use Rattle.names.specs.View.{of_root, of_node, of_nodes}

module _ {ℓ} {A : Type ℓ} where
  pub length-snoc : (l : List A) (a : A) → length (l ▸ a) ≡ suc (length l)
  unfolding ◌▸◌
  length-snoc [] a = refl
  length-snoc (x ∷ l) a = ap suc (length-snoc l a)

  pub length_last : (f : A → A) (l : List A) → length (at_last f l) ≡ length l
  unfolding at_last
  length_last f [] = refl
  length_last f (x ∷ []) = refl
  length_last f (x ∷ (y ∷ l)) = ap suc (length_last f (y ∷ l))

  pub get_or-snoc-other : (l : List A) (a d : A) (i : ℕ) → i < length l → get_or (l ▸ a) i d ≡ get_or l i d
  unfolding ◌▸◌
  get_or-snoc-other [] a d i h = absurd (omega arith)
  get_or-snoc-other (x ∷ l) a d zero h = refl
  get_or-snoc-other (x ∷ l) a d (suc i) h = get_or-snoc-other l a d i (omega arith)

  pub get_or-snoc-last : (l : List A) (a d : A) → get_or (l ▸ a) (length l) d ≡ a
  unfolding ◌▸◌
  get_or-snoc-last [] a d = refl
  get_or-snoc-last (x ∷ l) a d = get_or-snoc-last l a d

  pub get_or_any : (l : List A) (i : ℕ) (d e : A) → i < length l → get_or l i d ≡ get_or l i e
  get_or_any [] i d e h = absurd (omega arith)
  get_or_any (x ∷ l) zero d e h = refl
  get_or_any (x ∷ l) (suc i) d e h = get_or_any l i d e (omega arith)

module _ {ℓ ℓ'} {A : Type ℓ} {B : Type ℓ'} (g : A → B) where
  pub map_snoc : (l : List A) (a : A) → map g (l ▸ a) ≡ map g l ▸ g a
  unfolding ◌▸◌
  map_snoc [] a = refl
  map_snoc (x ∷ l) a = ap (λ k. g x ∷ k) (map_snoc l a)

  pub map_last : (f : A → A) → ((a : A) → g (f a) ≡ g a) → (l : List A) → map g (at_last f l) ≡ map g l
  unfolding at_last
  map_last f h [] = refl
  map_last f h (x ∷ []) = ap (λ b. b ∷ []) (h x)
  map_last f h (x ∷ (y ∷ l)) = ap (λ k. g x ∷ k) (map_last f h (y ∷ l))

  pub last-map : (f : A → A) (k : B → B) → ((a : A) → g (f a) ≡ k (g a)) → (l : List A) → map g (at_last f l) ≡ at_last k (map g l)
  unfolding at_last
  last-map f k h [] = refl
  last-map f k h (x ∷ []) = ap (λ b. b ∷ []) (h x)
  last-map f k h (x ∷ (y ∷ l)) = ap (λ z. g x ∷ z) (last-map f k h (y ∷ l))

pub nodes-snoc : (ns : List Node) (n : Node) → 1 ≤ length ns → of_nodes (ns ▸ n) ≡ of_nodes ns ▸ of_node n
unfolding ◌▸◌ of_nodes
nodes-snoc [] n h = absurd (omega arith)
nodes-snoc (r ∷ ns) n h = ap (λ k. of_root r ∷ k) (map_snoc of_node ns n)

pub length-nodes : (ns : List Node) → length (of_nodes ns) ≡ length ns
unfolding of_nodes
length-nodes [] = refl
length-nodes (r ∷ ns) = ap suc (length-map ns of_node)

pub nodes-last : (f : Node → Node) → ((n : Node) → of_root (f n) ≡ of_root n) → ((n : Node) → of_node (f n) ≡ of_node n) → (ns : List Node) → of_nodes (at_last f ns) ≡ of_nodes ns
unfolding at_last of_nodes
nodes-last f h k [] = refl
nodes-last f h k (r ∷ []) = ap (λ b. b ∷ []) (h r)
nodes-last f h k (r ∷ (n ∷ ns)) = ap (λ z. of_root r ∷ z) (map_last of_node f k (n ∷ ns))

abbrev pub parents_of : List Node → List ℕ
parents_of ns = map (λ n. n.parent) ns

pub parent-in : (ns : List Node) (i : ℕ) → parent_in ns i ≡ get_or (parents_of ns) i 65535
unfolding parent_in
parent-in [] i = refl
parent-in (n ∷ ns) zero = refl
parent-in (n ∷ ns) (suc i) = parent-in ns i
