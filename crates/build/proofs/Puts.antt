-- Bytes put one after another.
use Prim.Native.Nat.{ℕ, zero, suc, ◌+◌, ◌-◌, ◌*◌, ◌≤◌, ◌<◌, ◌%◌, ◌/◌}
use mathlib.Core.Path.{◌≡◌, refl, sym, ◌∙◌, ap, ap₂}
use mathlib.Core.List.{List, [], ◌∷◌, ◌++◌, append_assoc}
use native.Mathlib.Omega.{arith}
use lib.ListN.{length, get_or, set, take, drop}
use lib.Seq.{set_split, drop-cons, drop-nil}
use native.Mathlib.Numerals.{add-one}
use Rattle.plexil.specs.Lists.{put}
use Rattle.plexil.specs.Assemble.{bytes, words16, node}
use Rattle.plexil.proofs.PutLaws.{put-put, put-none, length-put}

pub put_then {ℓ} : {A : Type ℓ} (l : List A) (k n : ℕ) (ws vs : List A) → length ws ≡ n → k ≤ length l → put (put l k ws) (k + n) vs ≡ put l k (ws ++ vs)
put_then l k n ws vs e h = ap (λ j. put (put l k ws) (k + j) vs) (sym e) ∙ put-put l k ws vs h

pub put_one : (l : List ℕ) (k b : ℕ) → k < length l → set l k b ≡ put l k (b ∷ [])
unfolding put
put_one l k b h = let e : suc k ≡ k + 1 = omega arith in set_split l k b h ∙ ap (λ j. take k l ++ (b ∷ drop j l)) e

pub put_two : (l : List ℕ) (k a b : ℕ) → k + 2 ≤ length l → set (set l k a) (k + 1) b ≡ put l k (a ∷ (b ∷ []))
put_two l k a b h =
    let e = put_one l k a (omega arith) in
    let n : length (put l k (a ∷ [])) ≡ length l = length-put l k (a ∷ []) (omega arith) in
    ap (λ x. set x (k + 1) b) e ∙ put_one (put l k (a ∷ [])) (k + 1) b (omega arith) ∙ put_then l k 1 (a ∷ []) (b ∷ []) refl (omega arith)

-- one byte of a number written, and the others to come
pub put-bytes : (l : List ℕ) (at i k m : ℕ) → i < k → at + k ≤ length l → put (set l (at + i) (m % 256)) (at + (i + 1)) (bytes (k - (i + 1)) (m / 256)) ≡ put l (at + i) (bytes (k - i) m)
unfolding bytes
put-bytes l at i k m h r =
    let e : k - i ≡ suc (k - (i + 1)) = omega arith in
    let f : at + (i + 1) ≡ at + i + 1 = omega arith in
    ap₂ (λ x y. put x y (bytes (k - (i + 1)) (m / 256))) (put_one l (at + i) (m % 256) (omega arith)) f
    ∙ put_then l (at + i) 1 ((m % 256) ∷ []) (bytes (k - (i + 1)) (m / 256)) refl (omega arith)
    ∙ ap (λ j. put l (at + i) (bytes j m)) (sym e)

pub put-again : (l o : List ℕ) (at i k m n : ℕ) → i < k → at + k ≤ length l → put l (at + i) (bytes (k - i) m) ≡ put o at (bytes k n)
    → put (set l (at + i) (m % 256)) (at + (i + 1)) (bytes (k - (i + 1)) (m / 256)) ≡ put o at (bytes k n)
put-again l o at i k m n h r e = put-bytes l at i k m h r ∙ e

pub put_all : (l o : List ℕ) (at i k m n : ℕ) → k ≤ i → put l (at + i) (bytes (k - i) m) ≡ put o at (bytes k n) → l ≡ put o at (bytes k n)
unfolding bytes
put_all l o at i k m n h e =
    let z : k - i ≡ 0 = omega arith in
    sym (put-none l (at + i)) ∙ sym (ap (λ j. put l (at + i) (bytes j m)) z) ∙ e

pub put_first : (l : List ℕ) (at k n : ℕ) → put l (at + 0) (bytes (k - 0) n) ≡ put l at (bytes k n)
put_first l at k n =
    let a : at + 0 ≡ at = omega arith in
    let b : k - 0 ≡ k = omega arith in
    ap₂ (λ x y. put l x (bytes y n)) a b

-- bytes put behind bytes, in an image of full length
pub put_next : (l a b : List ℕ) (k n : ℕ) (ws vs : List ℕ) → length l ≡ 41108 → length ws ≡ n → k + n + length vs ≤ 41108
    → a ≡ put l k ws → (length a ≡ 41108 → b ≡ put a (k + n) vs) → b ≡ put l k (ws ++ vs)
put_next l a b k n ws vs e f h p q =
    q (ap length p ∙ length-put l k ws (omega arith) ∙ e) ∙ ap (λ x. put x (k + n) vs) p ∙ put_then l k n ws vs f (omega arith)

pub words-begin : (l : List ℕ) (at : ℕ) (ws : List ℕ) → put l (at + 2 * 0) (words16 (drop 0 ws)) ≡ put l at (words16 ws)
words-begin l at ws = let e : at + 2 * 0 ≡ at = omega arith in ap (λ x. put l x (words16 ws)) e

pub words-length : (a b : List ℕ) (k x : ℕ) → length a ≡ 41108 → k + 2 ≤ 41108 → b ≡ put a k (bytes 2 x) → length b ≡ 41108
unfolding bytes
words-length a b k x e h p = ap length p ∙ length-put a k (bytes 2 x) (omega arith) ∙ e

pub words-again : (a b : List ℕ) (at i : ℕ) (ws : List ℕ) → i < length ws → length a ≡ 41108 → at + 2 * length ws ≤ 41108 → b ≡ put a (at + 2 * i) (bytes 2 (get_or ws i 0))
    → put b (at + 2 * (i + 1)) (words16 (drop (i + 1) ws)) ≡ put a (at + 2 * i) (words16 (drop i ws))
unfolding words16 bytes
words-again a b at i ws h e m p =
    let k : at + 2 * (i + 1) ≡ at + 2 * i + 2 = omega arith in
    let x = get_or ws i 0 in
    let r = words16 (drop (i + 1) ws) in
    let d : drop i ws ≡ x ∷ drop (i + 1) ws = drop-cons ws i 0 h ∙ ap (λ j. x ∷ drop j ws) (sym (add-one i)) in
    ap₂ (λ y j. put y j r) p k ∙ put_then a (at + 2 * i) 2 (bytes 2 x) r refl (omega arith) ∙ ap (λ y. put a (at + 2 * i) (words16 y)) (sym d)

pub words-end : (a : List ℕ) (k i : ℕ) (ws : List ℕ) → length ws ≤ i → a ≡ put a k (words16 (drop i ws))
unfolding words16
words-end a k i ws h = sym (put-none a k) ∙ ap (λ y. put a k (words16 y)) (sym (drop_past i ws h))
  where
    drop_past : (i : ℕ) (ws : List ℕ) → length ws ≤ i → drop i ws ≡ []
    drop_past i [] m = drop-nil i
    drop_past zero (w ∷ ws) m = absurd (omega arith)
    drop_past (suc i) (w ∷ ws) m = drop_past i ws (omega arith)

pub words_append : (g h : List ℕ) → words16 (g ++ h) ≡ words16 g ++ words16 h
unfolding words16
words_append [] h = refl
words_append (x ∷ g) h = ap (λ y. bytes 2 x ++ y) (words_append g h) ∙ sym (append_assoc (bytes 2 x) (words16 g) (words16 h))

pub words_size : (g : List ℕ) → length (words16 g) ≡ 2 * length g
unfolding words16 bytes
words_size [] = refl
words_size (x ∷ g) = omega (arith, words_size g)

-- the end of a node's record
pub node_end : (g : List ℕ) (w v : ℕ) → words16 g ++ bytes 2 w ++ bytes 2 v ≡ words16 (g ++ (w ∷ (v ∷ [])))
unfolding words16 bytes
node_end g w v = append_assoc (words16 g) (bytes 2 w) (bytes 2 v) ∙ sym (words_append g (w ∷ (v ∷ [])))

pub node-record : (p f r : ℕ) (g : List ℕ) (w v : ℕ) → bytes 2 p ++ (f ∷ (0 ∷ [])) ++ bytes 2 r ++ words16 g ++ bytes 2 w ++ bytes 2 v ≡ node p f r g w v
unfolding words16 bytes node
node-record p f r g w v = ap (λ x. bytes 2 p ++ (f ∷ (0 ∷ (bytes 2 r ++ x)))) (node_end g w v)
