-- Laws of a step's words: one node more, and one word more at the front of a list's part.
use Prim.Native.Nat.{ℕ, zero, suc, ◌+◌, ◌*◌, ◌≤◌, ◌<◌, ◌-◌}
use mathlib.Core.Path.{◌≡◌, refl, sym, ap, ◌∙◌}
use mathlib.Core.List.{List, [], ◌∷◌, ◌++◌, append_assoc, append-nil}
use native.Mathlib.Omega.{arith}
use lib.ListN.{length, get_or, drop, set, length-append}
use lib.Seq.{drop-cons, set_at}
use Rattle.plexil.specs.Lists.{put}
use Rattle.plexil.specs.Micro.{word_of, words_from}

-- the words of n + k nodes are those of n and then those of k
words-split : (f : ℕ → ℕ) (n i k : ℕ) → words_from f i (n + k) ≡ words_from f i n ++ words_from f (i + n) k
unfolding words_from
words-split f zero i k =
    let a : 0 + k ≡ k = omega arith in
    let b : i ≡ i + 0 = omega arith in
    ap (words_from f i) a ∙ ap (λ (j : ℕ). words_from f j k) b
words-split f (suc n) i k =
    let a : suc n + k ≡ suc (n + k) = omega arith in
    let b : suc i + n ≡ i + suc n = omega arith in
    ap (words_from f i) a
    ∙ (ap (λ (l : List ℕ). word_of i (f i) ++ l) (words-split f n (suc i) k ∙ ap (λ (j : ℕ). words_from f (suc i) n ++ words_from f j k) b)
    ∙ sym (append_assoc (word_of i (f i)) (words_from f (suc i) n) (words_from f (i + suc n) k)))

one-node : (f : ℕ → ℕ) (i : ℕ) → words_from f i 1 ≡ word_of i (f i)
unfolding words_from
one-node f i = append-nil (word_of i (f i))

pub words_more : (f : ℕ → ℕ) (i : ℕ) → words_from f 0 (i + 1) ≡ words_from f 0 i ++ word_of i (f i)
words_more f i =
    let e : 0 + i ≡ i = omega arith in
    words-split f i 0 1 ∙ ap (λ (l : List ℕ). words_from f 0 i ++ l) (ap (λ (j : ℕ). words_from f j 1) e ∙ one-node f i)

-- a node that sends nothing, and one that sends x
pub words-none : (f : ℕ → ℕ) (i : ℕ) {w : ℕ} → w ≡ f i → w ≡ 0 → words_from f 0 (i + 1) ≡ words_from f 0 i
unfolding word_of
words-none f i e z = words_more f i ∙ (ap (λ (w : ℕ). words_from f 0 i ++ word_of i w) (sym e ∙ z) ∙ append-nil (words_from f 0 i))

pub words-one : (f : ℕ → ℕ) (i x : ℕ) {w : ℕ} → w ≡ f i → word_of i w ≡ x ∷ [] → words_from f 0 (i + 1) ≡ words_from f 0 i ++ (x ∷ [])
words-one f i x e h = words_more f i ∙ ap (λ (l : List ℕ). words_from f 0 i ++ l) (ap (word_of i) (sym e) ∙ h)

-- fewer nodes have no more words
pub words-within : (f : ℕ → ℕ) (i n : ℕ) → i ≤ n → length (words_from f 0 i) ≤ length (words_from f 0 n)
words-within f i n h =
    let a : n ≡ i + (n - i) = omega arith in
    let e : words_from f 0 n ≡ words_from f 0 i ++ words_from f (0 + i) (n - i) = ap (words_from f 0) a ∙ words-split f i 0 (n - i) in
    omega (arith, ap length e, length-append (words_from f 0 i) (words_from f (0 + i) (n - i)))

-- some word is sent
pub sends : (i w : ℕ) → (w ≡ 0 → ⊥) → length (word_of i w) ≡ 1
unfolding word_of
sends i zero h = absurd (h refl)
sends i (suc zero) h = refl
sends i (suc (suc w)) h = refl

pub length_more : (f : ℕ → ℕ) (i : ℕ) {w : ℕ} → w ≡ f i → (w ≡ 0 → ⊥) → length (words_from f 0 (i + 1)) ≡ length (words_from f 0 i) + 1
length_more f i {w} e h =
    ap length (words_more f i) ∙ (length-append (words_from f 0 i) (word_of i (f i)) ∙ ap (λ (k : ℕ). length (words_from f 0 i) + k) (ap (λ (v : ℕ). length (word_of i v)) (sym e) ∙ sends i w h))

pub word-abort : (i w : ℕ) → (w ≡ 0 → ⊥) → (w ≡ 1 → ⊥) → word_of i w ≡ (2 * i + 1) ∷ []
unfolding word_of
word-abort i zero h g = absurd (h refl)
word-abort i (suc zero) h g = absurd (g refl)
word-abort i (suc (suc w)) h g = refl

-- ---- the list's part
pub put_one : (l ws : List ℕ) (x k : ℕ) → k ≡ length ws → k < length l → set (put l 0 ws) k x ≡ put l 0 (ws ++ (x ∷ []))
unfolding put
put_one l ws x k e h =
    let a : 0 + length ws ≡ k = omega arith in
    let b : suc k ≡ 0 + length (ws ++ (x ∷ [])) = omega (arith, length-append ws (x ∷ [])) in
    ap (λ (n : ℕ). set (ws ++ drop n l) k x) a
    ∙ (ap (λ (m : List ℕ). set (ws ++ m) k x) (drop-cons l k 0 h)
    ∙ (set_at ws _ (drop (suc k) l) x k (sym e)
    ∙ (sym (append_assoc ws (x ∷ []) (drop (suc k) l)) ∙ ap (λ (n : ℕ). (ws ++ (x ∷ [])) ++ drop n l) b)))

-- ---- the loops: the words of the nodes below i, as an array tells what each sends
abbrev pub sent_words : List ℕ → ℕ → List ℕ
sent_words sent i = words_from (λ (k : ℕ). get_or sent k 0) 0 i

module _ (sent : List ℕ) (i : ℕ) {w : ℕ} (e : w ≡ get_or sent i 0) where
  pub count_none : w ≡ 0 → {n : ℕ} → n ≡ length (sent_words sent i) → n ≡ length (sent_words sent (i + 1))
  count_none z h = h ∙ ap length (sym (words-none (λ (k : ℕ). get_or sent k 0) i e z))

  pub count-one : (w ≡ 0 → ⊥) → {n : ℕ} → n ≡ length (sent_words sent i) → n + 1 ≡ length (sent_words sent (i + 1))
  count-one z {n} h = omega (arith, length_more (λ (k : ℕ). get_or sent k 0) i e z)

  pub list-none : w ≡ 0 → (l l₀ : List ℕ) → l ≡ put l₀ 0 (sent_words sent i) → l ≡ put l₀ 0 (sent_words sent (i + 1))
  list-none z l l₀ h = h ∙ ap (put l₀ 0) (sym (words-none (λ (k : ℕ). get_or sent k 0) i e z))

  pub list-one : (x : ℕ) → word_of i w ≡ x ∷ [] → (n : ℕ) (l l₀ : List ℕ) → n ≡ length (sent_words sent i) → n < length l₀ → l ≡ put l₀ 0 (sent_words sent i)
      → set l n x ≡ put l₀ 0 (sent_words sent (i + 1))
  list-one x h n l l₀ a b g =
      ap (λ (m : List ℕ). set m n x) g ∙ (put_one l₀ (sent_words sent i) x n a b ∙ ap (put l₀ 0) (sym (words-one (λ (k : ℕ). get_or sent k 0) i x e h)))

  -- there is a place for a word that is sent
  pub has_room : (w ≡ 0 → ⊥) → (n : ℕ) → i < n → (room : ℕ) → length (sent_words sent n) ≤ room → length (sent_words sent i) < room
  has_room z n h room b = omega (arith, length_more (λ (k : ℕ). get_or sent k 0) i e z, words-within (λ (k : ℕ). get_or sent k 0) (i + 1) n (omega arith))
