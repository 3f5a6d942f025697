-- Names: bytes of a word can become a name, since '_' makes any reserved word one.
use Prim.Native.Nat.{ℕ}
use Prim.Native.String.{String}
use mathlib.Core.Path.{◌≡◌, refl, sym, ◌∙◌, ap}
use mathlib.Core.Bool.{Bool, true, false, not, ◌&&◌, ◌||◌, true≢false, false≢true}
use mathlib.Core.List.{List, [], ◌∷◌, ◌++◌, append-nil}
use lib.Dec.{eqb}
use borrow.Author.Tests.{not-true}
use Rattle.grammar.specs.Spelling.{Token, is_letter, is_digit, is_word_byte, joins, goes_on, whole}
use Rattle.grammar.specs.Leads.{bytes, same, among, word_bytes, is_word, Lead, name, fits, accepts}
use Rattle.grammar.proofs.Bools.{both, both_true}
use Rattle.grammar.proofs.Tokens.{whole_append}
use Rattle.grammar.proofs.Same.{same-eq}

pub words_append : (q v : List ℕ) → word_bytes (q ++ v) ≡ true → word_bytes q ≡ true
unfolding word_bytes
words_append [] v e = refl
words_append (b ∷ q) v e = let h = both (is_word_byte b) _ e in both_true _ _ (h.0) (words_append q v (h.1))

words_more : (q v : List ℕ) → word_bytes q ≡ true → word_bytes v ≡ true → word_bytes (q ++ v) ≡ true
unfolding word_bytes
words_more [] v e e' = e'
words_more (b ∷ q) v e e' = let h = both (is_word_byte b) (word_bytes q) e in both_true _ _ (h.0) (words_more q v (h.1) e')

-- the last byte is '_'
unfoldable pub low : List ℕ → Bool
low [] = false
low (b ∷ []) = eqb b 95
low (b ∷ (c ∷ t)) = low (c ∷ t)

pub low_end : (q : List ℕ) → low (q ++ (95 ∷ [])) ≡ true
unfolding low
low_end [] = refl
low_end (b ∷ []) = refl
low_end (b ∷ (c ∷ q)) = low_end (c ∷ q)

-- no reserved word ends in '_': then each word, reserved or not, is the beginning of a name
unfoldable pub none_low : List String → Bool
none_low [] = true
none_low (w ∷ ws) = not (low (bytes w)) && none_low ws

pub low-among : (ws : List String) (t : Token) → none_low ws ≡ true → low t ≡ true → among ws t ≡ false
unfolding none_low among
low-among [] t e l = refl
low-among (w ∷ ws) t e l = go (same (bytes w) t) refl (low-among ws t h.1 l)
  where
    h : (not (low (bytes w)) ≡ true) × (none_low ws ≡ true)
    h = both (not (low (bytes w))) (none_low ws) e

    go : (k : Bool) → same (bytes w) t ≡ k → among ws t ≡ false → same (bytes w) t || among ws t ≡ false
    go true s r = absurd (true≢false (sym l ∙ ap low (sym (same-eq (bytes w) t s)) ∙ not-true (low (bytes w)) h.0))
    go false s r = rw s r

-- what a lead's test must say
abbrev pub Sound : List String → Lead → Token → Type 0
Sound reserved l q = (v : List ℕ) × (goes_on q v ≡ true) × (accepts reserved l (q ++ v) ≡ true)

low-goes-on : (q : Token) → is_word q ≡ true → goes_on q (95 ∷ []) ≡ true
unfolding is_word goes_on joins is_word_byte is_letter is_digit
low-goes-on [] e = absurd (false≢true e)
low-goes-on (c ∷ q) e = rw (both (is_letter c) (word_bytes q) e).0

word_more : (q : Token) → is_word q ≡ true → is_word (q ++ (95 ∷ [])) ≡ true
unfolding is_word word_bytes is_word_byte is_letter is_digit
word_more [] e = absurd (false≢true e)
word_more (c ∷ q) e = let h = both (is_letter c) (word_bytes q) e in both_true _ _ (h.0) (words_more q (95 ∷ []) (h.1) refl)

pub name-sound : (reserved : List String) → none_low reserved ≡ true → (q : Token) → whole q ≡ true → is_word q ≡ true → Sound reserved name q
unfolding accepts fits goes_on
name-sound reserved none-low q w e = go (among reserved q) refl
  where
    longer : Token
    longer = q ++ (95 ∷ [])

    no-reserved : among reserved longer ≡ false
    no-reserved = low-among reserved longer none-low (low_end q)

    go : (k : Bool) → among reserved q ≡ k → Sound reserved name q
    go false s = ([], refl, rw (append-nil q) (both_true _ _ w (both_true _ _ e (ap not s))))
    go true s =
        let g = low-goes-on q e in
        (95 ∷ [], g, both_true _ _ (whole_append q (95 ∷ []) w g) (both_true _ _ (word_more q e) (ap not no-reserved)))
