-- The bytes of entries, one more at a time.
use Prim.Native.Nat.{ℕ, zero, suc, ◌+◌, ◌*◌, ◌≤◌, ◌<◌}
use mathlib.Core.Path.{◌≡◌, refl, sym, ◌∙◌, ap}
use mathlib.Core.List.{List, [], ◌∷◌, ◌++◌, append_assoc, append-nil}
use native.Mathlib.Omega.{arith}
use native.Mathlib.Nat.{zero-add}
use lib.ListN.{length, get_or, take, drop, length-append, get_or-append}
use lib.Seq.{get_or-append-add, length-take-le}
use Rattle.plexil.specs.Lists.{put}
use Rattle.plexil.specs.Assemble as Assemble
use Rattle.plexil.specs.Assemble.{join}
use Rattle.plexil.proofs.PutLaws.{length-put}
use Rattle.notation.specs.Draft.{Entry, constant, unknown_of, variable, lookup, about, negation, two, Draft}
use Rattle.notation.specs.Hearing.{◌▸◌}
use Rattle.notation.specs.Mapping.{kind_of_entry, entry_bytes, all_entries}
use Rattle.build.specs.Standing.{Scene, Stands, entries_bytes, kinds_after}
use Rattle.build.proofs.Puts.{put_then}

all_more : (d : Draft) (ks : List ℕ) (es : List Entry) (e : Entry) → join (all_entries d ks (es ▸ e)) ≡ join (all_entries d ks es) ++ entry_bytes d (kinds_after d ks es) e
unfolding join all_entries ◌▸◌ kinds_after
all_more d ks [] e = append-nil (entry_bytes d ks e)
all_more d ks (f ∷ es) e = ap (λ x. entry_bytes d ks f ++ x) (all_more d (ks ++ (kind_of_entry d ks f ∷ [])) es e) ∙ sym (append_assoc (entry_bytes d ks f) _ _)

-- "Expression, 16 bytes"
entry_length : (d : Draft) (ks : List ℕ) (e : Entry) → length (entry_bytes d ks e) ≡ 16
unfolding entry_bytes Assemble.opened
entry_length d ks (constant k c) = refl
entry_length d ks (unknown_of k) = refl
entry_length d ks (variable n x) = refl
entry_length d ks (lookup x) = refl
entry_length d ks (about w n xs k) = refl
entry_length d ks (negation a) = refl
entry_length d ks (two o a b) = refl

all-length : (d : Draft) (ks : List ℕ) (es : List Entry) → length (join (all_entries d ks es)) ≡ 16 * length es
unfolding join all_entries
all-length d ks [] = refl
all-length d ks (e ∷ es) = length-append (entry_bytes d ks e) _ ∙ omega (arith, entry_length d ks e, all-length d (ks ++ (kind_of_entry d ks e ∷ [])) es)

pub entries-length : (d : Draft) (es : List Entry) → length (entries_bytes d es) ≡ 16 * length es
unfolding entries_bytes
entries-length d es = all-length d [] es

pub entries-more : (d : Draft) (es : List Entry) (e : Entry) → entries_bytes d (es ▸ e) ≡ entries_bytes d es ++ entry_bytes d (kinds_after d [] es) e
unfolding entries_bytes
entries-more d es e = all_more d [] es e

-- the second byte of an entry is its kind
entry-kind : (d : Draft) (ks : List ℕ) (e : Entry) → get_or (entry_bytes d ks e) 1 0 ≡ kind_of_entry d ks e
unfolding entry_bytes kind_of_entry Assemble.opened
entry-kind d ks (constant k c) = refl
entry-kind d ks (unknown_of k) = refl
entry-kind d ks (variable n x) = refl
entry-kind d ks (lookup x) = refl
entry-kind d ks (about w n xs k) = refl
entry-kind d ks (negation a) = refl
entry-kind d ks (two o a b) = refl

pub length_more : (es : List Entry) (e : Entry) → length (es ▸ e) ≡ length es + 1
unfolding ◌▸◌
length_more es e = length-append es (e ∷ [])

module _ (s : Scene) (base : ℕ) (es : List Entry) (room : length s.under ≡ 41108) (low : base ≤ 6164) where
  pub stands-length : (image : List ℕ) (n : ℕ) → Stands s base image es n → length es ≤ 2048 → length image ≡ 41108
  stands-length image n t h = ap length t.bytes ∙ length-put s.under base _ (omega (arith, entries-length s.whole es)) ∙ room

  pub stands-more : (image after : List ℕ) (n : ℕ) (e : Entry) → Stands s base image es n → length es < 2048
      → (length image ≡ 41108 → after ≡ put image (base + 16 * n) (entry_bytes s.whole (kinds_after s.whole [] es) e)) → Stands s base after (es ▸ e) (n + 1)
  stands-more image after n e t h p =
      let b = entry_bytes s.whole (kinds_after s.whole [] es) e in
      let m : length (entries_bytes s.whole es) ≡ 16 * n = omega (arith, entries-length s.whole es, t.counted) in
      record {
        bytes = p (stands-length image n t (omega arith)) ∙ ap (λ x. put x (base + 16 * n) b) t.bytes
            ∙ put_then s.under base (16 * n) (entries_bytes s.whole es) b m (omega arith) ∙ ap (put s.under base) (sym (entries-more s.whole es e));
        counted = omega (arith, t.counted, length_more es e);
      }

put-inside : (l : List ℕ) (k : ℕ) (ws : List ℕ) (j : ℕ) → k ≤ length l → j < length ws → get_or (put l k ws) (k + j) 0 ≡ get_or ws j 0
unfolding put
put-inside l k ws j h m =
    ap (λ x. get_or (take k l ++ (ws ++ drop (k + length ws) l)) (x + j) 0) (sym (length-take-le k l h))
    ∙ get_or-append-add (take k l) (ws ++ drop (k + length ws) l) j 0 ∙ get_or-append ws (drop (k + length ws) l) 0 j m

kinds_kept : (d : Draft) (ks : List ℕ) (es : List Entry) (j : ℕ) → j < length ks → get_or (kinds_after d ks es) j 0 ≡ get_or ks j 0
unfolding kinds_after
kinds_kept d ks [] j h = refl
kinds_kept d ks (e ∷ es) j h =
    kinds_kept d (ks ++ (kind_of_entry d ks e ∷ [])) es j (omega (arith, length-append ks (kind_of_entry d ks e ∷ []))) ∙ get_or-append ks (kind_of_entry d ks e ∷ []) 0 j h

kind-byte : (d : Draft) (ks : List ℕ) (es : List Entry) (a : ℕ) → a < length es → get_or (join (all_entries d ks es)) (16 * a + 1) 0 ≡ get_or (kinds_after d ks es) (length ks + a) 0
unfolding join all_entries kinds_after
kind-byte d ks [] a h = absurd (omega arith)
kind-byte d ks (e ∷ es) zero h =
    let k = kind_of_entry d ks e in
    get_or-append (entry_bytes d ks e) _ 0 1 (omega (arith, entry_length d ks e)) ∙ entry-kind d ks e ∙ sym (get_or-append-add ks (k ∷ []) 0 0)
    ∙ sym (kinds_kept d (ks ++ (k ∷ [])) es (length ks + 0) (omega (arith, length-append ks (k ∷ []))))
kind-byte d ks (e ∷ es) (suc a) h =
    let k = kind_of_entry d ks e in
    let rest = join (all_entries d (ks ++ (k ∷ [])) es) in
    let p : 16 * suc a + 1 ≡ length (entry_bytes d ks e) + (16 * a + 1) = omega (arith, entry_length d ks e) in
    let q : length (ks ++ (k ∷ [])) + a ≡ length ks + suc a = omega (arith, length-append ks (k ∷ [])) in
    ap (λ x. get_or (entry_bytes d ks e ++ rest) x 0) p ∙ get_or-append-add (entry_bytes d ks e) rest (16 * a + 1) 0
    ∙ kind-byte d (ks ++ (k ∷ [])) es a (omega arith) ∙ ap (λ x. get_or (kinds_after d (ks ++ (k ∷ [])) es) x 0) q

-- the kind of an entry stands in the image
pub kind-stands : (s : Scene) (base : ℕ) (es : List Entry) (image : List ℕ) (n a : ℕ) → base ≤ length s.under → Stands s base image es n → a < length es
    → get_or image (base + (16 * a + 1)) 0 ≡ get_or (kinds_after s.whole [] es) a 0
unfolding entries_bytes
kind-stands s base es image n a r t h =
    ap (λ x. get_or x (base + (16 * a + 1)) 0) t.bytes ∙ put-inside s.under base (entries_bytes s.whole es) (16 * a + 1) r (omega (arith, all-length s.whole [] es))
    ∙ kind-byte s.whole [] es a h ∙ ap (λ x. get_or (kinds_after s.whole [] es) x 0) (zero-add a)
