-- One more declaration: what the table and the image have.
use Prim.Native.Nat.{ℕ, zero, suc, ◌+◌, ◌*◌, ◌≤◌, ◌<◌}
use mathlib.Core.Path.{◌≡◌, refl, sym, ◌∙◌, ap, subst}
use mathlib.Core.Bool.{Bool, true, false}
use mathlib.Core.List.{List, [], ◌∷◌, ◌++◌, append_assoc, append-nil}
use native.Mathlib.Omega.{arith}
use lib.Dec.{eqb}
use lib.ListN.{length, get_or, set, length-set}
use lib.Seq.{get_or-set_same, get_or-set_other}
use borrow.Author.Tests.{eqb-true, eqb-false}
use Rattle.plexil.specs.Lists.{put}
use Rattle.plexil.specs.Assemble.{join}
use Rattle.plexil.specs.Assemble as Assemble
use Rattle.plexil.proofs.PutLaws.{length-put, put-none}
use Rattle.notation.specs.Draft.{Command, Lookup}
use Rattle.notation.specs.Hearing.{◌▸◌}
use Rattle.notation.specs.Mapping.{kind_code, kind_of_lookup, number_of_command, all_lookups}
use Rattle.notation.proofs.ImageLength.{length-join, lookups-sized, lookups-many}
use Rattle.build.specs.Declarations.{Recorded}
use Rattle.build.proofs.Puts.{put_then}

-- ---- what a list says of its places, with one more at its end
module _ {A : Type 0} (g : A → ℕ) (f : List A → ℕ → ℕ) (none : (i : ℕ) → f [] i ≡ 0) (front : (a : A) (l : List A) → f (a ∷ l) 0 ≡ g a) (back : (a : A) (l : List A) (i : ℕ) → f (a ∷ l) (suc i) ≡ f l i) where
  new : (l : List A) (a : A) → f (l ▸ a) (length l) ≡ g a
  unfolding ◌▸◌
  new [] a = front a []
  new (b ∷ l) a = back b (l ▸ a) (length l) ∙ new l a

  same : (l : List A) (a : A) (i : ℕ) → (i ≡ length l → ⊥) → f (l ▸ a) i ≡ f l i
  unfolding ◌▸◌
  same [] a zero h = absurd (h refl)
  same [] a (suc i) h = back a [] i ∙ none i ∙ sym (none (suc i))
  same (b ∷ l) a zero h = front b (l ▸ a) ∙ sym (front b l)
  same (b ∷ l) a (suc i) h = back b (l ▸ a) i ∙ same l a i (λ e. h (ap suc e)) ∙ sym (back b l i)

  more : (l : List A) (a : A) (i before after : ℕ) → before ≡ f l i → (i ≡ length l → after ≡ g a) → ((i ≡ length l → ⊥) → after ≡ before) → after ≡ f (l ▸ a) i
  more l a i before after e h k = by (eqb i (length l)) refl
    where
      by : (b : Bool) → eqb i (length l) ≡ b → after ≡ f (l ▸ a) i
      by true q = let m = eqb-true i (length l) q in h m ∙ sym (new l a) ∙ ap (f (l ▸ a)) (sym m)
      by false q = let m = eqb-false i (length l) q in k m ∙ e ∙ sym (same l a i m)

number_more : (cs : List Command) (d : Command) (i before after : ℕ) → before ≡ number_of_command cs i → (i ≡ length cs → after ≡ d.number) → ((i ≡ length cs → ⊥) → after ≡ before) → after ≡ number_of_command (cs ▸ d) i
unfolding number_of_command
number_more = more (λ d. d.number) number_of_command (λ i. refl) (λ d l. refl) (λ d l i. refl)

kind-more : (ls : List Lookup) (l : Lookup) (i before after : ℕ) → before ≡ kind_of_lookup ls i → (i ≡ length ls → after ≡ kind_code l.kind) → ((i ≡ length ls → ⊥) → after ≡ before) → after ≡ kind_of_lookup (ls ▸ l) i
unfolding kind_of_lookup
kind-more = more (λ l. kind_code l.kind) kind_of_lookup (λ i. refl) (λ d l. refl) (λ d l i. refl)

-- ---- the records of lookups
lookups-more : (ls : List Lookup) (l : Lookup) → join (all_lookups (ls ▸ l)) ≡ join (all_lookups ls) ++ Assemble.lookup (kind_code l.kind)
unfolding join all_lookups ◌▸◌
lookups-more [] l = append-nil (Assemble.lookup (kind_code l.kind))
lookups-more (m ∷ ls) l = ap (λ x. Assemble.lookup (kind_code m.kind) ++ x) (lookups-more ls l) ∙ sym (append_assoc (Assemble.lookup (kind_code m.kind)) _ _)

pub lookups-length : (ls : List Lookup) → length (join (all_lookups ls)) ≡ 2 * length ls
lookups-length ls = length-join 2 (all_lookups ls) (lookups-sized ls) ∙ ap (λ n. 2 * n) (lookups-many ls)

module _ (base : ℕ) (under old image kind : List ℕ) (cs : List Command) (ls : List Lookup) (t : Recorded base under old image kind cs ls) where
  pub command-recorded : (d : Command) (i v : ℕ) → i ≡ length cs → i < 256 → v ≡ d.number → Recorded base under old image (set kind i v) (cs ▸ d) ls
  command-recorded d i v e h n =
      record {
        bytes = t.bytes;
        size = length-set kind i v ∙ t.size;
        numbers = λ j m. number_more cs d j (get_or kind j 0) (get_or (set kind i v) j 0) (t.numbers j m)
            (λ q. ap (λ x. get_or (set kind i v) x 0) (q ∙ sym e) ∙ get_or-set_same kind i v 0 (omega (arith, t.size)) ∙ n) (λ q. get_or-set_other kind i j v 0 (λ p. q (p ∙ e)));
        kinds = λ j m. get_or-set_other kind i (256 + j) v 0 (λ p. absurd (omega arith)) ∙ t.kinds j m;
        kept = λ j m. get_or-set_other kind i j v 0 (λ p. absurd (omega arith)) ∙ t.kept j m;
      }

  -- past the table
  pub command-passed : (d : Command) (i : ℕ) → i ≡ length cs → 256 ≤ i → Recorded base under old image kind (cs ▸ d) ls
  command-passed d i e h =
      record {
        bytes = t.bytes;
        size = t.size;
        numbers = λ j m. number_more cs d j (get_or kind j 0) (get_or kind j 0) (t.numbers j m) (λ q. absurd (omega arith)) (λ q. refl);
        kinds = t.kinds;
        kept = t.kept;
      }

  pub lookup-recorded : (l : Lookup) (i v : ℕ) (after : List ℕ) → i ≡ length ls → i < 64 → base ≤ 40980 → length under ≡ 41108 → v ≡ kind_code l.kind
      → (length image ≡ 41108 → after ≡ put image (base + 2 * i) (Assemble.lookup v)) → Recorded base under old after (set kind (256 + i) v) cs (ls ▸ l)
  lookup-recorded l i v after e h low room n p =
      let long : length image ≡ 41108 = ap length t.bytes ∙ length-put under base _ (omega (arith, lookups-length ls)) ∙ room in
      let m : length (join (all_lookups ls)) ≡ 2 * i = omega (arith, lookups-length ls) in
      record {
        bytes = p long ∙ ap (λ x. put x (base + 2 * i) (Assemble.lookup v)) t.bytes ∙ put_then under base (2 * i) (join (all_lookups ls)) (Assemble.lookup v) m (omega arith)
            ∙ ap (λ x. put under base (join (all_lookups ls) ++ Assemble.lookup x)) n ∙ ap (put under base) (sym (lookups-more ls l));
        size = length-set kind (256 + i) v ∙ t.size;
        numbers = λ j k. get_or-set_other kind (256 + i) j v 0 (λ q. absurd (omega arith)) ∙ t.numbers j k;
        kinds = λ j k. kind-more ls l j (get_or kind (256 + j) 0) (get_or (set kind (256 + i) v) (256 + j) 0) (t.kinds j k)
            (λ q. ap (λ x. get_or (set kind (256 + i) v) (256 + x) 0) (q ∙ sym e) ∙ get_or-set_same kind (256 + i) v 0 (omega (arith, t.size)) ∙ n)
            (λ q. get_or-set_other kind (256 + i) (256 + j) v 0 (λ r. q (omega (arith, r))));
        kept = λ j k. get_or-set_other kind (256 + i) j v 0 (λ q. absurd (omega arith)) ∙ t.kept j k;
      }

-- nothing is declared
pub none-recorded : (base : ℕ) (image kind : List ℕ) → length kind ≡ 704 → ((i : ℕ) → i < 320 → get_or kind i 0 ≡ 0) → Recorded base image kind image kind [] []
unfolding join all_lookups number_of_command kind_of_lookup
none-recorded base image kind e h =
    record {
      bytes = sym (put-none image base);
      size = e;
      numbers = λ i m. h i (omega arith);
      kinds = λ i m. h (256 + i) (omega arith);
      kept = λ i m. refl;
    }

-- what is known where a loop goes on
pub recorded-moved : (base : ℕ) (under old image kind image' kind' : List ℕ) (cs : List Command) (ls : List Lookup) → image' ≡ image → kind' ≡ kind → Recorded base under old image kind cs ls → Recorded base under old image' kind' cs ls
recorded-moved base under old image kind image' kind' cs ls e f t = subst (λ x. Recorded base under old x kind' cs ls) (sym e) (subst (λ x. Recorded base under old image x cs ls) (sym f) t)
