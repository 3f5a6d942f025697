-- Paths: a part at a time, and the question at their end.
use Prim.Native.Nat.{ℕ, suc, ◌-◌, ◌≤◌, ◌<◌}
use mathlib.Core.Path.{◌≡◌, refl, sym, ◌∙◌, ap}
use mathlib.Core.Bool.{Bool, true, false, cond, false≢true}
use mathlib.Core.List.{List, [], ◌∷◌, ◌++◌}
use native.Mathlib.Omega.{arith}
use lib.ListN.{length, get_or}
use lib.Dec.{eqb, leb}
use borrow.Author.Tests.{eqb-true, le-leb}
use Rattle.plexil.specs.Lists.{all_below, Found, at, nowhere}
use Rattle.plexil.specs.Assemble as Assemble
use Rattle.plexil.proofs.ListLaws.{all_below-at}
use Rattle.grammar.specs.Spelling.{Token, Placed}
use Rattle.grammar.specs.Table.{Said}
use Rattle.notation.specs.Sayings.{What, Saying, asks}
use Rattle.notation.specs.Phrases.{Sayings, Says, Path, asked, part}
use Rattle.notation.specs.Numbers.{flag}
use Rattle.notation.specs.Draft.{Entry, about, negation, Mentioned, Pending, Draft, with_mentions}
use Rattle.notation.specs.Hearing as Hearing
use Rattle.notation.specs.Hearing.{hear, hear_all, here, last, mention_path, negated, all_bytes, ◌▸◌}
use Rattle.notation.specs.Names.{node_of, node_up, node_down, child_of}
use Rattle.notation.specs.Mapping.{entry_bytes, number_of, what_code}
use Rattle.recognise.specs.declared.Cursor.{Cursor}
use Rattle.recognise.specs.Codes as Codes
use Rattle.recognise.specs.Codes.{say_of}
use Rattle.std.specs.Prelude.{Option, unwrap_or, is_some, Some, None}
use Rattle.names.specs.Answers.{found_of}
use Rattle.build.specs.Flow.{After, code_of}
use Rattle.build.specs.Standing.{Scene, Fair, Stands, within}
use Rattle.build.specs.Hearsay.{Hears, Heard}
use Rattle.build.specs.Named.{holding, Held}
use Rattle.build.specs.Questions as Questions
use Rattle.build.specs.Questions.{op_of, code_in, not_in}
use Rattle.build.specs.Steps.{Stepped, Past, Emits}
use Rattle.build.proofs.EntryLaws.{length_more}
use Rattle.build.proofs.Growth.{grows}
use Rattle.build.proofs.LeafLaws.{path-some, path-code, asks-range, past_next}
use Rattle.build.proofs.OperatorLaws.{negation-bytes}

-- ---- what a path means
pub down-nowhere : (d : Draft) (xs : List Token) → node_down d nowhere xs ≡ nowhere
unfolding node_down
down-nowhere d [] = refl
down-nowhere d (x ∷ xs) = refl

down-more : (d : Draft) (f : Found) (xs : List Token) (y : Token) → node_down d f (xs ++ (y ∷ [])) ≡ node_down d (node_down d f xs) (y ∷ [])
unfolding node_down
down-more d f [] y = refl
down-more d nowhere (x ∷ xs) y = refl
down-more d (at m) (x ∷ xs) y = down-more d (child_of d m x) xs y

bytes-more : (hs : List Placed) (t : Placed) → all_bytes (hs ▸ t) ≡ all_bytes hs ++ (t.bytes ∷ [])
unfolding all_bytes ◌▸◌
bytes-more [] t = refl
bytes-more (h ∷ hs) t = ap (λ x. h.bytes ∷ x) (bytes-more hs t)

-- one part more
pub path-more : (d : Draft) (n : ℕ) (h : Placed) (hs : List Placed) (t : Placed) → node_down d (node_of d n (all_bytes (h ∷ hs))) (t.bytes ∷ []) ≡ node_of d n (all_bytes (h ∷ (hs ▸ t)))
unfolding node_of all_bytes
path-more d n h hs t = sym (down-more d (node_up d (suc n) n h.bytes) (all_bytes hs) t.bytes) ∙ ap (node_down d (node_up d (suc n) n h.bytes)) (sym (bytes-more hs t))

pub path-one : (d : Draft) (n : ℕ) (h : Placed) → node_up d (suc n) n h.bytes ≡ node_of d n (all_bytes (h ∷ []))
unfolding node_of node_down all_bytes
path-one d n h = refl

pub lost : (d : Draft) (f : Found) (x : Token) → None ≡ found_of f → None ≡ found_of (node_down d f (x ∷ []))
unfolding found_of node_down
lost d (at i) x e = absurd (false≢true (ap is_some e))
lost d nowhere x e = e

pub below : (a d : Draft) (m : ℕ) (r : Option ℕ) (f : Found) (x : Token) → Some m ≡ found_of f → r ≡ found_of (child_of a m x) → a ≡ d → r ≡ found_of (node_down d f (x ∷ []))
unfolding found_of node_down
below a d m r (at i) x e q z = q ∙ ap (λ y. found_of (child_of y m x)) z ∙ ap (λ y. found_of (child_of d (unwrap_or y 0) x)) e
below a d m r nowhere x e q z = absurd (false≢true (sym (ap is_some e)))

pub first-means : (a d : Draft) (n : ℕ) (x : Token) (r : Option ℕ) → r ≡ found_of (node_up a (suc n) n x) → a ≡ d → r ≡ found_of (node_up d (suc n) n x)
first-means a d n x r e z = e ∙ ap (λ y. found_of (node_up y (suc n) n x)) z

pub first_found : (d : Draft) (n : ℕ) (x : Token) (r : Option ℕ) (h : Placed) → r ≡ found_of (node_up d (suc n) n x) → x ≡ h.bytes → r ≡ found_of (node_of d n (all_bytes (h ∷ [])))
first_found d n x r h e z = e ∙ ap (λ y. found_of (node_up d (suc n) n y)) z ∙ ap found_of (path-one d n h)

-- ---- a part is passed
module _ (u : List ℕ) (s : Scene) (n : ℕ) (ps : List Pending) (size : ℕ) (es : List Entry) (ms : List Mentioned) (h : Placed) where
  pub held_at : (sizes : ℕ) (c : Cursor) (hs : List Placed) → size ≤ sizes → Held u s n ps size c es ms (h ∷ hs) → Held u s n ps sizes c es ms (h ∷ hs)
  held_at sizes c hs m t = record { next = t.next; later = t.later; rest = t.rest; heard = t.heard; code = t.code; hears = t.hears; path = t.path; after = t.after; leads = t.leads; short = omega (arith, t.short) }

  pub part_held : (c r : Cursor) (hs : List Placed) (t : Held u s n ps size c es ms (h ∷ hs)) → c.says ≡ 44 → Stepped u c r → Held u s n ps (size - 1) r es ms (h ∷ (hs ▸ t.next.token))
  unfolding hear_all hear code_of ◌▸◌
  part_held c r hs t e st = go t.later t.path t.hears t.leads t.short
    where
      go : (l : Sayings) → Path (t.next ∷ l) t.rest → Hears u c l → hear_all (t.next ∷ l) (holding s.start es ms ps (h ∷ hs)) ≡ s.whole → length l < size
          → Held u s n ps (size - 1) r es ms (h ∷ (hs ▸ t.next.token))
      go l (asked a b k x) hear' q m = absurd (omega (arith, asks-range u c t.next a b k t.heard x))
      go [] (part x p) hear' q m = absurd (omega (arith, path-some p))
      go (w ∷ l) (part x p) hear' q m =
          let step = st.more w l hear' (path-code w p) in
          record { next = w; later = l; rest = t.rest; heard = step.0; code = step.2; hears = step.1; path = p; after = t.after; leads = rw x at q; short = omega arith }

-- ---- questions by their numbers
module _ (table : List ℕ) (f : Saying → ℕ) where
  right : ℕ → Bool
  right n = cond (leb 45 n) (eqb (get_or table (n - 45) 0) (f (say_of n))) true

  question-at : all_below 79 right ≡ true → (n : ℕ) → 45 ≤ n → n ≤ 78 → get_or table (n - 45) 0 ≡ f (say_of n)
  unfolding right
  question-at q n h m = eqb-true (get_or table (n - 45) 0) (f (say_of n)) (rw (le-leb 45 n h) at (all_below-at 79 right q n (omega arith)))

pub ops-are : (n : ℕ) → 45 ≤ n → n ≤ 78
    → get_or (3 ∷ 3 ∷ 3 ∷ 3 ∷ 3 ∷ 3 ∷ 3 ∷ 3 ∷ 3 ∷ 3 ∷ 3 ∷ 3 ∷ 3 ∷ 3 ∷ 4 ∷ 4 ∷ 4 ∷ 4 ∷ 4 ∷ 4 ∷ 4 ∷ 4 ∷ 5 ∷ 5 ∷ 5 ∷ 5 ∷ 5 ∷ 5 ∷ 5 ∷ 5 ∷ 5 ∷ 5 ∷ 5 ∷ 5 ∷ []) (n - 45) 0 ≡ op_of (say_of n)
unfolding all_below right Questions.opened Codes.opened what_code
ops-are n h m = question-at (3 ∷ 3 ∷ 3 ∷ 3 ∷ 3 ∷ 3 ∷ 3 ∷ 3 ∷ 3 ∷ 3 ∷ 3 ∷ 3 ∷ 3 ∷ 3 ∷ 4 ∷ 4 ∷ 4 ∷ 4 ∷ 4 ∷ 4 ∷ 4 ∷ 4 ∷ 5 ∷ 5 ∷ 5 ∷ 5 ∷ 5 ∷ 5 ∷ 5 ∷ 5 ∷ 5 ∷ 5 ∷ 5 ∷ 5 ∷ []) op_of refl n h m

pub codes-are : (n : ℕ) → 45 ≤ n → n ≤ 78
    → get_or (0 ∷ 1 ∷ 2 ∷ 3 ∷ 4 ∷ 5 ∷ 6 ∷ 0 ∷ 1 ∷ 2 ∷ 3 ∷ 4 ∷ 5 ∷ 6 ∷ 0 ∷ 1 ∷ 2 ∷ 3 ∷ 0 ∷ 1 ∷ 2 ∷ 3 ∷ 0 ∷ 1 ∷ 2 ∷ 3 ∷ 4 ∷ 5 ∷ 0 ∷ 1 ∷ 2 ∷ 3 ∷ 4 ∷ 5 ∷ []) (n - 45) 0 ≡ code_in (say_of n)
unfolding all_below right Questions.opened Codes.opened
codes-are n h m = question-at (0 ∷ 1 ∷ 2 ∷ 3 ∷ 4 ∷ 5 ∷ 6 ∷ 0 ∷ 1 ∷ 2 ∷ 3 ∷ 4 ∷ 5 ∷ 6 ∷ 0 ∷ 1 ∷ 2 ∷ 3 ∷ 0 ∷ 1 ∷ 2 ∷ 3 ∷ 0 ∷ 1 ∷ 2 ∷ 3 ∷ 4 ∷ 5 ∷ 0 ∷ 1 ∷ 2 ∷ 3 ∷ 4 ∷ 5 ∷ []) code_in refl n h m

pub nots-are : (n : ℕ) → 45 ≤ n → n ≤ 78
    → get_or (0 ∷ 0 ∷ 0 ∷ 0 ∷ 0 ∷ 0 ∷ 0 ∷ 1 ∷ 1 ∷ 1 ∷ 1 ∷ 1 ∷ 1 ∷ 1 ∷ 0 ∷ 0 ∷ 0 ∷ 0 ∷ 1 ∷ 1 ∷ 1 ∷ 1 ∷ 0 ∷ 0 ∷ 0 ∷ 0 ∷ 0 ∷ 0 ∷ 1 ∷ 1 ∷ 1 ∷ 1 ∷ 1 ∷ 1 ∷ []) (n - 45) 0 ≡ not_in (say_of n)
unfolding all_below right Questions.opened Codes.opened flag
nots-are n h m = question-at (0 ∷ 0 ∷ 0 ∷ 0 ∷ 0 ∷ 0 ∷ 0 ∷ 1 ∷ 1 ∷ 1 ∷ 1 ∷ 1 ∷ 1 ∷ 1 ∷ 0 ∷ 0 ∷ 0 ∷ 0 ∷ 1 ∷ 1 ∷ 1 ∷ 1 ∷ 0 ∷ 0 ∷ 0 ∷ 0 ∷ 0 ∷ 0 ∷ 1 ∷ 1 ∷ 1 ∷ 1 ∷ 1 ∷ 1 ∷ []) not_in refl n h m

pub part-found : (d : Draft) (n : ℕ) (x : Token) (r : Option ℕ) (h : Placed) (hs : List Placed) (t : Placed) → x ≡ t.bytes
    → r ≡ found_of (node_down d (node_of d n (all_bytes (h ∷ hs))) (x ∷ [])) → r ≡ found_of (node_of d n (all_bytes (h ∷ (hs ▸ t))))
part-found d n x r h hs t e q = q ∙ ap (λ y. found_of (node_down d (node_of d n (all_bytes (h ∷ hs))) (y ∷ []))) e ∙ ap found_of (path-more d n h hs t)

-- ---- the question
path-only : (q : List Token) (ts : List Placed) (d : Draft) → mention_path q ts d ≡ with_mentions (mention_path q ts d).mentions d
unfolding mention_path Hearing.mentioning
path-only q [] d = refl
path-only q (t ∷ ts) d = path-only (q ▸ t.bytes) ts _

-- the entries of a question
unfoldable pub asked_entries : Bool → Entry → List Entry → List Entry
asked_entries false x es = es ▸ x
asked_entries true x es = es ▸ x ▸ negation (length es)

last_more : (es : List Entry) (x : Entry) → last (es ▸ x) ≡ length es
unfolding last
last_more es x = omega (arith, length_more es x)

asks-hears : (d : Draft) (es : List Entry) (ms : List Mentioned) (ps : List Pending) (hs : List Placed) (t : Placed) (a : What) (b : Bool) (k : ℕ)
    → hear (asks a b k) t (holding d es ms ps hs)
    ≡ within d (asked_entries b (about a (here d) (all_bytes hs) k) es) (mention_path [] hs (within d es ms ps)).mentions ps
unfolding hear Hearing.adding negated asked_entries
asks-hears d es ms ps hs t a false k = rw (path-only [] hs (within d es ms ps)) refl
asks-hears d es ms ps hs t a true k = rw (path-only [] hs (within d es ms ps), last_more es (about a (here d) (all_bytes hs) k)) refl

asked-bytes : (d : Draft) (ks : List ℕ) (a : What) (n node : ℕ) (xs : List Token) (k op number code : ℕ) → n ≡ node → op ≡ what_code a → number ≡ number_of (node_of d node xs) → code ≡ k
    → entry_bytes d ks (about a n xs k) ≡ Assemble.expr op 0 number code 0
unfolding entry_bytes
asked-bytes d ks a n node xs k op number code e p q r = cc

module _ (u : List ℕ) (s : Scene) (base n : ℕ) (ps : List Pending) (size : ℕ) (es : List Entry) (ms : List Mentioned) (hs : List Placed) (c r : Cursor) (node count mids many op code sign number : ℕ)
    (image mid after : List ℕ) (f : Fair s node base) (stands : Stands s base image es count) (st : Stepped u c r)
    (named : number ≡ number_of (node_of s.whole node (all_bytes hs)))
    (ops : 45 ≤ c.says → c.says ≤ 78 → op ≡ op_of (say_of c.says)) (codes : 45 ≤ c.says → c.says ≤ 78 → code ≡ code_in (say_of c.says)) (signs : 45 ≤ c.says → c.says ≤ 78 → sign ≡ not_in (say_of c.says))
    (emits : Emits base count op 0 number code 0 image mids mid) where
  -- the entries of the question stand, with its negation where it has one
  Ends : List ℕ → ℕ → Bool → Type 0
  Ends last' total b = Past u s base n ps size r total last' × (count < total)

  finish : (a : What) (b : Bool) (k total : ℕ) (last' : List ℕ) (w : Said Saying) (l : Sayings) → Says w (asks a b k) → Heard u c w → After n l s.rest → Hears u c l
      → hear_all (w ∷ l) (holding s.start es ms ps hs) ≡ s.whole → length l < size
      → ((length (asked_entries b (about a (here s.start) (all_bytes hs) k) es) ≤ 2048) → Stands s base last' (asked_entries b (about a (here s.start) (all_bytes hs) k) es) total)
      → Past u s base n ps size r total last' × (count < total)
  unfolding hear_all asked_entries
  finish a b k total last' w l x hd af hl e m put' =
      let all = asked_entries b (about a (here s.start) (all_bytes hs) k) es in
      let ms' = (mention_path [] hs (within s.start es ms ps)).mentions in
      let leads : hear_all l (within s.start all ms' ps) ≡ s.whole = sym (ap (hear_all l) (asks-hears s.start es ms ps hs w.token a b k)) ∙ rw x at e in
      let few : length all ≤ 2048 = omega (arith, grows l (within s.start all ms' ps), ap (λ d. length d.entries) leads, f.few) in
      let sd = put' few in
      (past_next u s base n ps size c r total last' all ms' l af hl leads (omega arith) sd st, omega (arith, sd.counted, stands.counted, asked-more b (about a (here s.start) (all_bytes hs) k)))
    where
      asked-more : (b : Bool) (x : Entry) → length es < length (asked_entries b x es)
      asked-more false x = omega (arith, length_more es x)
      asked-more true x = omega (arith, length_more es x, length_more (es ▸ x) (negation (length es)))

  first-stands : (a : What) (b : Bool) (k : ℕ) (w : Said Saying) → Says w (asks a b k) → Heard u c w → length es < 2048 → Stands s base mid (es ▸ about a (here s.start) (all_bytes hs) k) mids
  unfolding Questions.opened
  first-stands a b k w x hd few =
      let range = asks-range u c w a b k hd x in
      let what = hd.just.what ∙ x in
      emits s es (about a (here s.start) (all_bytes hs) k) f.room f.low few stands
      (asked-bytes s.whole _ a (here s.start) node (all_bytes hs) k op number code f.ours (ops range.0 range.1 ∙ ap op_of what) named (codes range.0 range.1 ∙ ap code_in what))

  sign-is : (a : What) (b : Bool) (k : ℕ) (w : Said Saying) → Says w (asks a b k) → Heard u c w → sign ≡ flag b
  unfolding Questions.opened
  sign-is a b k w x hd = let range = asks-range u c w a b k hd x in signs range.0 range.1 ∙ ap not_in (hd.just.what ∙ x)

  -- the question is asked with "=="
  pub asked-one : Held u s n ps size c es ms hs → (c.says ≡ 44 → ⊥) → sign ≡ 0 → Past u s base n ps size r mids mid × (count < mids)
  unfolding code_of asked_entries flag
  asked-one t g z = go t.later t.rest t.path t.after t.hears t.leads t.short
    where
      go : (l y : Sayings) → Path (t.next ∷ l) y → After n y s.rest → Hears u c l → hear_all (t.next ∷ l) (holding s.start es ms ps hs) ≡ s.whole → length l < size → Past u s base n ps size r mids mid × (count < mids)
      go l y (asked a false k x) af hl e m = finish a false k mids mid t.next l x t.heard af hl e m (λ few. first-stands a false k t.next x t.heard (omega (arith, length_more es (about a (here s.start) (all_bytes hs) k))))
      go l y (asked a true k x) af hl e m = absurd (omega (arith, sign-is a true k t.next x t.heard))
      go l y (part x p) af hl e m = absurd (g (t.code ∙ ap code_of x))

  -- with "!="
  pub asked-two : Held u s n ps size c es ms hs → (c.says ≡ 44 → ⊥) → (sign ≡ 0 → ⊥) → Emits base mids 6 0 count 0 0 mid many after → Past u s base n ps size r many after × (count < many)
  unfolding code_of asked_entries flag
  asked-two t g z also = go t.later t.rest t.path t.after t.hears t.leads t.short
    where
      go : (l y : Sayings) → Path (t.next ∷ l) y → After n y s.rest → Hears u c l → hear_all (t.next ∷ l) (holding s.start es ms ps hs) ≡ s.whole → length l < size → Past u s base n ps size r many after × (count < many)
      go l y (asked a false k x) af hl e m = absurd (z (sign-is a false k t.next x t.heard))
      go l y (asked a true k x) af hl e m =
          let q = about a (here s.start) (all_bytes hs) k in
          finish a true k many after t.next l x t.heard af hl e m
          (λ few.
          let fits : length (es ▸ q) < 2048 = omega (arith, length_more (es ▸ q) (negation (length es))) in
          also s (es ▸ q) (negation (length es)) f.room f.low fits (first-stands a true k t.next x t.heard (omega (arith, length_more es q)))
          (negation-bytes s.whole _ (length es) ∙ ap (λ y. Assemble.expr 6 0 y 0 0) (sym stands.counted)))
      go l y (part x p) af hl e m = absurd (g (t.code ∙ ap code_of x))
