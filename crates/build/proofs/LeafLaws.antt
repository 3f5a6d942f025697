-- Leaves: what they add, and what is heard after them.
use Prim.Native.Nat.{ℕ, zero, suc, ◌+◌, ◌≤◌, ◌<◌, ◌%◌}
use mathlib.Core.Path.{◌≡◌, refl, sym, ◌∙◌, ap, subst}
use mathlib.Core.Bool.{Bool, true, false, ◌&&◌, cond, false≢true}
use borrow.Author.Tests.{leb-true}
use Rattle.recognise.specs.Codes as Codes
use Rattle.recognise.specs.Codes.{say_of}
use mathlib.Core.List.{List, [], ◌∷◌}
use native.Mathlib.Omega.{arith}
use lib.ListN.{length}
use lib.Dec.{leb}
use Rattle.plexil.specs.Lists.{all_below}
use Rattle.plexil.proofs.ListLaws.{all_below-at}
use Rattle.plexil.specs.Assemble as Assemble
use Rattle.grammar.specs.Spelling.{Token, Placed}
use Rattle.grammar.specs.Table.{Said}
use Rattle.notation.specs.Sayings.{Kind, boolean, integer, float, What, status, outcome, failure, Saying, silence, declares_command, numbers_command, declares_lookup, names, begins, opens_list, closes_list, calls, assigns, conditions, ranks, declares_variable, initial_truth, initial_whole, initial_decimal, initial_bits, truth, whole, decimal, bits, unknown, reads, mentions, descends, asks, negates, operates, parenthesis, closes, ends}
use Rattle.notation.specs.Phrases.{Sayings, Says, Leaf, is-truth, is_whole, is-decimal, is-bits, is-unknown, is-lookup, Path, asked, part}
use Rattle.notation.specs.Draft.{Entry, Mentioned, Pending, Draft, Lookup, Variable, use_of_variable}
use Rattle.notation.specs.Hearing as Hearing
use Rattle.notation.specs.Hearing.{hear, hear_all, here, ◌▸◌}
use Rattle.notation.specs.Names.{variable_of, lookup_of}
use Rattle.notation.specs.Mapping.{entry_bytes, kind_code, kind_of_variable, kind_of_lookup, number_of}
use Rattle.recognise.specs.declared.Cursor.{Cursor}
use Rattle.recognise.specs.Hears.{piece}
use Rattle.build.specs.Flow as Flow
use Rattle.build.specs.Flow.{Before, After, code_of}
use Rattle.build.specs.Standing.{Scene, Fair, Stands, within}
use Rattle.build.specs.Hearsay.{Hears, Heard, Apt}
use Rattle.build.specs.Known.{Lies}
use Rattle.build.specs.Literals.{leaf_entry}
use Rattle.build.specs.Named.{holding, Held}
use Rattle.build.specs.Steps.{Stepped, Met, Past}
use Rattle.build.proofs.LiteralLaws.{leaf-hears, leaf-range}
use Rattle.build.proofs.EntryLaws.{length_more}
use Rattle.build.proofs.Climbing.{after-code, after-some}
use Rattle.build.proofs.Growth.{grows}

-- ---- kinds are bytes
kind-code : (k : Kind) → kind_code k < 256
unfolding kind_code
kind-code boolean = omega arith
kind-code integer = omega arith
kind-code float = omega arith

variable-kind : (vs : List Variable) (i : ℕ) → kind_of_variable vs i < 256
unfolding kind_of_variable
variable-kind [] i = omega arith
variable-kind (v ∷ vs) zero = kind-code v.kind
variable-kind (v ∷ vs) (suc i) = variable-kind vs i

lookup-kind : (vs : List Lookup) (i : ℕ) → kind_of_lookup vs i < 256
unfolding kind_of_lookup
lookup-kind [] i = omega arith
lookup-kind (v ∷ vs) zero = kind-code v.kind
lookup-kind (v ∷ vs) (suc i) = lookup-kind vs i

byte-is : (k m : ℕ) → m < 256 → k ≡ m → m ≡ k % 256
byte-is k m h e = omega arith

pub variable-bytes : (d : Draft) (ks : List ℕ) (n : ℕ) (x : Token) (number kind : ℕ) → (number ≡ number_of (variable_of d n x)) × (kind ≡ kind_of_variable d.variables (number_of (variable_of d n x)))
    → entry_bytes d ks (Entry.variable n x) ≡ Assemble.expr 1 (kind % 256) number 0 0
unfolding entry_bytes
variable-bytes d ks n x number kind h =
    cc (h.0, byte-is kind (kind_of_variable d.variables (number_of (variable_of d n x))) (variable-kind d.variables (number_of (variable_of d n x))) h.1)

pub lookup-bytes : (d : Draft) (ks : List ℕ) (x : Token) (number kind : ℕ) → (number ≡ number_of (lookup_of d x)) × (kind ≡ kind_of_lookup d.lookups (number_of (lookup_of d x)))
    → entry_bytes d ks (Entry.lookup x) ≡ Assemble.expr 2 (kind % 256) number 0 0
unfolding entry_bytes
lookup-bytes d ks x number kind h =
    cc (h.0, byte-is kind (kind_of_lookup d.lookups (number_of (lookup_of d x))) (lookup-kind d.lookups (number_of (lookup_of d x))) h.1)

-- ---- what is heard after a leaf
pub path-some : {l k : Sayings} → Path l k → 0 < length l
path-some (asked a b c e) = omega arith
path-some (part e p) = omega arith

settles : {n : ℕ} {w : Said Saying} {l k : Sayings} (d : Draft) (es : List Entry) (ms : List Mentioned) (ps : List Pending) (t : Placed) → After n (w ∷ l) k
    → hear_all (w ∷ l) (holding d es ms ps (t ∷ []))
    ≡ hear_all (w ∷ l) (within d (es ▸ Entry.variable (here d) t.bytes) (ms ▸ record { mention = use_of_variable (here d) t.bytes; place = t.place }) ps)
unfolding hear_all hear Hearing.end_operators Hearing.settled Hearing.settle_name Hearing.mentioning Hearing.adding
settles d es ms ps t (Flow.closing e a) = rw e refl
settles d es ms ps t (Flow.operator o e a) = rw e refl
settles d es ms ps t (Flow.ending e) = rw e refl

module _ (u : List ℕ) (s : Scene) (base n : ℕ) (ps : List Pending) (size : ℕ) where
  -- the next saying is heard
  pub past_next : (c r : Cursor) (count : ℕ) (image : List ℕ) (es : List Entry) (ms : List Mentioned) (l : Sayings) → After n l s.rest → Hears u c l → hear_all l (within s.start es ms ps) ≡ s.whole
      → length l ≤ size → Stands s base image es count → Stepped u c r → Past u s base n ps size r count image
  past_next c r count image es ms [] a h e m st t = absurd (omega (arith, after-some a))
  past_next c r count image es ms (w ∷ l) a h e m st t =
      let step = t.more w l h (omega (arith, after-code a)) in
      record { next = w; later = l; entries = es; mentioned = ms; heard = step.0; code = step.2; hears = step.1; after = a; leads = e; stands = st; short = omega arith }

  -- the token of what was heard
  pub met-lies : (c : Cursor) (count : ℕ) (image : List ℕ) → Met u s base n ps size c count image → Lies u c
  met-lies c count image m = (m.heard.ordered, m.heard.inside)

  -- a leaf of one token
  record OneToken (c : Cursor) (count : ℕ) (image : List ℕ) (m : Met u s base n ps size c count image) : Type 0 where
    leaf : Leaf m.next.what
    after : After n m.later s.rest

  one_token : (c : Cursor) (count : ℕ) (image : List ℕ) (m : Met u s base n ps size c count image) → c.says ≤ 42 → OneToken c count image m
  unfolding code_of
  one_token c count image m h = go m.before
    where
      go : Before n (m.next ∷ m.later) s.rest → OneToken c count image m
      go (Flow.leaf f a) = record { leaf = f; after = a }
      go (Flow.variable e a) = absurd (omega (arith, m.code, ap code_of e))
      go (Flow.path e p a) = absurd (omega (arith, m.code, ap code_of e))
      go (Flow.not e b) = absurd (omega (arith, m.code, ap code_of e))
      go (Flow.group e b) = absurd (omega (arith, m.code, ap code_of e))

  pub leaf-past : (node : ℕ) (c r : Cursor) (count many : ℕ) (image after : List ℕ) (m : Met u s base n ps size c count image) → Fair s node base → c.says ≤ 42 → Stepped u c r
      → ((es : List Entry) (x : Saying) → length es < 2048 → Stands s base image es count → Leaf x → c.says ≡ code_of x → Apt x (piece u c.from c.to) → Stands s base after (es ▸ leaf_entry x (piece u c.from c.to)) many)
      → Past u s base n ps size r many after × (count < many)
  leaf-past node c r count many image after m f h st adds =
      let o = one_token c count image m h in
      let w = m.next in
      let es = m.entries in
      let x = leaf_entry w.what w.token.bytes in
      let start = within s.start es m.mentioned ps in
      let leads : hear_all m.later (within s.start (es ▸ x) (hear w.what w.token start).mentions ps) ≡ s.whole =
      sym (ap (hear_all m.later) (leaf-hears w.what o.leaf w.token s.start es m.mentioned ps)) ∙ (unfold hear_all in m.leads) in
      let few : length es < 2048 = omega (arith, length_more es x, grows m.later (within s.start (es ▸ x) (hear w.what w.token start).mentions ps), ap (λ d. length d.entries) leads, f.few) in
      let stands = adds es w.what few m.stands o.leaf m.code (subst (Apt w.what) (sym m.heard.just.bytes) m.heard.apt) in
      let stands' : Stands s base after (es ▸ x) many = subst (λ b. Stands s base after (es ▸ leaf_entry w.what b) many) m.heard.just.bytes stands in (
        past_next c r many after (es ▸ x) (hear w.what w.token start).mentions m.later o.after m.hears leads (omega (arith, m.short)) stands' st,
        omega (arith, stands'.counted, m.stands.counted, length_more es x),
      )

-- ---- names
is_question : Saying → Bool
is_question silence = false
is_question declares_command = false
is_question numbers_command = false
is_question (declares_lookup k) = false
is_question names = false
is_question begins = false
is_question opens_list = false
is_question closes_list = false
is_question calls = false
is_question assigns = false
is_question (conditions k) = false
is_question ranks = false
is_question (declares_variable k) = false
is_question (initial_truth b) = false
is_question (initial_whole b) = false
is_question (initial_decimal b) = false
is_question (initial_bits b) = false
is_question (truth b) = false
is_question (whole b) = false
is_question (decimal b) = false
is_question (bits b) = false
is_question (unknown k) = false
is_question reads = false
is_question mentions = false
is_question descends = false
is_question (asks w n k) = true
is_question negates = false
is_question (operates o) = false
is_question parenthesis = false
is_question closes = false
is_question ends = false

in_place : ℕ → Bool
in_place n = cond (is_question (say_of n)) (leb 45 n && leb n 78) true

all-in-place : all_below 95 in_place ≡ true
unfolding all_below in_place is_question Codes.opened
all-in-place = refl

question-range : (n : ℕ) → n ≤ 94 → is_question (say_of n) ≡ true → (45 ≤ n) × (n ≤ 78)
unfolding in_place
question-range n h e = both (rw e at (all_below-at 95 in_place all-in-place n (omega arith)))
  where
    both : (leb 45 n && leb n 78) ≡ true → (45 ≤ n) × (n ≤ 78)
    both q = go (leb 45 n) refl (leb n 78) refl q
      where
        go : (a : Bool) → leb 45 n ≡ a → (b : Bool) → leb n 78 ≡ b → (a && b) ≡ true → (45 ≤ n) × (n ≤ 78)
        go true p true r z = (leb-true 45 n p, leb-true n 78 r)
        go true p false r z = absurd (false≢true z)
        go false p b r z = absurd (false≢true z)

pub asks-range : (u : List ℕ) (c : Cursor) (w : Said Saying) (a : What) (b : Bool) (k : ℕ) → Heard u c w → Says w (asks a b k) → (45 ≤ c.says) × (c.says ≤ 78)
unfolding is_question
asks-range u c w a b k h e = question-range c.says h.known (ap is_question (h.just.what ∙ e))

path-range : {l k : Sayings} (u : List ℕ) (c : Cursor) (w : Said Saying) → Path (w ∷ l) k → Heard u c w → c.says ≡ code_of w.what → (44 ≤ c.says) × (c.says ≤ 78)
unfolding code_of
path-range u c w (asked a b k e) h q = omega (arith, asks-range u c w a b k h e)
path-range u c w (part e p) h q = omega (arith, ap code_of e)

pub path-code : {l k : Sayings} (w : Said Saying) → Path (w ∷ l) k → 0 < code_of w.what
unfolding code_of Flow.of_question
path-code w (asked a b k e) = asked-code a b k (ap code_of e)
  where
    asked-code : (a : What) (b : Bool) (k : ℕ) → code_of w.what ≡ Flow.of_question a b + k → 0 < code_of w.what
    asked-code status true k q = omega arith
    asked-code status false k q = omega arith
    asked-code outcome true k q = omega arith
    asked-code outcome false k q = omega arith
    asked-code failure true k q = omega arith
    asked-code failure false k q = omega arith
path-code w (part e p) = omega (arith, ap code_of e)

module _ (u : List ℕ) (s : Scene) (base n : ℕ) (ps : List Pending) (size : ℕ) (c r : Cursor) (count : ℕ) (image : List ℕ) where
  -- a name that is followed by no part of a path is a variable's
  pub name-past : (node many : ℕ) (after : List ℕ) (m : Met u s base n ps size c count image) → Fair s node base → 42 < c.says → (c.says ≡ 91 → ⊥) → (c.says ≡ 79 → ⊥) → Stepped u c r → 79 ≤ r.says
      → ((es : List Entry) → length es < 2048 → Stands s base image es count → Stands s base after (es ▸ Entry.variable node (piece u c.from c.to)) many)
      → Past u s base n ps size r many after × (count < many)
  unfolding code_of hear_all hear
  name-past node many after m f h g1 g2 st q adds = go m.later m.before m.hears m.leads m.short
    where
      go : (l : Sayings) → Before n (m.next ∷ l) s.rest → Hears u c l → hear_all (m.next ∷ l) (within s.start m.entries m.mentioned ps) ≡ s.whole → length l < size
          → Past u s base n ps size r many after × (count < many)
      go l (Flow.leaf x a) hs e k = absurd (omega (arith, m.code, leaf-range m.next.what x))
      go [] (Flow.variable x a) hs e k = absurd (omega (arith, after-some a))
      go (w ∷ l) (Flow.variable x a) hs e k =
          let es = m.entries in
          let t = m.next.token in
          let y = Entry.variable (here s.start) t.bytes in
          let ms = m.mentioned ▸ record { mention = use_of_variable (here s.start) t.bytes; place = t.place } in
          let leads : hear_all (w ∷ l) (within s.start (es ▸ y) ms ps) ≡ s.whole = sym (settles s.start es m.mentioned ps t a) ∙ rw x at e in
          let few : length es < 2048 = omega (arith, length_more es y, grows (w ∷ l) (within s.start (es ▸ y) ms ps), ap (λ d. length d.entries) leads, f.few) in
          let stands : Stands s base after (es ▸ y) many = rw (m.heard.just.bytes, ← f.ours) at (adds es few m.stands) in
          (past_next u s base n ps size c r many after (es ▸ y) ms (w ∷ l) a hs leads (omega arith) stands st, omega (arith, stands.counted, m.stands.counted, length_more es y))
      go [] (Flow.path x p a) hs e k = absurd (omega (arith, path-some p))
      go (w ∷ l) (Flow.path x p a) hs e k = let step = st.more w l hs (path-code w p) in absurd (omega (arith, path-range u r w p step.0 step.2))
      go l (Flow.not x b) hs e k = absurd (g2 (m.code ∙ ap code_of x))
      go l (Flow.group x b) hs e k = absurd (g1 (m.code ∙ ap code_of x))

  -- a name that begins a path
  pub name-held : (m : Met u s base n ps size c count image) → 42 < c.says → (c.says ≡ 91 → ⊥) → (c.says ≡ 79 → ⊥) → Stepped u c r → r.says < 79
      → Held u s n ps size r m.entries m.mentioned (m.next.token ∷ [])
  unfolding code_of hear_all hear
  name-held m h g1 g2 st q = go m.later m.before m.hears m.leads m.short
    where
      go : (l : Sayings) → Before n (m.next ∷ l) s.rest → Hears u c l → hear_all (m.next ∷ l) (within s.start m.entries m.mentioned ps) ≡ s.whole → length l < size
          → Held u s n ps size r m.entries m.mentioned (m.next.token ∷ [])
      go l (Flow.leaf x a) hs e k = absurd (omega (arith, m.code, leaf-range m.next.what x))
      go [] (Flow.variable x a) hs e k = absurd (omega (arith, after-some a))
      go (w ∷ l) (Flow.variable x a) hs e k = let step = st.more w l hs (omega (arith, after-code a)) in absurd (omega (arith, step.2, after-code a))
      go [] (Flow.path x p a) hs e k = absurd (omega (arith, path-some p))
      go (w ∷ l) (Flow.path {m = z} x p a) hs e k =
          let step = st.more w l hs (path-code w p) in
          record { next = w; later = l; rest = z; heard = step.0; code = step.2; hears = step.1; path = p; after = a; leads = rw x at e; short = omega arith }
      go l (Flow.not x b) hs e k = absurd (g2 (m.code ∙ ap code_of x))
      go l (Flow.group x b) hs e k = absurd (g1 (m.code ∙ ap code_of x))

pub lookup-leaf : (x : Saying) → Leaf x → (t : Token) → code_of x ≡ 42 → Entry.lookup t ≡ leaf_entry x t
unfolding Flow.opened leaf_entry
lookup-leaf _ (is-truth true) t e = absurd (omega arith)
lookup-leaf _ (is-truth false) t e = absurd (omega arith)
lookup-leaf _ (is_whole true) t e = absurd (omega arith)
lookup-leaf _ (is_whole false) t e = absurd (omega arith)
lookup-leaf _ (is-decimal true) t e = absurd (omega arith)
lookup-leaf _ (is-decimal false) t e = absurd (omega arith)
lookup-leaf _ (is-bits true) t e = absurd (omega arith)
lookup-leaf _ (is-bits false) t e = absurd (omega arith)
lookup-leaf _ (is-unknown boolean) t e = absurd (omega arith)
lookup-leaf _ (is-unknown integer) t e = absurd (omega arith)
lookup-leaf _ (is-unknown float) t e = absurd (omega arith)
lookup-leaf _ is-lookup t e = refl

pub lookup-stands : (s : Scene) (base many : ℕ) (after : List ℕ) (es : List Entry) (x : Saying) (t : Token) → Leaf x → code_of x ≡ 42 → Stands s base after (es ▸ Entry.lookup t) many → Stands s base after (es ▸ leaf_entry x t) many
lookup-stands s base many after es x t l e st = subst (λ z. Stands s base after (es ▸ z) many) (lookup-leaf x l t e) st
