-- The counts of a draft change with each token as `count_of` says.
use Prim.Native.Nat.{ℕ, suc, ◌+◌}
use mathlib.Core.Path.{◌≡◌, refl, ◌∙◌, sym, ap}
use mathlib.Core.Bool.{Bool, true, false, ◌||◌, cond}
use mathlib.Core.List.{List, [], ◌∷◌, ◌++◌}
use native.Mathlib.Omega.{arith}
use lib.ListN.{length, length-append}
use native.Mathlib.Numerals.{add-one}
use borrow.Author.Tests.{le-leb}
use lib.Dec.{ltb, leb}
use Rattle.plexil.specs.Lists.{Found, at, nowhere}
use Rattle.grammar.specs.Spelling.{Token, Placed}
use Rattle.notation.specs.Sayings.{Operator, disjunction, conjunction, equal, unequal, less, at_most, greater, at_least, plus, minus, times}
use Rattle.notation.specs.Draft.{Draft, Node, Variable, Entry, Mention, Pending, prefix, paren, infix', with_pending}
use Rattle.notation.specs.Hearing.{◌▸◌, at_last, last, on_node, on_variable, mentioning, adding, next_node, strength, strength_of_not, made, ending, waiting, end_operators, settle_name, settled, mention_path}
use Rattle.notation.specs.Names.{is_found, too_deep}
use Rattle.recognise.specs.declared.Counts.{Counts}
use Rattle.recognise.specs.Counting.{flagged, entries_of, node, changed}
use Rattle.recognise.specs.Recognised.{place_of}

-- the entries that the pending operators will make
unfoldable pub pending_weight : List Pending → ℕ
pending_weight [] = 0
pending_weight (prefix ∷ ps) = suc (pending_weight ps)
pending_weight (paren ∷ ps) = pending_weight ps
pending_weight (infix' o a ∷ ps) = entries_of o + pending_weight ps

unfoldable pub holding : List Placed → Bool
holding [] = false
holding (t ∷ ts) = true

unfoldable pub counts_of : Draft → Counts
counts_of d = record {
  nodes = length d.nodes;
  entries = length d.entries + pending_weight d.pending;
  variables = length d.variables;
  lookups = length d.lookups;
  commands = length d.commands;
  depth = d.depth;
  held = holding d.held;
  deep = is_found (too_deep d.nodes);
  place = place_of (too_deep d.nodes);
}

-- other entries
abbrev pub entries_be : ℕ → Counts → Counts
entries_be e c = record { nodes = c.nodes; entries = e; variables = c.variables; lookups = c.lookups; commands = c.commands; depth = c.depth; held = c.held; deep = c.deep; place = c.place }

pub length_more : {A : Type 0} (l : List A) (a : A) → length (l ▸ a) ≡ length l + 1
unfolding ◌▸◌
length_more l a = length-append l (a ∷ [])

pub length_last : {A : Type 0} (f : A → A) (l : List A) → length (at_last f l) ≡ length l
unfolding at_last
length_last f [] = refl
length_last f (a ∷ []) = refl
length_last f (a ∷ (b ∷ l)) = ap suc (length_last f (b ∷ l))

pub mention-counts : (m : Mention) (n : ℕ) (d : Draft) → counts_of (mentioning m n d) ≡ counts_of d
unfolding counts_of mentioning
mention-counts m n d = refl

pub adding-counts : (e : Entry) (d : Draft) → counts_of (adding e d) ≡ entries_be ((counts_of d).entries + 1) (counts_of d)
unfolding counts_of adding
adding-counts e d = ap (λ (n : ℕ). entries_be n (counts_of d)) (let h = length_more d.entries e in omega arith)

-- the ended operators have made what was pending
length-made : (o : Operator) (a b n : ℕ) → length (made o a b n) ≡ entries_of o
unfolding made entries_of
length-made disjunction a b n = refl
length-made conjunction a b n = refl
length-made equal a b n = refl
length-made unequal a b n = refl
length-made less a b n = refl
length-made at_most a b n = refl
length-made greater a b n = refl
length-made at_least a b n = refl
length-made plus a b n = refl
length-made minus a b n = refl
length-made times a b n = refl

pub ending-weight : (k : ℕ) (ps : List Pending) (es : List Entry) → length (ending k ps es) + pending_weight (waiting k ps) ≡ length es + pending_weight ps
unfolding ending waiting pending_weight
ending-weight k [] es = refl
ending-weight k (paren ∷ ps) es = refl
ending-weight k (prefix ∷ ps) es = go (leb k strength_of_not) (ending-weight k ps (es ▸ Entry.negation (last es)))
  where
    go : (b : Bool) → length (ending k ps (es ▸ Entry.negation (last es))) + pending_weight (waiting k ps) ≡ length (es ▸ Entry.negation (last es)) + pending_weight ps
        → length (cond b (ending k ps (es ▸ Entry.negation (last es))) es) + pending_weight (cond b (waiting k ps) (prefix ∷ ps)) ≡ length es + suc (pending_weight ps)
    go true h = omega (arith, length_more es (Entry.negation (last es)))
    go false h = refl
ending-weight k (infix' o a ∷ ps) es = go (leb k (strength o)) (ending-weight k ps (es ++ made o a (last es) (length es)))
  where
    go : (b : Bool) → length (ending k ps (es ++ made o a (last es) (length es))) + pending_weight (waiting k ps) ≡ length (es ++ made o a (last es) (length es)) + pending_weight ps
        → length (cond b (ending k ps (es ++ made o a (last es) (length es))) es) + pending_weight (cond b (waiting k ps) (infix' o a ∷ ps)) ≡ length es + (entries_of o + pending_weight ps)
    go true h = omega (arith, length-append es (made o a (last es) (length es)), length-made o a (last es) (length es))
    go false h = refl

pub ending-counts : (k : ℕ) (d : Draft) → counts_of (end_operators k d) ≡ counts_of d
unfolding counts_of end_operators
ending-counts k d = ap (λ (n : ℕ). entries_be n (counts_of d)) (ending-weight k d.pending d.entries)

-- counts are equal by their parts
pub same-counts : (x y : Counts) → x.nodes ≡ y.nodes → x.entries ≡ y.entries → x.variables ≡ y.variables → x.lookups ≡ y.lookups → x.commands ≡ y.commands
    → x.depth ≡ y.depth → x.held ≡ y.held → x.deep ≡ y.deep → x.place ≡ y.place → x ≡ y
same-counts x y a b c d e f g h i = λ j. record { nodes = a j; entries = b j; variables = c j; lookups = d j; commands = e j; depth = f j; held = g j; deep = h j; place = i j }

-- a name that is held is a variable's
abbrev pub settled_as : Counts → Counts
settled_as c = record { nodes = c.nodes; entries = c.entries + flagged c.held; variables = c.variables; lookups = c.lookups; commands = c.commands; depth = c.depth; held = false; deep = c.deep; place = c.place }

settle-counts : (d : Draft) (h : List Placed) → d.held ≡ h → counts_of (settle_name d h) ≡ settled_as (counts_of d)
unfolding counts_of settle_name mentioning adding flagged holding
settle-counts d [] e =
    same-counts _ _ refl (let z = ap (λ (x : List Placed). flagged (holding x)) e in omega arith) refl refl refl refl (ap holding e) refl refl
settle-counts d (t ∷ ts) e =
    same-counts _ _ refl
    (let z = ap (λ (x : List Placed). flagged (holding x)) e in omega (arith, length_more d.entries (Entry.variable (last d.nodes) t.bytes)))
    refl refl refl refl refl refl refl

pub settled-counts : (d : Draft) → counts_of (settled d) ≡ settled_as (counts_of d)
unfolding settled
settled-counts d = settle-counts d d.held refl

-- a change of the last node that keeps its level and its place
deep_one : (l p k q : ℕ) (x : Found) → l ≡ k → p ≡ q → ◌≡◌ {A = Found} (elim (ltb 16 l) as (λ b. Found) [ true ↦ at p | false ↦ x ]) (elim (ltb 16 k) as (λ b. Found) [ true ↦ at q | false ↦ x ])
deep_one l p k q x e f = λ j. elim (ltb 16 (e j)) as (λ b. Found) [ true ↦ at (f j) | false ↦ x ]

module _ (f : Node → Node) (levels : (n : Node) → (f n).level ≡ n.level) (places : (n : Node) → (f n).place ≡ n.place) where
  deep-last : (ns : List Node) → too_deep (at_last f ns) ≡ too_deep ns
  unfolding too_deep at_last
  deep-last [] = refl
  deep-last (n ∷ []) = deep_one (f n).level (f n).place n.level n.place nowhere (levels n) (places n)
  deep-last (n ∷ (k ∷ ns)) = ap (λ (x : Found). elim (ltb 16 n.level) as (λ b. Found) [ true ↦ at n.place | false ↦ x ]) (deep-last (k ∷ ns))

  pub on-node : (d : Draft) → counts_of (on_node f d) ≡ counts_of d
  unfolding counts_of on_node
  on-node d =
      same-counts _ _ (length_last f d.nodes) refl refl refl refl refl refl (ap is_found (deep-last d.nodes)) (ap place_of (deep-last d.nodes))

pub on-variable : (f : Variable → Variable) (d : Draft) → counts_of (on_variable f d) ≡ counts_of d
unfolding counts_of on_variable
on-variable f d = same-counts _ _ refl refl (length_last f d.variables) refl refl refl refl refl refl

-- a node more
more_by : (ns : List Node) (n : Node) → is_found (too_deep (ns ▸ n)) ≡ is_found (too_deep ns) || ltb 16 n.level
unfolding too_deep ◌▸◌ is_found
more_by [] n = go (ltb 16 n.level)
  where
    go : (b : Bool) → is_found (elim b as (λ x. Found) [ true ↦ at n.place | false ↦ nowhere ]) ≡ b
    go true = refl
    go false = refl
more_by (k ∷ ns) n = go (ltb 16 k.level) (more_by ns n)
  where
    go : (b : Bool) → is_found (too_deep (ns ▸ n)) ≡ is_found (too_deep ns) || ltb 16 n.level
        → is_found (elim b as (λ x. Found) [ true ↦ at k.place | false ↦ too_deep (ns ▸ n) ]) ≡ is_found (elim b as (λ x. Found) [ true ↦ at k.place | false ↦ too_deep ns ]) || ltb 16 n.level
    go true h = refl
    go false h = h

more-at : (ns : List Node) (n : Node) → place_of (too_deep (ns ▸ n)) ≡ cond (is_found (too_deep ns)) (place_of (too_deep ns)) (cond (ltb 16 n.level) n.place 0)
unfolding too_deep ◌▸◌ is_found place_of
more-at [] n = go (ltb 16 n.level)
  where
    go : (b : Bool) → place_of (elim b as (λ x. Found) [ true ↦ at n.place | false ↦ nowhere ]) ≡ cond b n.place 0
    go true = refl
    go false = refl
more-at (k ∷ ns) n = go (ltb 16 k.level) (more-at ns n)
  where
    go : (b : Bool) → place_of (too_deep (ns ▸ n)) ≡ cond (is_found (too_deep ns)) (place_of (too_deep ns)) (cond (ltb 16 n.level) n.place 0)
        → place_of (elim b as (λ x. Found) [ true ↦ at k.place | false ↦ too_deep (ns ▸ n) ])
        ≡ cond (is_found (elim b as (λ x. Found) [ true ↦ at k.place | false ↦ too_deep ns ])) (place_of (elim b as (λ x. Found) [ true ↦ at k.place | false ↦ too_deep ns ])) (cond (ltb 16 n.level) n.place 0)
    go true h = refl
    go false h = h

pub next-node : (t : Token) (n : ℕ) (d : Draft) → counts_of (next_node t n d) ≡ changed node 0 n (counts_of d)
unfolding counts_of next_node changed
next-node t n d =
    same-counts _ _ (length_more d.nodes _) (omega arith) refl refl refl refl refl
    (more_by d.nodes _ ∙ ap (λ (x : ℕ). is_found (too_deep d.nodes) || ltb 16 x) (sym (add-one d.depth)))
    (more-at d.nodes _ ∙ ap (λ (x : ℕ). cond (is_found (too_deep d.nodes)) (place_of (too_deep d.nodes)) (cond (ltb 16 x) n 0)) (sym (add-one d.depth)))

-- paths
pub path-counts : (q : List Token) (ts : List Placed) (d : Draft) → counts_of (mention_path q ts d) ≡ counts_of d
unfolding mention_path
path-counts q [] d = refl
path-counts q (t ∷ ts) d = path-counts (q ▸ t.bytes) ts _ ∙ mention-counts _ _ d

-- pending operators
pub push-counts : (o : Operator) (x : ℕ) (d : Draft) → counts_of (with_pending (infix' o x ∷ d.pending) d) ≡ entries_be ((counts_of d).entries + entries_of o) (counts_of d)
unfolding counts_of pending_weight
push-counts o x d = ap (λ (n : ℕ). entries_be n (counts_of d)) (omega arith)

abbrev pub popped : List Pending → List Pending
popped [] = []
popped (p ∷ ps) = ps

pub pop-weight : (ps : List Pending) → pending_weight (popped (waiting 0 ps)) ≡ pending_weight (waiting 0 ps)
unfolding waiting pending_weight
pop-weight [] = refl
pop-weight (paren ∷ ps) = refl
pop-weight (prefix ∷ ps) = pop-weight ps
pop-weight (infix' o a ∷ ps) = rw (le-leb 0 (strength o) (omega arith)) (pop-weight ps)
