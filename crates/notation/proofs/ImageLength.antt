-- The image of what is said has the mapping's length: each record has its length, since each node always has seven conditions.
use Prim.Native.Nat.{ℕ, zero, suc, ◌+◌, ◌*◌}
use mathlib.Core.Path.{◌≡◌, refl, sym, ◌∙◌, ap}
use mathlib.Core.List.{List, [], ◌∷◌, ◌++◌}
use native.Mathlib.Omega.{arith}
use native.Mathlib.Nat.{mul-zero, mul-suc, add_comm}
use lib.ListN.{length, length-append}
use Rattle.plexil.specs.Assemble as Assemble
use Rattle.plexil.specs.Assemble.{bytes, words16, join}
use Rattle.notation.specs.Draft.{Variable, Lookup, Node, Body, list, assignment, Entry, constant, unknown_of, about, negation, two, Draft, blank}
use Rattle.notation.specs.Hearing.{draft_of}
use Rattle.notation.specs.Mapping.{entry_bytes, kind_of_entry, all_entries, node_bytes, all_nodes, all_variables, all_lookups, image_of, image_length}
use Rattle.notation.specs.Promises.{ImageLength}
use Rattle.notation.proofs.Seven.{Seven, seven-all}

-- ---- the length of records
pub length-bytes : (k n : ℕ) → length (bytes k n) ≡ k
unfolding bytes
length-bytes zero n = refl
length-bytes (suc k) n = ap suc (length-bytes k _)

pub length-words : (ns : List ℕ) → length (words16 ns) ≡ 2 * length ns
unfolding words16
length-words [] = refl
length-words (n ∷ ns) = length-append (bytes 2 n) (words16 ns) ∙ ap (λ (k : ℕ). k + length (words16 ns)) (length-bytes 2 n) ∙ ap (λ (k : ℕ). 2 + k) (length-words ns) ∙ omega arith

pub length-node : (a b c : ℕ) (g : List ℕ) (x y : ℕ) → length g ≡ 7 → length (Assemble.node a b c g x y) ≡ 24
unfolding Assemble.node
length-node a b c g x y e = simp (length-append, length-bytes, length-words, e) refl

pub length-expr : (o k a b w : ℕ) → length (Assemble.expr o k a b w) ≡ 16
unfolding Assemble.expr words16 bytes
length-expr o k a b w = refl

-- each record is k bytes
abbrev pub Sized : ℕ → List (List ℕ) → Type 0
Sized k [] = Unit {0}
Sized k (r ∷ rs) = (length r ≡ k) × Sized k rs

pub length-join : (k : ℕ) (rs : List (List ℕ)) → Sized k rs → length (join rs) ≡ k * length rs
unfolding join
length-join k [] h = sym (mul-zero k)
length-join k (r ∷ rs) h = length-append r (join rs) ∙ ap (λ (n : ℕ). n + length (join rs)) h.0 ∙ ap (λ (n : ℕ). k + n) (length-join k rs h.1) ∙ add_comm k (k * length rs) ∙ sym (mul-suc k (length rs))

pub nodes-sized : (d : Draft) (i : ℕ) (ns : List Node) → Seven ns → Sized 24 (all_nodes d i ns)
unfolding all_nodes node_bytes
nodes-sized d i [] h = tt
nodes-sized d i (n ∷ ns) h = (one n.body, nodes-sized d (suc i) ns h.1)
  where
    one : (b : Body) → length (node_bytes d i n b) ≡ 24
    one list = length-node _ _ _ n.given _ _ h.0
    one (Body.command c) = length-node _ _ _ n.given _ _ h.0
    one (assignment x e) = length-node _ _ _ n.given _ _ h.0

pub entries-sized : (d : Draft) (ks : List ℕ) (es : List Entry) → Sized 16 (all_entries d ks es)
unfolding all_entries entry_bytes
entries-sized d ks [] = tt
entries-sized d ks (e ∷ es) = (one e, entries-sized d (ks ++ kind_of_entry d ks e ∷ []) es)
  where
    one : (e : Entry) → length (entry_bytes d ks e) ≡ 16
    one (constant k c) = length-expr _ _ _ _ _
    one (unknown_of k) = length-expr _ _ _ _ _
    one (Entry.variable n x) = length-expr _ _ _ _ _
    one (Entry.lookup x) = length-expr _ _ _ _ _
    one (about w n xs k) = length-expr _ _ _ _ _
    one (negation a) = length-expr _ _ _ _ _
    one (two o a b) = length-expr _ _ _ _ _

pub variables-sized : (vs : List Variable) → Sized 16 (all_variables vs)
unfolding all_variables Assemble.variable words16 bytes
variables-sized [] = tt
variables-sized (v ∷ vs) = (refl, variables-sized vs)

pub lookups-sized : (ls : List Lookup) → Sized 2 (all_lookups ls)
unfolding all_lookups Assemble.lookup
lookups-sized [] = tt
lookups-sized (l ∷ ls) = (refl, lookups-sized ls)

-- ---- one record each
pub nodes-many : (d : Draft) (i : ℕ) (ns : List Node) → length (all_nodes d i ns) ≡ length ns
unfolding all_nodes
nodes-many d i [] = refl
nodes-many d i (n ∷ ns) = ap suc (nodes-many d (suc i) ns)

pub entries-many : (d : Draft) (ks : List ℕ) (es : List Entry) → length (all_entries d ks es) ≡ length es
unfolding all_entries
entries-many d ks [] = refl
entries-many d ks (e ∷ es) = ap suc (entries-many d (ks ++ kind_of_entry d ks e ∷ []) es)

pub variables-many : (vs : List Variable) → length (all_variables vs) ≡ length vs
unfolding all_variables
variables-many [] = refl
variables-many (v ∷ vs) = ap suc (variables-many vs)

pub lookups-many : (ls : List Lookup) → length (all_lookups ls) ≡ length ls
unfolding all_lookups
lookups-many [] = refl
lookups-many (l ∷ ls) = ap suc (lookups-many ls)

pub image-length-of : (d : Draft) → Seven d.nodes → length (image_of d) ≡ image_length d
unfolding image_of image_length Assemble.plan
image-length-of d h =
    simp (
      length-append,
      length-words,
      nodes-many,
      entries-many,
      variables-many,
      lookups-many,
      length-join 24 (all_nodes d 0 d.nodes) (nodes-sized d 0 d.nodes h),
      length-join 16 (all_entries d [] d.entries) (entries-sized d [] d.entries),
      length-join 16 (all_variables d.variables) (variables-sized d.variables),
      length-join 2 (all_lookups d.lookups) (lookups-sized d.lookups),
    ) (omega arith)

pub image-length : ImageLength
unfolding draft_of
image-length l = image-length-of (draft_of l) (seven-all l blank tt)
