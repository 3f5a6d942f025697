-- The fields of an image that is made from a draft are the draft's own numbers, where they fit 16 bits.
use Prim.Native.Nat.{ℕ, zero, suc, ◌+◌, ◌*◌, ◌/◌, ◌%◌, ◌≤◌, ◌<◌}
use mathlib.Core.Path.{◌≡◌, refl, ◌∙◌, ap}
use mathlib.Core.List.{List, [], ◌∷◌, ◌++◌, append_assoc}
use native.Mathlib.Omega.{arith}
use native.Mathlib.Nat.{mod-add-div, mod-eq_of_lt, div-lt_iff_lt-mul, mul-suc, mul-zero, zero-add}
use lib.ListN.{length, get_or, get_or-append}
use Rattle.plexil.specs.Bytes.{byte_at, le16}
use Rattle.plexil.specs.Image as Image
use Rattle.plexil.specs.Assemble as Assemble
use Rattle.plexil.specs.Assemble.{bytes, words16, join}
use Rattle.notation.specs.Sayings.{boolean}
use Rattle.notation.specs.Draft.{Variable, Node, Body, Entry, Draft}
use Rattle.notation.specs.Hearing.{no_conditions}
use Rattle.notation.specs.Mapping.{entry_bytes, kind_of_entry, all_entries, node_bytes, all_nodes, all_variables, all_lookups, image_of, kind_code}
use Rattle.notation.proofs.Seven.{Seven}
use Rattle.notation.proofs.ImageLength.{Sized, length-words, length-join, nodes-sized, entries-sized, variables-sized, nodes-many, entries-many, variables-many}
use Rattle.notation.proofs.Parts.{no_entry}

-- ---- 16 bits
abbrev pub word : ℕ → ℕ
word n = n % 256 + 256 * (n / 256 % 256)

pub word_back : (n : ℕ) → n < 65536 → word n ≡ n
word_back n l =
    let q : n / 256 < 256 = (div-lt_iff_lt-mul {k = 256} {x = n} {y = 256} (omega arith)).1 l in
    omega (arith, mod-eq_of_lt {n = n / 256} {m = 256} q, mod-add-div n 256)

-- ---- bytes within lists of records
get-right : (a b : List ℕ) (k : ℕ) → get_or (a ++ b) (length a + k) 0 ≡ get_or b k 0
get-right [] b k = ap (λ (i : ℕ). get_or b i 0) (zero-add k)
get-right (x ∷ a) b k = let e : suc (length a) + k ≡ suc (length a + k) = omega arith in ap (λ (i : ℕ). get_or (x ∷ (a ++ b)) i 0) e ∙ get-right a b k

get_left : (a b : List ℕ) (k : ℕ) → k < length a → get_or (a ++ b) k 0 ≡ get_or a k 0
get_left a b k l = get_or-append a b 0 k l

join-at : (k : ℕ) (rs : List (List ℕ)) → Sized k rs → (i j : ℕ) → i < length rs → j < k → (y : List ℕ) → get_or (join rs ++ y) (k * i + j) 0 ≡ get_or (get_or rs i []) j 0
unfolding join
join-at k [] h i j l m y = absurd (omega arith)
join-at k (r ∷ rs) h zero j l m y =
    ap (λ z. get_or z (k * 0 + j) 0) (append_assoc r (join rs) y) ∙ ap (λ (i : ℕ). get_or (r ++ (join rs ++ y)) i 0) (omega (arith, mul-zero k)) ∙ get_left r (join rs ++ y) j (omega (arith, h.0))
join-at k (r ∷ rs) h (suc i) j l m y =
    ap (λ z. get_or z (k * suc i + j) 0) (append_assoc r (join rs) y)
    ∙ ap (λ (n : ℕ). get_or (r ++ (join rs ++ y)) n 0) (omega (arith, mul-suc k i, h.0))
    ∙ get-right r (join rs ++ y) (k * i + j)
    ∙ join-at k rs h.1 i j (omega arith) m y

-- ---- records by their numbers
abbrev pub no_node : Node
no_node = record { name = []; place = 0; parent = 65535; level = 0; priority = 0; given = no_conditions; body = Body.list }

abbrev pub no_variable : Variable
no_variable = record { name = []; kind = boolean; owner = 0; known = 0; initial = 0 }

node-record : (d : Draft) (k : ℕ) (ns : List Node) (i : ℕ) → i < length ns → get_or (all_nodes d k ns) i [] ≡ node_bytes d (k + i) (get_or ns i no_node) (get_or ns i no_node).body
unfolding all_nodes
node-record d k [] i l = absurd (omega arith)
node-record d k (n ∷ ns) zero l = ap (λ (j : ℕ). node_bytes d j n n.body) (omega arith)
node-record d k (n ∷ ns) (suc i) l = node-record d (suc k) ns i (omega arith) ∙ ap (λ (j : ℕ). node_bytes d j (get_or ns i no_node) (get_or ns i no_node).body) (omega arith)

pub entry-record : (d : Draft) (ks : List ℕ) (es : List Entry) (e : ℕ) → e < length es → (gs : List ℕ) × (get_or (all_entries d ks es) e [] ≡ entry_bytes d gs (get_or es e no_entry))
unfolding all_entries
entry-record d ks [] e l = absurd (omega arith)
entry-record d ks (x ∷ es) zero l = (ks, refl)
entry-record d ks (x ∷ es) (suc e) l = entry-record d (ks ++ kind_of_entry d ks x ∷ []) es e (omega arith)

pub variable-record : (vs : List Variable) (v : ℕ) → v < length vs
    → get_or (all_variables vs) v [] ≡ Assemble.variable (kind_code (get_or vs v no_variable).kind) (get_or vs v no_variable).known (get_or vs v no_variable).owner (get_or vs v no_variable).initial
unfolding all_variables
variable-record [] v l = absurd (omega arith)
variable-record (x ∷ vs) zero l = refl
variable-record (x ∷ vs) (suc v) l = variable-record vs v (omega arith)

-- ---- the image
-- a draft whose numbers fit
pub record Fits (d : Draft) : Type 0 where
  pub seven : Seven d.nodes
  pub nodes : length d.nodes ≤ 256
  pub entries : length d.entries ≤ 2048
  pub variables : length d.variables ≤ 128

module _ (d : Draft) (fit : Fits d) where
  abbrev p : List ℕ
  p = image_of d

  abbrev header : List ℕ
  header =
      let a = 20 + 24 * length (all_nodes d 0 d.nodes) in
      let b = a + 16 * length (all_entries d [] d.entries) in
      let c = b + 16 * length (all_variables d.variables) in
      words16 (1 ∷ length (all_nodes d 0 d.nodes) ∷ length (all_entries d [] d.entries) ∷ length (all_variables d.variables) ∷ length (all_lookups d.lookups) ∷ 20 ∷ a ∷ b ∷ c ∷ (c + 2 * length (all_lookups d.lookups)) ∷ [])

  header-long : length header ≡ 20
  header-long = length-words _

  pub node-count : Image.node_count p ≡ length d.nodes
  unfolding Image.node_count Image.header le16 byte_at image_of Assemble.plan words16 bytes
  node-count = word_back (length (all_nodes d 0 d.nodes)) (omega (arith, fit.nodes, nodes-many d 0 d.nodes)) ∙ nodes-many d 0 d.nodes

  pub entry-count : Image.expr_count p ≡ length d.entries
  unfolding Image.expr_count Image.header le16 byte_at image_of Assemble.plan words16 bytes
  entry-count = word_back (length (all_entries d [] d.entries)) (omega (arith, fit.entries, entries-many d [] d.entries)) ∙ entries-many d [] d.entries

  pub variable-count : Image.var_count p ≡ length d.variables
  unfolding Image.var_count Image.header le16 byte_at image_of Assemble.plan words16 bytes
  variable-count = word_back (length (all_variables d.variables)) (omega (arith, fit.variables, variables-many d.variables)) ∙ variables-many d.variables

  -- a byte of a record
  pub node-byte : (i j : ℕ) → i < length d.nodes → j < 24 → byte_at p (Image.node_at i + j) ≡ get_or (node_bytes d i (get_or d.nodes i no_node) (get_or d.nodes i no_node).body) j 0
  unfolding byte_at Image.node_at image_of Assemble.plan
  node-byte i j l m =
      ap (λ (k : ℕ). get_or p k 0) (omega (arith, header-long))
      ∙ get-right header _ (24 * i + j)
      ∙ join-at 24 (all_nodes d 0 d.nodes) (nodes-sized d 0 d.nodes fit.seven) i j (omega (arith, nodes-many d 0 d.nodes)) m _
      ∙ ap (λ r. get_or r j 0) (node-record d 0 d.nodes i l ∙ ap (λ (k : ℕ). node_bytes d k (get_or d.nodes i no_node) (get_or d.nodes i no_node).body) (zero-add i))

  nodes-long : length (join (all_nodes d 0 d.nodes)) ≡ 24 * length d.nodes
  nodes-long = length-join 24 (all_nodes d 0 d.nodes) (nodes-sized d 0 d.nodes fit.seven) ∙ ap (λ (n : ℕ). 24 * n) (nodes-many d 0 d.nodes)

  entries-long : length (join (all_entries d [] d.entries)) ≡ 16 * length d.entries
  entries-long = length-join 16 (all_entries d [] d.entries) (entries-sized d [] d.entries) ∙ ap (λ (n : ℕ). 16 * n) (entries-many d [] d.entries)

  pub entry-byte : (e j : ℕ) → e < length d.entries → j < 16 → byte_at p (Image.expr_at p e + j) ≡ get_or (get_or (all_entries d [] d.entries) e []) j 0
  unfolding byte_at Image.expr_at Image.exprs_at image_of Assemble.plan
  entry-byte e j l m =
      ap (λ (k : ℕ). get_or p k 0) (omega (arith, header-long, nodes-long, node-count))
      ∙ get-right header _ (length (join (all_nodes d 0 d.nodes)) + (16 * e + j))
      ∙ get-right (join (all_nodes d 0 d.nodes)) _ (16 * e + j)
      ∙ join-at 16 (all_entries d [] d.entries) (entries-sized d [] d.entries) e j (omega (arith, entries-many d [] d.entries)) m _

  pub variable-byte : (v j : ℕ) → v < length d.variables → j < 16 → byte_at p (Image.var_record_at p v + j) ≡ get_or (get_or (all_variables d.variables) v []) j 0
  unfolding byte_at Image.var_record_at Image.vars_at Image.exprs_at image_of Assemble.plan
  variable-byte v j l m =
      ap (λ (k : ℕ). get_or p k 0) (omega (arith, header-long, nodes-long, entries-long, node-count, entry-count))
      ∙ get-right header _ (length (join (all_nodes d 0 d.nodes)) + (length (join (all_entries d [] d.entries)) + (16 * v + j)))
      ∙ get-right (join (all_nodes d 0 d.nodes)) _ (length (join (all_entries d [] d.entries)) + (16 * v + j))
      ∙ get-right (join (all_entries d [] d.entries)) _ (16 * v + j)
      ∙ join-at 16 (all_variables d.variables) (variables-sized d.variables) v j (omega (arith, variables-many d.variables)) m _
