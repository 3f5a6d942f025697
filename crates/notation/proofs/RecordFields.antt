-- The fields of the records of an image are those of the draft's nodes, entries and variables.
use Prim.Native.Nat.{ℕ, suc, ◌+◌, ◌<◌, ◌*◌}
use mathlib.Core.Path.{◌≡◌, refl, sym, ◌∙◌, ap}
use mathlib.Core.Logic.{inl, inr}
use mathlib.Core.List.{List, [], ◌∷◌}
use native.Mathlib.Omega.{arith}
use native.Mathlib.Nat.{add-zero}
use lib.ListN.{length, get_or}
use Rattle.plexil.specs.declared.Condition.{Condition}
use Rattle.plexil.specs.Bytes.{byte_at, le16}
use Rattle.plexil.specs.Image as Image
use Rattle.plexil.specs.Assemble as Assemble
use Rattle.grammar.specs.Spelling.{Token}
use Rattle.notation.specs.Draft.{Node, Body, Entry, Draft, Binary}
use Rattle.notation.specs.Hearing.{parent_in}
use Rattle.notation.specs.Names.{variable_of}
use Rattle.notation.specs.Mapping.{what_code, binary_code, number_of, entry_bytes, node_bytes, all_entries, all_variables, image_of}
use Rattle.notation.proofs.Parts.{no_entry}
use Rattle.notation.proofs.Covered.{Bounded, ParentsIn}
use Rattle.notation.proofs.Fields.{Fits, word, word_back, no_node, no_variable, node-byte, entry-byte, variable-byte, entry-record, variable-record}
use Rattle.notation.proofs.ByNumber.{seven_at, parents-at, parent-at}
use Rattle.plexil.specs.declared.Condition.TheVariants.{Skip, Start, Pre, Inv, End, Post, Repeat}

abbrev pub two : List ℕ → ℕ → ℕ
two r f = get_or r f 0 + 256 * get_or r (suc f) 0

-- 16 bits of a record that stands at a place
pub field_at : (p : List ℕ) (a k : ℕ) (r : List ℕ) → ((j : ℕ) → j < k → byte_at p (a + j) ≡ get_or r j 0) → (f : ℕ) → suc f < k → le16 p (a + f) ≡ two r f
unfolding le16
field_at p a k r h f l =
    let x = h f (omega arith) in
    let y = h (suc f) l in
    let z : byte_at p (a + f + 1) ≡ byte_at p (a + suc f) = ap (byte_at p) (omega arith) in
    omega arith

-- the conditions in the node record's order
abbrev pub nth : Condition → ℕ
nth Skip = 0
nth Start = 1
nth Pre = 2
nth Inv = 3
nth End = 4
nth Post = 5
nth Repeat = 6

pub nth-low : (c : Condition) → nth c < 7
nth-low Skip = omega arith
nth-low Start = omega arith
nth-low Pre = omega arith
nth-low Inv = omega arith
nth-low End = omega arith
nth-low Post = omega arith
nth-low Repeat = omega arith

abbrev pub Conditions : List ℕ → List ℕ → Type 0
Conditions r g = (c : Condition) → (suc (Image.condition_at c) < 24) × (two r (Image.condition_at c) ≡ word (get_or g (nth c) 0))

pub given-fields : (g : List ℕ) → length g ≡ 7 → (a t q x y : ℕ) → Conditions (Assemble.node a t q g x y) g × (two (Assemble.node a t q g x y) 20 ≡ word x) × (two (Assemble.node a t q g x y) 22 ≡ word y)
unfolding Assemble.node Assemble.words16 Assemble.bytes Image.condition_at
given-fields (h ∷ (i ∷ (j ∷ (k ∷ (l ∷ (m ∷ (n ∷ []))))))) e a t q x y = (by, refl, refl)
  where
    by : Conditions (Assemble.node a t q (h ∷ (i ∷ (j ∷ (k ∷ (l ∷ (m ∷ (n ∷ []))))))) x y) (h ∷ (i ∷ (j ∷ (k ∷ (l ∷ (m ∷ (n ∷ [])))))))
    by Skip = (omega arith, refl)
    by Start = (omega arith, refl)
    by Pre = (omega arith, refl)
    by Inv = (omega arith, refl)
    by End = (omega arith, refl)
    by Post = (omega arith, refl)
    by Repeat = (omega arith, refl)
given-fields [] e a t q x y = absurd (omega arith)
given-fields (h ∷ []) e a t q x y = absurd (omega arith)
given-fields (h ∷ (i ∷ [])) e a t q x y = absurd (omega arith)
given-fields (h ∷ (i ∷ (j ∷ []))) e a t q x y = absurd (omega arith)
given-fields (h ∷ (i ∷ (j ∷ (k ∷ [])))) e a t q x y = absurd (omega arith)
given-fields (h ∷ (i ∷ (j ∷ (k ∷ (l ∷ []))))) e a t q x y = absurd (omega arith)
given-fields (h ∷ (i ∷ (j ∷ (k ∷ (l ∷ (m ∷ [])))))) e a t q x y = absurd (omega arith)
given-fields (h ∷ (i ∷ (j ∷ (k ∷ (l ∷ (m ∷ (n ∷ (o ∷ g)))))))) e a t q x y = absurd (omega arith)

-- what a node is
abbrev pub type_of : Body → ℕ
type_of Body.list = 0
type_of (Body.command c) = 1
type_of (Body.assignment x v) = 2

-- an entry's operator and operands
abbrev pub code_of : Entry → ℕ
code_of (Entry.constant k c) = 0
code_of (Entry.unknown_of k) = 0
code_of (Entry.variable n x) = 1
code_of (Entry.lookup x) = 2
code_of (Entry.about w n xs k) = what_code w
code_of (Entry.negation a) = 6
code_of (Entry.two o a b) = binary_code o

module _ (d : Draft) (fit : Fits d) where
  abbrev pub p : List ℕ
  p = image_of d

  abbrev pub node_of : ℕ → Node
  node_of i = get_or d.nodes i no_node

  abbrev pub entry_of : ℕ → Entry
  entry_of e = get_or d.entries e no_entry

  pub node-field : (i f : ℕ) → i < length d.nodes → suc f < 24 → le16 p (Image.node_at i + f) ≡ two (node_bytes d i (node_of i) (node_of i).body) f
  node-field i f l m = field_at p (Image.node_at i) 24 (node_bytes d i (node_of i) (node_of i).body) (λ j h. node-byte d fit i j l h) f m

  -- the parent
  pub parent-field : (i : ℕ) → i < length d.nodes → ParentsIn (length d.nodes) d.nodes → Image.parent p i ≡ parent_in d.nodes i
  unfolding Image.parent
  parent-field i l h =
      let z : le16 p (Image.node_at i) ≡ le16 p (Image.node_at i + 0) = ap (le16 p) (sym (add-zero (Image.node_at i))) in
      z ∙ node-field i 0 l (omega arith) ∙ first (node_of i).body ∙ small (parents-at (length d.nodes) d.nodes i h) ∙ parent-at d.nodes i
    where
      first : (b : Body) → two (node_bytes d i (node_of i) b) 0 ≡ word (node_of i).parent
      first Body.list = unfold node_bytes Assemble.node Assemble.bytes in refl
      first (Body.command c) = unfold node_bytes Assemble.node Assemble.bytes in refl
      first (Body.assignment x v) = unfold node_bytes Assemble.node Assemble.bytes in refl

      small : Bounded (length d.nodes) (node_of i).parent → word (node_of i).parent ≡ (node_of i).parent
      small (inl e) = word_back (node_of i).parent (omega arith)
      small (inr e) = word_back (node_of i).parent (omega (arith, fit.nodes))

  -- the conditions
  pub given-in : (i : ℕ) (n : Node) (b : Body) → length n.given ≡ 7 → Conditions (node_bytes d i n b) n.given
  unfolding node_bytes
  given-in i n Body.list s = (given-fields n.given s _ _ _ _ _).0
  given-in i n (Body.command x) s = (given-fields n.given s _ _ _ _ _).0
  given-in i n (Body.assignment x v) s = (given-fields n.given s _ _ _ _ _).0

  pub condition-field : (i : ℕ) (c : Condition) → i < length d.nodes → Image.condition_field p i c ≡ word (get_or (node_of i).given (nth c) 0)
  unfolding Image.condition_field
  condition-field i c l = let h = given-in i (node_of i) (node_of i).body (seven_at d.nodes i fit.seven l) c in node-field i (Image.condition_at c) l h.0 ∙ h.1

  pub type-in : (i : ℕ) (n : Node) (b : Body) → get_or (node_bytes d i n b) 2 0 ≡ type_of b
  unfolding node_bytes Assemble.node Assemble.bytes
  type-in i n Body.list = refl
  type-in i n (Body.command x) = refl
  type-in i n (Body.assignment x v) = refl

  pub type-field : (i : ℕ) → i < length d.nodes → Image.node_type p i ≡ type_of (node_of i).body
  unfolding Image.node_type
  type-field i l = node-byte d fit i 2 l (omega arith) ∙ type-in i (node_of i) (node_of i).body

  pub what-in : (i : ℕ) (n : Node) (x : Token) (v : ℕ) → length n.given ≡ 7 → two (node_bytes d i n (Body.assignment x v)) 20 ≡ word (number_of (variable_of d i x))
  unfolding node_bytes
  what-in i n x v s = (given-fields n.given s _ _ _ _ _).1

  pub value-in : (i : ℕ) (n : Node) (x : Token) (v : ℕ) → length n.given ≡ 7 → two (node_bytes d i n (Body.assignment x v)) 22 ≡ word v
  unfolding node_bytes
  value-in i n x v s = (given-fields n.given s _ _ _ _ _).2

  -- ---- entries
  pub entry_first : (e : ℕ) → e < length d.entries → Image.operator p e ≡ get_or (get_or (all_entries d [] d.entries) e []) 0 0
  unfolding Image.operator
  entry_first e l = ap (byte_at p) (sym (add-zero (Image.expr_at p e))) ∙ entry-byte d fit e 0 l (omega arith)

  pub entry-field : (e f : ℕ) → e < length d.entries → suc f < 16 → le16 p (Image.expr_at p e + f) ≡ two (get_or (all_entries d [] d.entries) e []) f
  entry-field e f l m = field_at p (Image.expr_at p e) 16 (get_or (all_entries d [] d.entries) e []) (λ j h. entry-byte d fit e j l h) f m

  pub code_in : (gs : List ℕ) (x : Entry) → get_or (entry_bytes d gs x) 0 0 ≡ code_of x
  unfolding entry_bytes Assemble.expr
  code_in gs (Entry.constant k c) = refl
  code_in gs (Entry.unknown_of k) = refl
  code_in gs (Entry.variable n x) = refl
  code_in gs (Entry.lookup x) = refl
  code_in gs (Entry.about w n xs k) = refl
  code_in gs (Entry.negation a) = refl
  code_in gs (Entry.two o a b) = refl

  pub operator-field : (e : ℕ) → e < length d.entries → Image.operator p e ≡ code_of (entry_of e)
  operator-field e l = let r = entry-record d [] d.entries e l in entry_first e l ∙ ap (λ z. get_or z 0 0) r.1 ∙ code_in r.0 (entry_of e)

  pub variable-operand : (e : ℕ) (n : ℕ) (x : Token) → e < length d.entries → entry_of e ≡ Entry.variable n x → Image.operand_a p e ≡ word (number_of (variable_of d n x))
  unfolding Image.operand_a
  variable-operand e n x l q =
      let r = entry-record d [] d.entries e l in
      entry-field e 2 l (omega arith) ∙ ap (λ z. two z 2) (r.1 ∙ ap (entry_bytes d r.0) q) ∙ unfold entry_bytes Assemble.expr Assemble.words16 Assemble.bytes in refl

  pub negation-operand : (e a : ℕ) → e < length d.entries → entry_of e ≡ Entry.negation a → Image.operand_a p e ≡ word a
  unfolding Image.operand_a
  negation-operand e a l q =
      let r = entry-record d [] d.entries e l in
      entry-field e 2 l (omega arith) ∙ ap (λ z. two z 2) (r.1 ∙ ap (entry_bytes d r.0) q) ∙ unfold entry_bytes Assemble.expr Assemble.words16 Assemble.bytes in refl

  pub left-operand : (e : ℕ) (o : Binary) (a b : ℕ) → e < length d.entries → entry_of e ≡ Entry.two o a b → Image.operand_a p e ≡ word a
  unfolding Image.operand_a
  left-operand e o a b l q =
      let r = entry-record d [] d.entries e l in
      entry-field e 2 l (omega arith) ∙ ap (λ z. two z 2) (r.1 ∙ ap (entry_bytes d r.0) q) ∙ unfold entry_bytes Assemble.expr Assemble.words16 Assemble.bytes in refl

  pub right_operand : (e : ℕ) (o : Binary) (a b : ℕ) → e < length d.entries → entry_of e ≡ Entry.two o a b → Image.operand_b p e ≡ word b
  unfolding Image.operand_b
  right_operand e o a b l q =
      let r = entry-record d [] d.entries e l in
      entry-field e 4 l (omega arith) ∙ ap (λ z. two z 4) (r.1 ∙ ap (entry_bytes d r.0) q) ∙ unfold entry_bytes Assemble.expr Assemble.words16 Assemble.bytes in refl

  -- ---- a variable's owner
  pub owner-field : (v : ℕ) → v < length d.variables → Image.owner p v ≡ word (get_or d.variables v no_variable).owner
  unfolding Image.owner Assemble.variable Assemble.words16 Assemble.bytes
  owner-field v l =
      field_at p (Image.var_record_at p v) 16 (get_or (all_variables d.variables) v []) (λ j h. variable-byte d fit v j l h) 2 (omega arith)
      ∙ ap (λ z. two z 2) (variable-record d.variables v l)
