-- "12 never comes from a text": a variable's name means one of the node itself or of a node above it, so no node reaches past them.
use Prim.Native.Nat.{ℕ, zero, suc, ◌+◌, ◌≤◌, ◌<◌}
use mathlib.Core.Path.{◌≡◌, refl, sym, ◌∙◌, ap, subst}
use mathlib.Core.Logic.{◌⊎◌, inl, inr}
use mathlib.Core.Bool.{Bool, true, false, not, true≢false, false≢true}
use mathlib.Core.List.{List, [], ◌∷◌}
use native.Mathlib.Omega.{arith}
use native.Mathlib.Nat.{zero-add}
use borrow.Author.Tests.{eq-eqb, ltb-true, leb-true, not-true, not-false}
use lib.ListN.{length, get_or}
use lib.Dec.{eqb}
use Rattle.plexil.specs.declared.Condition.{Condition}
use Rattle.plexil.specs.declared.Rule.TheVariants.{Tree, Deep, Reach}
use Rattle.plexil.specs.declared.Verdict.TheVariants.{Refused}
use Rattle.plexil.specs.Lists as Lists
use Rattle.plexil.specs.Lists.{when◌then◌else◌, every, Found, at, nowhere}
use Rattle.plexil.specs.Bytes.{le16}
use Rattle.plexil.specs.Image as Image
use Rattle.plexil.specs.Records.{good_parent, is_assignment, all_conditions}
use Rattle.plexil.specs.Scope.{depth_within, shallow, given_pass, if_assignment, is_above, in_scope, tree_in_scope, good_reach}
use Rattle.plexil.specs.Check.{records, breaks, rule_on, rule_number, verdict}
use Rattle.plexil.proofs.ListLaws.{every-at}
use Rattle.plexil.proofs.Exactness.{refused-is}
use Rattle.grammar.specs.Spelling.{Token}
use Rattle.grammar.specs.Table.{Said}
use Rattle.notation.specs.Sayings.{Saying, status, outcome, failure}
use Rattle.notation.specs.Draft.{blank, Node, Body, Entry, Draft}
use Rattle.notation.specs.Hearing.{parent_in, draft_of}
use Rattle.notation.specs.Spoken.{spoken}
use Rattle.notation.specs.Phrases.{Plan}
use Rattle.notation.specs.Names.{own_variable, variable_up, variable_of, bad_name}
use Rattle.notation.specs.Mapping.{what_code, binary_code, number_of, node_bytes, image_of, within_counts}
use Rattle.notation.proofs.Parts.{no_entry, Fine}
use Rattle.notation.proofs.NodesGood.{Scoped, GivenGood, ValueGood, NodesGood}
use Rattle.notation.proofs.NodesScoped.{plan-good}
use Rattle.notation.proofs.Covered.{Covers, EntryCovered, EntriesCovered, BodyCovered, BodiesCovered, ParentsIn}
use Rattle.notation.proofs.Steady.{IsSteady, steady-all}
use Rattle.notation.proofs.Seven.{seven-all}
use Rattle.notation.proofs.Spoken.{hear-spoken}
use Rattle.notation.proofs.Fields.{Fits, word, word_back, no_node, node-count, entry-count}
use Rattle.notation.proofs.ByNumber.{seven_at, nodes-at, bodies-at, entries_at, given-at}
use Rattle.notation.proofs.Found.{own-found, covered-found}
use Rattle.notation.proofs.ScopeTests.{seven-true, every-both, some-second, tree-true, other-entry, variable-entry, ops-leaf, ops-not, ops-two, not-one}
use Rattle.notation.proofs.RecordFields.{two, nth, nth-low, type_of, code_of, node-field, parent-field, condition-field, type-field, what-in, value-in, operator-field, variable-operand, negation-operand, left-operand, right_operand, owner-field}

module _ (d : Draft) (fit : Fits d) where
  abbrev p : List ℕ
  p = image_of d

  abbrev node_of : ℕ → Node
  node_of i = get_or d.nodes i no_node

  abbrev entry_of : ℕ → Entry
  entry_of e = get_or d.entries e no_entry

  module _ (parents : ParentsIn (length d.nodes) d.nodes) (tree : (i : ℕ) → suc i < length d.nodes → Image.parent p (suc i) < suc i) where
    -- a variable that is found going up from node n is owned by n or a node above it
    found-above : (k n : ℕ) (x : Token) (v : ℕ) → n < length d.nodes → variable_up d k n x ≡ at v → (v < length d.variables) × (is_above p k (Image.owner p v) n ≡ true)
    unfolding variable_up is_above
    found-above zero n x v l e = absurd (subst (λ o. elim o as (λ _. Type 0) [ at k ↦ ⊥ | nowhere ↦ Unit {0} ]) e tt)
    found-above (suc k) zero x v l e =
        let h = own-found d 0 x v e in
        (h.0, eq-eqb (Image.owner p v) 0 (owner-field d fit v h.0 ∙ ap word h.1))
    found-above (suc k) (suc n) x v l e = go (own_variable d (suc n) x) refl e (found-above k)
      where
        go : (f : Found) → own_variable d (suc n) x ≡ f → elim f as (λ _. Found) [ at w ↦ at w | nowhere ↦ variable_up d k (parent_in d.nodes (suc n)) x ] ≡ at v
            → ((n : ℕ) (x : Token) (v : ℕ) → n < length d.nodes → variable_up d k n x ≡ at v → (v < length d.variables) × (is_above p k (Image.owner p v) n ≡ true))
            → (v < length d.variables) × (elim (eqb (Image.owner p v) (suc n)) as (λ _. Bool) [ true ↦ true | false ↦ is_above p k (Image.owner p v) (Image.parent p (suc n)) ] ≡ true)
        go (at w) q e r =
            let z : w ≡ v = ap (λ o. elim o as (λ _. ℕ) [ at k ↦ k | nowhere ↦ 0 ]) e in
            let h = own-found d (suc n) x v (q ∙ ap at z) in
            (h.0, rw (eq-eqb (Image.owner p v) (suc n) (owner-field d fit v h.0 ∙ ap word h.1 ∙ word_back (suc n) (omega arith))) refl)
        go nowhere q e r =
            let f = parent-field d fit (suc n) l parents in
            let h = r (parent_in d.nodes (suc n)) x v (omega (arith, tree n l, f)) e in
            (h.0, either (eqb (Image.owner p v) (suc n)) (rw f h.1))
          where
            either : (b : Bool) → is_above p k (Image.owner p v) (Image.parent p (suc n)) ≡ true → elim b as (λ _. Bool) [ true ↦ true | false ↦ is_above p k (Image.owner p v) (Image.parent p (suc n)) ] ≡ true
            either true h = refl
            either false h = h

    in-scope : (i : ℕ) (x : Token) (v : ℕ) → i < length d.nodes → variable_of d i x ≡ at v → (word v ≡ v) × (in_scope p i v ≡ true)
    unfolding variable_of in_scope
    in-scope i x v l e = let h = found-above (suc i) i x v l e in (word_back v (omega (arith, h.0)), h.1)

    module _ (names : bad_name d ≡ nowhere) (covered : EntriesCovered d.mentions d.entries) where
      -- the variable that a name of node i means
      scope_of : (i : ℕ) (x : Token) (a : ℕ) → i < length d.nodes → Covers d.mentions i x → a ≡ word (number_of (variable_of d i x)) → in_scope p i a ≡ true
      unfolding number_of
      scope_of i x a l c e =
          let f = covered-found d i x names c in
          let h = in-scope i x f.0 l f.1 in
          ap (in_scope p i) (e ∙ ap (λ z. word (number_of z)) f.1 ∙ h.0) ∙ h.1

      -- an expression of node i
      tree-scoped : (i b c : ℕ) → i < length d.nodes → c < length d.entries → ((j : ℕ) → b ≤ j → j ≤ c → Fine b i j (entry_of j)) → (k e : ℕ) → b ≤ e → e ≤ c → depth_within p k e ≡ true → tree_in_scope p i k e ≡ true
      unfolding depth_within
      tree-scoped i b c l m f zero e x y h = absurd (false≢true h)
      tree-scoped i b c l m f (suc k) e x y h =
          go (entry_of e) refl (f e x y) (entries_at d.mentions d.entries e covered (omega arith)) (operator-field d fit e (omega arith)) (tree-scoped i b c l m f k)
        where
          g : ℕ → Bool
          g = tree_in_scope p i k

          go : (z : Entry) → entry_of e ≡ z → Fine b i e z → EntryCovered d.mentions z → Image.operator p e ≡ code_of z
              → ((e : ℕ) → b ≤ e → e ≤ c → depth_within p k e ≡ true → tree_in_scope p i k e ≡ true) → tree_in_scope p i (suc k) e ≡ true
          go (Entry.constant t w) q n v o r = tree-true p i k e (other-entry p i e 0 o refl) (ops-leaf p e 0 g o refl)
          go (Entry.unknown_of t) q n v o r = tree-true p i k e (other-entry p i e 0 o refl) (ops-leaf p e 0 g o refl)
          go (Entry.variable t w) q n v o r =
              tree-true p i k e
              (variable-entry p i e (scope_of i w (Image.operand_a p e) l (subst (λ (j : ℕ). Covers d.mentions j w) n v) (variable-operand d fit e t w (omega arith) q ∙ ap (λ (j : ℕ). word (number_of (variable_of d j w))) n)))
              (ops-leaf p e 1 g o refl)
          go (Entry.lookup t) q n v o r = tree-true p i k e (other-entry p i e 2 o refl) (ops-leaf p e 2 g o refl)
          go (Entry.about status t xs w) q n v o r = tree-true p i k e (other-entry p i e 3 (o ∙ unfold what_code in refl) refl) (ops-leaf p e 3 g (o ∙ unfold what_code in refl) refl)
          go (Entry.about outcome t xs w) q n v o r = tree-true p i k e (other-entry p i e 4 (o ∙ unfold what_code in refl) refl) (ops-leaf p e 4 g (o ∙ unfold what_code in refl) refl)
          go (Entry.about failure t xs w) q n v o r = tree-true p i k e (other-entry p i e 5 (o ∙ unfold what_code in refl) refl) (ops-leaf p e 5 g (o ∙ unfold what_code in refl) refl)
          go (Entry.negation a) q n v o r =
              let u : Image.operand_a p e ≡ a = negation-operand d fit e a (omega arith) q ∙ word_back a (omega (arith, n.1)) in
              let deep : depth_within p k a ≡ true = ap (depth_within p k) (sym u) ∙ sym (ops-not p e (depth_within p k) o) ∙ h in
              tree-true p i k e (other-entry p i e 6 o refl) (ops-not p e g o ∙ ap g u ∙ r a n.0 (omega (arith, n.1)) deep)
          go (Entry.two t a w) q n v o r =
              let u : Image.operand_a p e ≡ a = left-operand d fit e t a w (omega arith) q ∙ word_back a (omega (arith, n.1)) in
              let z : Image.operand_b p e ≡ w = right_operand d fit e t a w (omega arith) q ∙ word_back w (omega (arith, n.3)) in
              let deep : every (depth_within p k (Image.operand_a p e) ∷ depth_within p k (Image.operand_b p e) ∷ []) ≡ true = sym (ops-two p e t (depth_within p k) o) ∙ h in
              let dl : depth_within p k a ≡ true = ap (depth_within p k) (sym u) ∙ every-at _ 0 deep in
              let dr : depth_within p k w ≡ true = ap (depth_within p k) (sym z) ∙ every-at _ 1 deep in
              tree-true p i k e (other-entry p i e (binary_code t) o (not-one t))
              (ops-two p e t g o ∙ every-both (g (Image.operand_a p e)) (g (Image.operand_b p e)) (ap g u ∙ r a n.0 (omega (arith, n.1)) dl) (ap g z ∙ r w n.2 (omega (arith, n.3)) dr))

      scoped-tree : (i c : ℕ) → i < length d.nodes → shallow p c ≡ true → Scoped d.entries i c → (word c ≡ c) × (tree_in_scope p i 12 c ≡ true)
      unfolding shallow
      scoped-tree i c l h s =
          (word_back c (omega (arith, s.high)), tree-scoped i s.begin c l s.high s.fine 12 c s.low (omega arith) h)

      module _ (deep : (e : ℕ) → e < length d.entries → shallow p e ≡ true) (good : NodesGood d.entries 0 d.nodes) (bodies : BodiesCovered d.mentions 0 d.nodes) where
        -- a condition of node i
        condition-scoped : (i : ℕ) (c : Condition) → i < length d.nodes → Lists.some (eqb (Image.condition_field p i c) 65535 ∷ tree_in_scope p i 12 (Image.condition_field p i c) ∷ []) ≡ true
        unfolding Lists.some when◌then◌else◌
        condition-scoped i c l =
            go (given-at d.entries i (node_of i).given (nth c) (subst (λ (j : ℕ). GivenGood d.entries j (node_of i).given) (zero-add i) (nodes-at d.entries 0 d.nodes i good l).0)
            (omega (arith, nth-low c, seven_at d.nodes i fit.seven l)))
          where
            n : ℕ
            n = get_or (node_of i).given (nth c) 0

            f : Image.condition_field p i c ≡ word n
            f = condition-field d fit i c l

            go : (n ≡ 65535) ⊎ Scoped d.entries i n → Lists.some (eqb (Image.condition_field p i c) 65535 ∷ tree_in_scope p i 12 (Image.condition_field p i c) ∷ []) ≡ true
            go (inl e) = rw (f ∙ ap word e) refl
            go (inr s) = let h = scoped-tree i n l (deep n s.high) s in some-second (eqb (Image.condition_field p i c) 65535) (tree_in_scope p i 12 (Image.condition_field p i c)) (ap (tree_in_scope p i 12) (f ∙ h.0) ∙ h.1)

        -- an assignment of node i
        value-scoped : (i : ℕ) → i < length d.nodes → if_assignment p i (every (tree_in_scope p i 12 (Image.value_field p i) ∷ in_scope p i (Image.what p i) ∷ [])) ≡ true
        unfolding if_assignment is_assignment Lists.some when◌then◌else◌ Image.value_field Image.what
        value-scoped i l =
            go (node_of i).body refl (type-field d fit i l) (subst (λ (j : ℕ). ValueGood d.entries j (node_of i).body) (zero-add i) (nodes-at d.entries 0 d.nodes i good l).1)
            (subst (λ (j : ℕ). BodyCovered d.mentions j (node_of i).body) (zero-add i) (bodies-at d.mentions 0 d.nodes i bodies l))
          where
            s : length (node_of i).given ≡ 7
            s = seven_at d.nodes i fit.seven l

            go : (b : Body) → (node_of i).body ≡ b → Image.node_type p i ≡ type_of b → ValueGood d.entries i b → BodyCovered d.mentions i b
                → Lists.some (not (eqb (Image.node_type p i) 2) ∷ every (tree_in_scope p i 12 (le16 p (Image.node_at i + 22)) ∷ in_scope p i (le16 p (Image.node_at i + 20)) ∷ []) ∷ []) ≡ true
            go Body.list q t v c = rw t refl
            go (Body.command x) q t v c = rw t refl
            go (Body.assignment x e) q t v c =
                let h = scoped-tree i e l (deep e v.high) v in
                let r : two (node_bytes d i (node_of i) (node_of i).body) 22 ≡ word e = ap (λ b. two (node_bytes d i (node_of i) b) 22) q ∙ value-in d fit i (node_of i) x e s in
                let w : two (node_bytes d i (node_of i) (node_of i).body) 20 ≡ word (number_of (variable_of d i x)) = ap (λ b. two (node_bytes d i (node_of i) b) 20) q ∙ what-in d fit i (node_of i) x e s in
                some-second (not (eqb (Image.node_type p i) 2)) (every (tree_in_scope p i 12 (le16 p (Image.node_at i + 22)) ∷ in_scope p i (le16 p (Image.node_at i + 20)) ∷ []))
                (every-both (tree_in_scope p i 12 (le16 p (Image.node_at i + 22))) (in_scope p i (le16 p (Image.node_at i + 20)))
                (ap (tree_in_scope p i 12) (node-field d fit i 22 l (omega arith) ∙ r ∙ h.0) ∙ h.1) (scope_of i x (le16 p (Image.node_at i + 20)) l c (node-field d fit i 20 l (omega arith) ∙ w)))

        reach-good : (i : ℕ) → i < length d.nodes → good_reach p i ≡ true
        unfolding good_reach given_pass all_conditions
        reach-good i l = every-both _ _ (seven-true (λ c. condition-scoped i c l)) (value-scoped i l)

-- ---- the check's verdict
pub never-reach : (l : List (Said Saying)) → Plan (spoken l) → bad_name (draft_of l) ≡ nowhere → within_counts (draft_of l) ≡ true → (i : ℕ) → verdict (image_of (draft_of l)) ≡ Refused Reach i → ⊥
unfolding within_counts breaks rule_on records rule_number good_parent draft_of
never-reach l plan names counts i e =
    let d : Draft = draft_of l in
    let fit : Fits d = record { seven = seven-all l blank tt; nodes = leb-true _ _ (every-at _ 0 counts); entries = leb-true _ _ (every-at _ 1 counts); variables = leb-true _ _ (every-at _ 2 counts) } in
    let steady : IsSteady d = steady-all l blank (record { entries = tt; bodies = tt; parents = tt; within = inl refl }) in
    let good : NodesGood d.entries 0 d.nodes = subst (λ z. NodesGood z.entries 0 z.nodes) (hear-spoken l blank) (plan-good (spoken l) plan) in
    let b = refused-is (image_of d) Reach i e in
    let many = node-count d fit in
    let more = entry-count d fit in
    let tree : (j : ℕ) → suc j < length d.nodes → Image.parent (image_of d) (suc j) < suc j = λ j h. ltb-true _ _ (every-at _ 0 (not-false _ (b.earlier Tree (omega arith) (suc j) (omega arith)))) in
    let deep : (j : ℕ) → j < length d.entries → shallow (image_of d) j ≡ true = λ j h. not-false _ (b.earlier Deep (omega arith) j (omega arith)) in
    let r = reach-good d fit steady.parents tree names steady.entries deep good steady.bodies i (omega (arith, b.in_range)) in
    true≢false (sym r ∙ not-true _ b.broken)
