-- One more record laid into an image leaves the others as they stand.
use Prim.Native.Nat.{ℕ, suc, ◌+◌, ◌*◌, ◌-◌, ◌≤◌, ◌<◌}
use mathlib.Core.Path.{◌≡◌, refl, sym, ◌∙◌, ap, ap₂, subst}
use mathlib.Core.List.{List, [], ◌∷◌, ◌++◌, append_assoc}
use native.Mathlib.Omega.{arith}
use lib.ListN.{length, set, length-append, length-set}
use Rattle.plexil.specs.Lists.{put}
use Rattle.plexil.specs.Assemble as Assemble
use Rattle.plexil.specs.Assemble.{bytes, words16, join}
use Rattle.plexil.proofs.PutLaws.{length-put}
use Rattle.notation.specs.Draft.{Variable, Node, Entry, Draft, with_initial}
use Rattle.notation.specs.Hearing.{◌▸◌, at_last}
use Rattle.notation.specs.Mapping.{kind_code, node_bytes, all_nodes, all_variables, all_lookups}
use Rattle.notation.proofs.OwnedHeard.{at-last}
use Rattle.notation.proofs.ImageLength.{length-bytes, length-node, length-join, variables-sized, variables-many}
use Rattle.names.proofs.ViewLaws.{length-snoc}
use Rattle.build.specs.Standing.{entries_bytes, header}
use Rattle.build.specs.Laying.{Holds, head_of, Limited, Laid, entries_at, variables_at, lookups_at}
use Rattle.build.proofs.EntryLaws.{entries-length}
use Rattle.build.proofs.Puts.{words_size, put_one}
use Rattle.build.proofs.HoldLaws.{stands, stays-before, stays-beyond, holds_more, holds-first, holds-second}

-- ---- records one after another
join_more : (rs : List (List ℕ)) (r : List ℕ) → join (rs ▸ r) ≡ join rs ++ r
unfolding join ◌▸◌
join_more [] r = append-none r
  where
    append-none : (x : List ℕ) → x ++ [] ≡ x
    append-none [] = refl
    append-none (a ∷ x) = ap (λ y. a ∷ y) (append-none x)
join_more (s ∷ rs) r = ap (λ y. s ++ y) (join_more rs r) ∙ sym (append_assoc s (join rs) r)

nodes-more : (d : Draft) (i : ℕ) (ns : List Node) (n : Node) → all_nodes d i (ns ▸ n) ≡ all_nodes d i ns ▸ node_bytes d (i + length ns) n n.body
unfolding all_nodes ◌▸◌
nodes-more d i [] n = let e : i ≡ i + 0 = omega arith in ap (λ j. node_bytes d j n n.body ∷ []) e
nodes-more d i (m ∷ ns) n = let e : suc i + length ns ≡ i + suc (length ns) = omega arith in
    ap (λ l. node_bytes d i m m.body ∷ l) (nodes-more d (suc i) ns n ∙ ap (λ j. all_nodes d (suc i) ns ▸ node_bytes d j n n.body) e)

variables-more : (vs : List Variable) (v : Variable) → all_variables (vs ▸ v) ≡ all_variables vs ▸ Assemble.variable (kind_code v.kind) v.known v.owner v.initial
unfolding all_variables ◌▸◌
variables-more [] v = refl
variables-more (w ∷ vs) v = ap (λ l. Assemble.variable (kind_code w.kind) w.known w.owner w.initial ∷ l) (variables-more vs v)

pub variables-length : (vs : List Variable) → length (join (all_variables vs)) ≡ 16 * length vs
variables-length vs = length-join 16 (all_variables vs) (variables-sized vs) ∙ ap (λ n. 16 * n) (variables-many vs)

variable-length : (k b o w : ℕ) → length (Assemble.variable k b o w) ≡ 16
unfolding Assemble.opened
variable-length k b o w = refl

pub head-length : (d : Draft) → length (head_of d) ≡ 20
unfolding header
head-length d = words_size _

-- ---- the last one of several
none_last : (f : Variable → Variable) (l : List Variable) → length l ≡ 0 → at_last f l ≡ l
unfolding at_last
none_last f [] h = refl
none_last f (v ∷ l) h = absurd (omega arith)

last_one : (l : List Variable) → 0 < length l → (i : List Variable) × (v : Variable) × (l ≡ i ▸ v)
unfolding ◌▸◌
last_one [] h = absurd (omega arith)
last_one (v ∷ []) h = ([], v, refl)
last_one (v ∷ (w ∷ l)) h = let r = last_one (w ∷ l) (omega arith) in (v ∷ r.0, r.1, ap (λ x. v ∷ x) r.2)

-- ---- the sections apart
module _ (whole : Draft) (ns : List Node) (es : List Entry) (vs : List Variable) (image : List ℕ) (f : Limited whole) (a : Laid whole ns es vs image) where
  -- a node's record
  pub lay-node : (m : Node) (r after : List ℕ) → length r ≡ 24 → length ns < length whole.nodes → node_bytes whole (length ns) m m.body ≡ r → after ≡ put image (20 + 24 * length ns) r
      → Laid whole (ns ▸ m) es vs after
  lay-node m r after z h b q =
      let place : ℕ = 20 + 24 * length ns in
      let room : place + length r ≤ length image = omega (arith, f.nodes, a.size) in
      let low : place ≤ length image = omega arith in
      let i : 0 + length ns ≡ length ns = omega arith in
      let j : join (all_nodes whole 0 (ns ▸ m)) ≡ join (all_nodes whole 0 ns) ++ r =
      ap join (nodes-more whole 0 ns m) ∙ join_more (all_nodes whole 0 ns) (node_bytes whole (0 + length ns) m m.body)
      ∙ ap (λ x. join (all_nodes whole 0 ns) ++ node_bytes whole x m m.body) i ∙ ap (λ x. join (all_nodes whole 0 ns) ++ x) b in
      let p : place ≡ 20 + length (join (all_nodes whole 0 ns)) = omega (arith, a.sized) in
      let beyond = stays-beyond image after place r q low in
      record {
        size = ap length q ∙ length-put image place r room ∙ a.size;
        sized = ap length j ∙ length-append (join (all_nodes whole 0 ns)) r ∙ omega (arith, a.sized, length-snoc ns m);
        few_nodes = omega (arith, length-snoc ns m);
        few_entries = a.few_entries;
        few_variables = a.few_variables;
        head = stays-before image after place r q low 0 (head_of whole) (omega (arith, head-length whole)) a.head;
        nodes = subst (λ x. Holds after 20 x) (sym j)
            (holds_more after 20 (join (all_nodes whole 0 ns)) r (stays-before image after place r q low 20 (join (all_nodes whole 0 ns)) (omega (arith, a.sized)) a.nodes) (subst (λ n. Holds after n r) p (stands image after place r q low)));
        entries = beyond (entries_at whole) (entries_bytes whole es) (omega arith) a.entries;
        variables = beyond (variables_at whole) (join (all_variables vs)) (omega arith) a.variables;
        lookups = beyond (lookups_at whole) (join (all_lookups whole.lookups)) (omega arith) a.lookups;
      }

  pub lay-one-node : (m : Node) (n parent form priority : ℕ) (given : List ℕ) (what value : ℕ) (after : List ℕ) → length given ≡ 7 → n ≡ length ns → length ns < length whole.nodes
      → node_bytes whole n m m.body ≡ Assemble.node parent form priority given what value → (length image ≡ 41108 → after ≡ put image (20 + 24 * n) (Assemble.node parent form priority given what value))
      → Laid whole (ns ▸ m) es vs after
  lay-one-node m n parent form priority given what value after z e h b q =
      let r : List ℕ = Assemble.node parent form priority given what value in
      lay-node m r after (length-node parent form priority given what value z) h (ap (λ x. node_bytes whole x m m.body) (sym e) ∙ b) (q a.size ∙ ap (λ x. put image (20 + 24 * x) r) e)

  -- the entries, more of them
  pub lay-entries : (more : List Entry) (after : List ℕ) → length more ≤ length whole.entries → after ≡ put image (entries_at whole) (entries_bytes whole more) → Laid whole ns more vs after
  lay-entries more after h q =
      let r : List ℕ = entries_bytes whole more in
      let z : length r ≡ 16 * length more = entries-length whole more in
      let room : entries_at whole + length r ≤ length image = omega (arith, f.nodes, f.entries, a.size) in
      let low : entries_at whole ≤ length image = omega arith in
      let beyond = stays-beyond image after (entries_at whole) r q low in
      let before = stays-before image after (entries_at whole) r q low in
      record {
        size = ap length q ∙ length-put image (entries_at whole) r room ∙ a.size;
        sized = a.sized;
        few_nodes = a.few_nodes;
        few_entries = h;
        few_variables = a.few_variables;
        head = before 0 (head_of whole) (omega (arith, head-length whole)) a.head;
        nodes = before 20 (join (all_nodes whole 0 ns)) (omega (arith, a.sized, a.few_nodes)) a.nodes;
        entries = stands image after (entries_at whole) r q low;
        variables = beyond (variables_at whole) (join (all_variables vs)) (omega arith) a.variables;
        lookups = beyond (lookups_at whole) (join (all_lookups whole.lookups)) (omega arith) a.lookups;
      }

  -- bytes changed within the section of the variables, where these stand now
  lay-among : (more : List Variable) (after : List ℕ) → length after ≡ length image → ((n : ℕ) (x : List ℕ) → n + length x ≤ variables_at whole → Holds image n x → Holds after n x)
      → ((n : ℕ) (x : List ℕ) → lookups_at whole ≤ n → Holds image n x → Holds after n x) → length more ≤ length whole.variables → Holds after (variables_at whole) (join (all_variables more))
      → Laid whole ns es more after
  lay-among more after e before beyond h o =
      record {
        size = e ∙ a.size;
        sized = a.sized;
        few_nodes = a.few_nodes;
        few_entries = a.few_entries;
        few_variables = h;
        head = before 0 (head_of whole) (omega (arith, head-length whole)) a.head;
        nodes = before 20 (join (all_nodes whole 0 ns)) (omega (arith, a.sized, a.few_nodes)) a.nodes;
        entries = before (entries_at whole) (entries_bytes whole es) (omega (arith, entries-length whole es, a.few_entries)) a.entries;
        variables = o;
        lookups = beyond (lookups_at whole) (join (all_lookups whole.lookups)) (omega arith) a.lookups;
      }

  -- a variable's record
  pub lay-variable : (v : Variable) (r after : List ℕ) → length vs < length whole.variables → Assemble.variable (kind_code v.kind) v.known v.owner v.initial ≡ r
      → after ≡ put image (variables_at whole + 16 * length vs) r → Laid whole ns es (vs ▸ v) after
  lay-variable v r after h b q =
      let place : ℕ = variables_at whole + 16 * length vs in
      let z : length r ≡ 16 = ap length (sym b) ∙ variable-length (kind_code v.kind) v.known v.owner v.initial in
      let low : place ≤ length image = omega (arith, f.nodes, f.entries, f.variables, a.size) in
      let p : place ≡ variables_at whole + length (join (all_variables vs)) = omega (arith, variables-length vs) in
      let j : join (all_variables (vs ▸ v)) ≡ join (all_variables vs) ++ r =
      ap join (variables-more vs v) ∙ join_more (all_variables vs) (Assemble.variable (kind_code v.kind) v.known v.owner v.initial) ∙ ap (λ x. join (all_variables vs) ++ x) b in
      lay-among (vs ▸ v) after (ap length q ∙ length-put image place r (omega (arith, f.nodes, f.entries, f.variables, a.size)))
      (λ n x m. stays-before image after place r q low n x (omega arith)) (λ n x m. stays-beyond image after place r q low n x (omega arith)) (omega (arith, length-snoc vs v))
      (subst (λ x. Holds after (variables_at whole) x) (sym j)
      (holds_more after (variables_at whole) (join (all_variables vs)) r (stays-before image after place r q low (variables_at whole) (join (all_variables vs)) (omega (arith, variables-length vs)) a.variables)
      (subst (λ n. Holds after n r) p (stands image after place r q low))))

  pub lay-unknown : (v : Variable) (base n kind owner : ℕ) (after : List ℕ) → base ≡ variables_at whole → n ≡ length vs → length vs < length whole.variables → kind_code v.kind ≡ kind → v.known ≡ 0
      → v.owner ≡ owner → v.initial ≡ 0 → after ≡ put image (base + 16 * n) (Assemble.variable kind 0 owner 0) → Laid whole ns es (vs ▸ v) after
  lay-unknown v base n kind owner after e g h k b o i q =
      let r : Assemble.variable (kind_code v.kind) v.known v.owner v.initial ≡ Assemble.variable kind 0 owner 0 = rw (k, b, o, i) refl in
      lay-variable v (Assemble.variable kind 0 owner 0) after h r (q ∙ ap₂ (λ x y. put image (x + 16 * y) (Assemble.variable kind 0 owner 0)) e g)

  -- the value of the last variable: its byte that says that it is known, and its bits
  last-known : (v : Variable) (w : ℕ) (k : ℕ) (one after : List ℕ) → one ≡ put image (k + 1) (1 ∷ []) → after ≡ put one (k + 8) (bytes 8 w) → k + 16 ≤ length image
      → Holds image k (Assemble.variable (kind_code v.kind) v.known v.owner v.initial) → Holds after k (Assemble.variable (kind_code v.kind) 1 v.owner w)
  unfolding Assemble.variable
  last-known v w k one after p q room o =
      let first : List ℕ = kind_code v.kind ∷ [] in
      let middle : List ℕ = words16 (v.owner ∷ 0 ∷ 0 ∷ []) in
      let same : length one ≡ length image = ap length p ∙ length-put image (k + 1) (1 ∷ []) (omega arith) in
      let m : length middle ≡ 6 = words_size (v.owner ∷ 0 ∷ 0 ∷ []) in
      let a0 : Holds image k first = holds-first image k first (v.known ∷ (middle ++ bytes 8 v.initial)) o in
      let a1 : Holds image (k + 1) (v.known ∷ (middle ++ bytes 8 v.initial)) = holds-second image k first (v.known ∷ (middle ++ bytes 8 v.initial)) o in
      let a2 : Holds image (k + 1 + 1) (middle ++ bytes 8 v.initial) = holds-second image (k + 1) (v.known ∷ []) (middle ++ bytes 8 v.initial) a1 in
      let a3 : Holds image (k + 1 + 1) middle = holds-first image (k + 1 + 1) middle (bytes 8 v.initial) a2 in
      let lo : k + 1 ≤ length image = omega arith in
      let hi : k + 8 ≤ length one = omega arith in
      let stay = stays-before one after (k + 8) (bytes 8 w) q hi in
      let b0 = stay k first (omega arith) (stays-before image one (k + 1) (1 ∷ []) p lo k first (omega arith) a0) in
      let b1 = stay (k + 1) (1 ∷ []) (omega arith) (stands image one (k + 1) (1 ∷ []) p lo) in
      let b2 = stay (k + 1 + 1) middle (omega arith) (stays-beyond image one (k + 1) (1 ∷ []) p lo (k + 1 + 1) middle (omega arith) a3) in
      let e : k + 8 ≡ k + 1 + 1 + length middle = omega arith in
      let b3 : Holds after (k + 1 + 1 + length middle) (bytes 8 w) = subst (λ n. Holds after n (bytes 8 w)) e (stands one after (k + 8) (bytes 8 w) q hi) in
      holds_more after k first (1 ∷ (middle ++ bytes 8 w)) b0 (holds_more after (k + 1) (1 ∷ []) (middle ++ bytes 8 w) b1 (holds_more after (k + 1 + 1) middle (bytes 8 w) b2 b3))

  initial-of : (i : List Variable) (v : Variable) (w k : ℕ) (one after : List ℕ) → vs ≡ i ▸ v → k ≡ variables_at whole + 16 * (length vs - 1) → one ≡ put image (k + 1) (1 ∷ []) → after ≡ put one (k + 8) (bytes 8 w)
      → Laid whole ns es (i ▸ with_initial w v) after
  initial-of i v w k one after e g p q =
      let many : length vs ≡ suc (length i) = ap length e ∙ length-snoc i v in
      let r : List ℕ = Assemble.variable (kind_code v.kind) v.known v.owner v.initial in
      let r' : List ℕ = Assemble.variable (kind_code v.kind) 1 v.owner w in
      let place : k ≡ variables_at whole + length (join (all_variables i)) = omega (arith, variables-length i) in
      let room : k + 16 ≤ length image = omega (arith, f.nodes, f.entries, f.variables, a.size, a.few_variables) in
      let same : length one ≡ length image = ap length p ∙ length-put image (k + 1) (1 ∷ []) (omega arith) in
      let z : length (bytes 8 w) ≡ 8 = length-bytes 8 w in
      let both : length after ≡ length image = ap length q ∙ length-put one (k + 8) (bytes 8 w) (omega arith) ∙ same in
      let before : (n : ℕ) (x : List ℕ) → n + length x ≤ k → Holds image n x → Holds after n x =
      λ n x m o. stays-before one after (k + 8) (bytes 8 w) q (omega arith) n x (omega arith) (stays-before image one (k + 1) (1 ∷ []) p (omega arith) n x (omega arith) o) in
      let beyond : (n : ℕ) (x : List ℕ) → k + 16 ≤ n → Holds image n x → Holds after n x =
      λ n x m o. stays-beyond one after (k + 8) (bytes 8 w) q (omega arith) n x (omega arith) (stays-beyond image one (k + 1) (1 ∷ []) p (omega arith) n x (omega arith) o) in
      let all : Holds image (variables_at whole) (join (all_variables i) ++ r) =
      subst (λ x. Holds image (variables_at whole) x) (ap (λ x. join (all_variables x)) e ∙ ap join (variables-more i v) ∙ join_more (all_variables i) r) a.variables in
      let old : Holds image k r = subst (λ n. Holds image n r) (sym place) (holds-second image (variables_at whole) (join (all_variables i)) r all) in
      let j : join (all_variables (i ▸ with_initial w v)) ≡ join (all_variables i) ++ r' = ap join (variables-more i (with_initial w v)) ∙ join_more (all_variables i) r' in
      lay-among (i ▸ with_initial w v) after both (λ n x m. before n x (omega arith)) (λ n x m. beyond n x (omega (arith, a.few_variables))) (omega (arith, length-snoc i (with_initial w v), a.few_variables))
      (subst (λ x. Holds after (variables_at whole) x) (sym j)
      (holds_more after (variables_at whole) (join (all_variables i)) r' (before (variables_at whole) (join (all_variables i)) (omega (arith, variables-length i)) (holds-first image (variables_at whole) (join (all_variables i)) r all))
      (subst (λ n. Holds after n r') place (last-known v w k one after p q room old))))

  pub lay-initial : (w base n : ℕ) (after : List ℕ) → base ≡ variables_at whole → n ≡ length vs → 0 < n
      → (length (set image (base + 16 * (n - 1) + 1) 1) ≡ 41108 → after ≡ put (set image (base + 16 * (n - 1) + 1) 1) (base + 16 * (n - 1) + 8) (bytes 8 w)) → Laid whole ns es (at_last (with_initial w) vs) after
  lay-initial w base n after e g h q =
      let s = last_one vs (omega arith) in
      let k : ℕ = base + 16 * (n - 1) in
      let one : set image (k + 1) 1 ≡ put image (k + 1) (1 ∷ []) = put_one image (k + 1) 1 (omega (arith, f.nodes, f.entries, f.variables, a.size, a.few_variables)) in
      subst (λ x. Laid whole ns es x after) (sym (at-last (with_initial w) s.0 s.1) ∙ ap (at_last (with_initial w)) (sym s.2))
      (initial-of s.0 s.1 w k (set image (k + 1) 1) after s.2 (ap₂ (λ x y. x + 16 * (y - 1)) e g) one (q (length-set image (k + 1) 1 ∙ a.size)))

  pub lay-nothing : (w : ℕ) → length vs ≡ 0 → Laid whole ns es (at_last (with_initial w) vs) image
  lay-nothing w h = subst (λ x. Laid whole ns es x image) (sym (none_last (with_initial w) vs h)) a
