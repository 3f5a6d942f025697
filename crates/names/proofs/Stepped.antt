-- One saying: what it adds to the draft, seen as a tale, is what it adds to the tale.
use Prim.Native.Nat.{ℕ, zero, suc, ◌-◌}
use mathlib.Core.Path.{◌≡◌, refl, ap, sym, ◌∙◌}
use mathlib.Core.Bool.{Bool, true, false}
use mathlib.Core.List.{List, [], ◌∷◌, map, append_assoc, append-nil}
use mathlib.Core.Option.{some}
use native.Mathlib.Omega.{arith}
use lib.ListN.{length, length-map}
use Rattle.grammar.specs.Spelling.{Token, Placed}
use Rattle.notation.specs.Sayings as Sayings
use Rattle.notation.specs.Sayings.{Saying}
use Rattle.notation.specs.Draft.{Draft, Node, Body}
use Rattle.notation.specs.Draft as Draft
use Rattle.notation.specs.Hearing as Hearing
use Rattle.notation.specs.Hearing.{◌▸◌, at_last, settle_name, mention_path, hear}
use Rattle.names.specs.Roles as Roles
use Rattle.names.specs.Roles.{role_of, detail_of}
use Rattle.names.specs.Tale as Tale
use Rattle.names.specs.Tale.{Tale, parts, settling, tell_of, with_parts, here_in}
use Rattle.names.specs.Order.{Standing, after}
use Rattle.names.specs.Order as Order
use Rattle.names.specs.View.{of_command, of_lookup, of_variable, of_root, of_node, of_nodes, view_of}
use Rattle.names.proofs.ViewLaws.{map_snoc, map_last, last-map, nodes-snoc, length-nodes, nodes-last, parents_of, parent-in}
use Rattle.names.proofs.Viewed.{no, Stands, stands-declares, stands-stays, stands-held, stands-path, stands-asked, stands-settles, stands-begins, stands-opens, stands-shuts}

abbrev pub StandsIn : Standing → Draft → List ℕ → Type 0
StandsIn q d s = Stands q (parents_of d.nodes) d.above d.depth s

pub record Stepped (r : Standing) (d : Draft) (b : Tale) : Type 0 where
  pub lists : List ℕ
  pub stands : StandsIn r d lists
  pub view : view_of d lists ≡ b

-- a node changed in what the tale does not tell
pub record Kept (f : Node → Node) : Type 0 where
  pub root : (n : Node) → of_root (f n) ≡ of_root n
  pub node : (n : Node) → of_node (f n) ≡ of_node n
  pub parent : (n : Node) → (f n).parent ≡ n.parent
  pub level : (n : Node) → (f n).level ≡ n.level

module _ (f : Node → Node) (k : Kept f) (d : Draft) (s : List ℕ) where
  kept-stands : (r : Standing) → StandsIn r d s → Stands r (parents_of (at_last f d.nodes)) d.above d.depth s
  kept-stands r h = rw (map_last (λ n. n.parent) f k.parent d.nodes) h

  kept-view : view_of (Hearing.on_node f d) s ≡ view_of d s
  unfolding Hearing.on_node
  kept-view = rw (nodes-last f k.root k.node d.nodes, map_last (λ n. n.level) f k.level d.nodes)

settle-view : (d : Draft) (s : List ℕ) (h : List Placed) → view_of (settle_name d h) s ≡ settling h (view_of d s)
unfolding settle_name settling Hearing.mentioning Hearing.adding Hearing.last
settle-view d s [] = refl
settle-view d s (t ∷ ts) = rw length-nodes

settle-stands : (d : Draft) (s : List ℕ) (r : Standing) (h : List Placed) → StandsIn r d s → StandsIn r (settle_name d h) s
unfolding settle_name Hearing.mentioning Hearing.adding
settle-stands d s r [] c = c
settle-stands d s r (t ∷ ts) c = c

path-view : (s : List ℕ) (ts : List Placed) (q : List Token) (d : Draft) → view_of (mention_path q ts d) s ≡ with_parts (parts (here_in (view_of d s)) q ts) d.held (view_of d s)
unfolding mention_path parts Hearing.mentioning Hearing.last ◌▸◌
path-view s [] q d = rw append-nil
path-view s (t ∷ ts) q d = path-view s ts _ _ ∙ (let e : here_in (view_of d s) ≡ length d.nodes - 1 = ap (λ (n : ℕ). n - 1) (length-nodes d.nodes) in rw (← e, append_assoc))

path-stands : (s : List ℕ) (r : Standing) (ts : List Placed) (q : List Token) (d : Draft) → StandsIn r d s → StandsIn r (mention_path q ts d) s
unfolding mention_path Hearing.mentioning
path-stands s r [] q d c = c
path-stands s r (t ∷ ts) q d c = path-stands s r ts _ _ c

kept-priority : {x : ℕ} → Kept (Draft.with_priority x)
kept-priority = record { root = λ n. refl; node = λ n. refl; parent = λ n. refl; level = λ n. refl }

kept-body : {x : Body} → Kept (Draft.with_body x)
kept-body = record { root = λ n. refl; node = λ n. refl; parent = λ n. refl; level = λ n. refl }

module _ (x : Body) (ns : List Node) where
  body-nodes : of_nodes (at_last (Draft.with_body x) ns) ≡ of_nodes ns
  body-nodes = nodes-last (Draft.with_body x) (λ n. refl) (λ n. refl) ns

  body-levels : map (λ n. n.level) (at_last (Draft.with_body x) ns) ≡ map (λ n. n.level) ns
  body-levels = map_last (λ n. n.level) (Draft.with_body x) (λ n. refl) ns

module _ (x : ℕ) where
  initial-variables : (vs : List Draft.Variable) → map of_variable (at_last (Draft.with_initial x) vs) ≡ map of_variable vs
  initial-variables vs = map_last of_variable (Draft.with_initial x) (λ v. refl) vs

  initial-kinds : (vs : List Draft.Variable) → map (λ v. Roles.kind_number v.kind) (at_last (Draft.with_initial x) vs) ≡ map (λ v. Roles.kind_number v.kind) vs
  initial-kinds vs = map_last (λ v. Roles.kind_number v.kind) (Draft.with_initial x) (λ v. refl) vs

  number-commands : (cs : List Draft.Command) → map of_command (at_last (Draft.with_number x) cs) ≡ map of_command cs
  number-commands cs = map_last of_command (Draft.with_number x) (λ c. refl) cs

  number-numbers : (cs : List Draft.Command) → map (λ c. c.number) (at_last (Draft.with_number x) cs) ≡ at_last (λ n. x) (map (λ c. c.number) cs)
  number-numbers cs = last-map (λ c. c.number) (Draft.with_number x) (λ n. x) (λ c. refl) cs

kept_slot : (x : Draft.Slot) (e : ℕ) → Kept (Hearing.into_slot x e)
unfolding Hearing.into_slot
kept_slot (Draft.condition k) e = record { root = λ n. refl; node = λ n. refl; parent = λ n. refl; level = λ n. refl }
kept_slot Draft.value e = record { root = λ n. refl; node = λ n. refl; parent = λ n. refl; level = λ n. refl }

nil-of : (ns : List Node) → parents_of ns ≡ [] → ns ≡ []
nil-of [] e = refl
nil-of (n ∷ ns) e = absurd (let z : ◌≡◌ {A = ℕ} (suc (length (parents_of ns))) 0 = ap length e in omega arith)

-- a node begins: the root where there is none yet, else a child of the innermost list
begun : (d : Draft) (s : List ℕ) (q r : Standing) → Order.node_begins q ≡ some r → StandsIn q d s → (n : Node) → n.parent ≡ d.above → of_nodes (d.nodes ▸ n) ≡ of_nodes d.nodes ▸ record { name = n.name; owner = Tale.top s }
unfolding Order.node_begins Tale.top ◌▸◌ of_nodes
begun d s Order.declaring r e (x, y, z) n p = rw (nil-of d.nodes x, y)
begun d s (Order.within zero) r e c n p = absurd (no e)
begun d [] (Order.within (suc k)) r e (x, y, z, c, w) n p = absurd (omega arith)
begun d (v ∷ s) (Order.within (suc k)) r e (x, y, z, c, w) n p = nodes-snoc d.nodes n (rw length-map at z) ∙ rw (p, c.0)
begun d s (Order.holding k) r e c n p = absurd (no e)
begun d s (Order.between zero) r e c n p = absurd (no e)
begun d [] (Order.between (suc k)) r e (x, y, z, c) n p = absurd (omega arith)
begun d (v ∷ s) (Order.between (suc k)) r e (x, y, z, c) n p = nodes-snoc d.nodes n (rw length-map at z) ∙ rw (p, c.0)

depth_is : (ps : List ℕ) (a n : ℕ) (s : List ℕ) (q : Standing) → Stands q ps a n s → n ≡ length s
depth_is ps a n s Order.declaring (x, y, z) = z ∙ sym (ap length y)
depth_is ps a n s (Order.within k) (x, y, z, c, w) = omega arith
depth_is ps a n s (Order.holding k) (x, y, z, c, w) = omega arith
depth_is ps a n s (Order.between k) (x, y, z, c) = omega arith

begun-view : (d : Draft) (s : List ℕ) (q r : Standing) → Order.node_begins q ≡ some r → StandsIn q d s → (n : Node) → n.parent ≡ d.above → n.level ≡ suc d.depth → view_of (Draft.with_nodes (d.nodes ▸ n) d) s ≡ Tale.with_node n.name (view_of d s)
begun-view d s q r e c n p l = rw (begun d s q r e c n p, map_snoc (λ (n : Node). n.level), l, depth_is _ _ _ s q c)

module _ (t : Placed) (d : Draft) (s : List ℕ) (q r : Standing) (c : StandsIn q d s) where
  abbrev Step : Saying → Type 0
  Step w = after (role_of w) q ≡ some r → Stepped r (hear w t d) (tell_of (role_of w) (detail_of w t.bytes) t (view_of d s))

  step-conditions : (i : ℕ) → Step (Sayings.conditions i)
  unfolding Hearing.opened Roles.opened Tale.opened after
  step-conditions i e = record { lists = s; stands = stands-stays (parents_of d.nodes) d.above d.depth s q r e c; view = refl }

  step-initial_truth : (b : Bool) → Step (Sayings.initial_truth b)
  unfolding Hearing.opened Roles.opened Tale.opened after
  step-initial_truth b e = record { lists = s; stands = stands-stays (parents_of d.nodes) d.above d.depth s q r e c; view = rw (initial-variables, initial-kinds) }

  step-initial_whole : (b : Bool) → Step (Sayings.initial_whole b)
  unfolding Hearing.opened Roles.opened Tale.opened after
  step-initial_whole b e = record { lists = s; stands = stands-stays (parents_of d.nodes) d.above d.depth s q r e c; view = rw (initial-variables, initial-kinds) }

  step-initial_decimal : (b : Bool) → Step (Sayings.initial_decimal b)
  unfolding Hearing.opened Roles.opened Tale.opened after
  step-initial_decimal b e = record { lists = s; stands = stands-stays (parents_of d.nodes) d.above d.depth s q r e c; view = rw (initial-variables, initial-kinds) }

  step-initial_bits : (b : Bool) → Step (Sayings.initial_bits b)
  unfolding Hearing.opened Roles.opened Tale.opened after
  step-initial_bits b e = record { lists = s; stands = stands-stays (parents_of d.nodes) d.above d.depth s q r e c; view = rw (initial-variables, initial-kinds) }

  step-truth : (b : Bool) → Step (Sayings.truth b)
  unfolding Hearing.opened Roles.opened Tale.opened after
  step-truth b e = record { lists = s; stands = stands-stays (parents_of d.nodes) d.above d.depth s q r e c; view = refl }

  step-whole : (b : Bool) → Step (Sayings.whole b)
  unfolding Hearing.opened Roles.opened Tale.opened after
  step-whole b e = record { lists = s; stands = stands-stays (parents_of d.nodes) d.above d.depth s q r e c; view = refl }

  step-decimal : (b : Bool) → Step (Sayings.decimal b)
  unfolding Hearing.opened Roles.opened Tale.opened after
  step-decimal b e = record { lists = s; stands = stands-stays (parents_of d.nodes) d.above d.depth s q r e c; view = refl }

  step-bits : (b : Bool) → Step (Sayings.bits b)
  unfolding Hearing.opened Roles.opened Tale.opened after
  step-bits b e = record { lists = s; stands = stands-stays (parents_of d.nodes) d.above d.depth s q r e c; view = refl }

  step-unknown : (k : Sayings.Kind) → Step (Sayings.unknown k)
  unfolding Hearing.opened Roles.opened Tale.opened after
  step-unknown k e = record { lists = s; stands = stands-stays (parents_of d.nodes) d.above d.depth s q r e c; view = refl }

  step-negates : Step Sayings.negates
  unfolding Hearing.opened Roles.opened Tale.opened after
  step-negates e = record { lists = s; stands = stands-stays (parents_of d.nodes) d.above d.depth s q r e c; view = refl }

  step-parenthesis : Step Sayings.parenthesis
  unfolding Hearing.opened Roles.opened Tale.opened after
  step-parenthesis e = record { lists = s; stands = stands-stays (parents_of d.nodes) d.above d.depth s q r e c; view = refl }

  step-ranks : Step Sayings.ranks
  unfolding Hearing.opened Roles.opened Tale.opened after
  step-ranks e = record { lists = s; stands = kept-stands (Draft.with_priority _) kept-priority d s r (stands-stays (parents_of d.nodes) d.above d.depth s q r e c); view = kept-view (Draft.with_priority _) kept-priority d s }

  step-declares_command : Step Sayings.declares_command
  unfolding Hearing.opened Roles.opened Tale.opened after
  step-declares_command e = record { lists = s; stands = stands-declares (parents_of d.nodes) d.above d.depth s q r e c; view = rw (map_snoc of_command, map_snoc (λ (c : Draft.Command). c.number), length-map) }

  step-numbers_command : Step Sayings.numbers_command
  unfolding Hearing.opened Roles.opened Tale.opened after
  step-numbers_command e = record { lists = s; stands = stands-declares (parents_of d.nodes) d.above d.depth s q r e c; view = rw (number-commands, number-numbers) }

  step-declares_lookup : (k : Sayings.Kind) → Step (Sayings.declares_lookup k)
  unfolding Hearing.opened Roles.opened Tale.opened after
  step-declares_lookup k e = record { lists = s; stands = stands-declares (parents_of d.nodes) d.above d.depth s q r e c; view = rw (map_snoc of_lookup, length-map) }

  step-declares_variable : (k : Sayings.Kind) → Step (Sayings.declares_variable k)
  unfolding Hearing.opened Roles.opened Tale.opened after
  step-declares_variable k e = record { lists = s; stands = stands-stays (parents_of d.nodes) d.above d.depth s q r e c; view = rw (map_snoc of_variable, map_snoc (λ (v : Draft.Variable). Roles.kind_number v.kind), length-map, length-nodes) }

  step-opens_list : Step Sayings.opens_list
  unfolding Hearing.opened Roles.opened Tale.opened after
  step-opens_list e = record { lists = length d.nodes ∷ s; stands = rw length-map at (stands-opens (parents_of d.nodes) d.above d.depth s q r e c); view = rw length-nodes }

  step-closes_list : Step Sayings.closes_list
  unfolding Hearing.opened Roles.opened Tale.opened after
  step-closes_list e = record { lists = Tale.under s; stands = rw parent-in (stands-shuts (parents_of d.nodes) d.above d.depth s q r e c); view = refl }

  step-calls : Step Sayings.calls
  unfolding Hearing.opened Roles.opened Tale.opened after
  step-calls e = record { lists = s; stands = kept-stands (Draft.with_body _) kept-body d s r (stands-stays (parents_of d.nodes) d.above d.depth s q r e c); view = rw (body-nodes, body-levels) }

  step-assigns : Step Sayings.assigns
  unfolding Hearing.opened Roles.opened Tale.opened after
  step-assigns e = record { lists = s; stands = kept-stands (Draft.with_body _) kept-body d s r (stands-stays (parents_of d.nodes) d.above d.depth s q r e c); view = rw (body-nodes, body-levels, length-nodes) }

  step-reads : Step Sayings.reads
  unfolding Hearing.opened Roles.opened Tale.opened after
  step-reads e = record { lists = s; stands = stands-stays (parents_of d.nodes) d.above d.depth s q r e c; view = refl }

  step-mentions : Step Sayings.mentions
  unfolding Hearing.opened Roles.opened Tale.opened after
  step-mentions e = record { lists = s; stands = stands-held (parents_of d.nodes) d.above d.depth s q r e c; view = refl }

  step-descends : Step Sayings.descends
  unfolding Hearing.opened Roles.opened Tale.opened after
  step-descends e = record { lists = s; stands = stands-path (parents_of d.nodes) d.above d.depth s q r e c; view = refl }

  step-asks : (w : Sayings.What) (n : Bool) (k : ℕ) → Step (Sayings.asks w n k)
  unfolding Hearing.opened Roles.opened Tale.opened after
  step-asks w true k e = record { lists = s; stands = path-stands s r d.held [] (Draft.with_held [] d) (stands-asked (parents_of d.nodes) d.above d.depth s q r e c); view = path-view s d.held [] (Draft.with_held [] d) }
  step-asks w false k e = record { lists = s; stands = path-stands s r d.held [] (Draft.with_held [] d) (stands-asked (parents_of d.nodes) d.above d.depth s q r e c); view = path-view s d.held [] (Draft.with_held [] d) }

  step-operates : (o : Sayings.Operator) → Step (Sayings.operates o)
  unfolding Hearing.opened Roles.opened Tale.opened after
  step-operates o e = record { lists = s; stands = settle-stands d s r d.held (stands-settles (parents_of d.nodes) d.above d.depth s q r e c); view = settle-view d s d.held }

  step-closes : Step Sayings.closes
  unfolding Hearing.opened Roles.opened Tale.opened after
  step-closes e = record { lists = s; stands = settle-stands d s r d.held (stands-settles (parents_of d.nodes) d.above d.depth s q r e c); view = settle-view d s d.held }

  step-ends : Step Sayings.ends
  unfolding Hearing.opened Roles.opened Tale.opened after
  step-ends e =
      let d2 : Draft = Hearing.end_operators 0 (Hearing.settled d) in
      let f : Node → Node = Hearing.into_slot d2.slot (Hearing.last d2.entries) in
      record { lists = s; stands = kept-stands f (kept_slot d2.slot (Hearing.last d2.entries)) d2 s r (settle-stands d s r d.held (stands-settles (parents_of d.nodes) d.above d.depth s q r e c)); view = kept-view f (kept_slot d2.slot (Hearing.last d2.entries)) d2 s ∙ settle-view d s d.held }

  step-begins : Step Sayings.begins
  unfolding Hearing.opened Roles.opened Tale.opened after
  step-begins e = record { lists = s; stands = rw (map_snoc (λ (n : Node). n.parent)) (stands-begins (parents_of d.nodes) d.above d.depth s q r e c); view = begun-view d s q r e c _ refl refl }

  step-names : Step Sayings.names
  unfolding Hearing.opened Roles.opened Tale.opened after
  step-names e = record { lists = s; stands = rw (map_snoc (λ (n : Node). n.parent)) (stands-begins (parents_of d.nodes) d.above d.depth s q r e c); view = ap (Tale.with_mention (Draft.node (length d.nodes)) t.place) (begun-view d s q r e c _ refl refl) ∙ rw length-nodes }

  pub stepped : (w : Saying) → (w ≡ Sayings.silence → ⊥) → Step w
  stepped Sayings.silence x = absurd (x refl)
  stepped Sayings.declares_command x = step-declares_command
  stepped Sayings.numbers_command x = step-numbers_command
  stepped (Sayings.declares_lookup k) x = step-declares_lookup k
  stepped Sayings.names x = step-names
  stepped Sayings.begins x = step-begins
  stepped Sayings.opens_list x = step-opens_list
  stepped Sayings.closes_list x = step-closes_list
  stepped Sayings.calls x = step-calls
  stepped Sayings.assigns x = step-assigns
  stepped (Sayings.conditions k) x = step-conditions k
  stepped Sayings.ranks x = step-ranks
  stepped (Sayings.declares_variable k) x = step-declares_variable k
  stepped (Sayings.initial_truth b) x = step-initial_truth b
  stepped (Sayings.initial_whole b) x = step-initial_whole b
  stepped (Sayings.initial_decimal b) x = step-initial_decimal b
  stepped (Sayings.initial_bits b) x = step-initial_bits b
  stepped (Sayings.truth b) x = step-truth b
  stepped (Sayings.whole b) x = step-whole b
  stepped (Sayings.decimal b) x = step-decimal b
  stepped (Sayings.bits b) x = step-bits b
  stepped (Sayings.unknown k) x = step-unknown k
  stepped Sayings.reads x = step-reads
  stepped Sayings.mentions x = step-mentions
  stepped Sayings.descends x = step-descends
  stepped (Sayings.asks w n k) x = step-asks w n k
  stepped Sayings.negates x = step-negates
  stepped (Sayings.operates o) x = step-operates o
  stepped Sayings.parenthesis x = step-parenthesis
  stepped Sayings.closes x = step-closes
  stepped Sayings.ends x = step-ends
