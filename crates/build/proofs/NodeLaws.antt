-- Nodes and lists, from what is told of them.
use Prim.Native.Nat.{ℕ, zero, suc, ◌-◌, ◌≤◌, ◌<◌}
use mathlib.Core.Path.{◌≡◌, refl, sym, ◌∙◌, ap, ap₂, subst}
use mathlib.Core.List.{List, [], ◌∷◌}
use native.Mathlib.Omega.{arith}
use lib.ListN.{length}
use Rattle.plexil.specs.Assemble as Assemble
use Rattle.grammar.specs.Table.{Said}
use Rattle.notation.specs.Sayings.{Saying, names, begins, opens_list, closes_list, calls, assigns}
use Rattle.notation.specs.Phrases.{Sayings, Opening, named, unnamed, Attributes, Nodes}
use Rattle.notation.specs.Draft.{Node, Body, list, assignment, value, Draft, with_body}
use Rattle.notation.specs.Hearing as Hearing
use Rattle.notation.specs.Hearing.{◌▸◌, at_last, last, here, on_node, into_slot, parent_in, no_conditions, hear, hear_all}
use Rattle.notation.specs.Names.{command_of, variable_of}
use Rattle.notation.specs.Mapping.{number_of, number_of_command, node_bytes}
use Rattle.notation.proofs.OwnedHeard.{at-last}
use Rattle.recognise.specs.declared.Cursor.{Cursor}
use Rattle.names.proofs.ViewLaws.{length_last, length-snoc}
use Rattle.build.specs.declared.attributes.Described.{Described}
use Rattle.build.specs.declared.nodes.Course.{Course}
use Rattle.build.specs.Flow.{code_of}
use Rattle.build.specs.Hearsay.{Hears, Heard}
use Rattle.build.specs.Known.{Tables, MeansVariable, MeansCommand}
use Rattle.build.specs.Standing.{within}
use Rattle.build.specs.Steps.{Stepped}
use Rattle.build.specs.Laying.{Laid, Site, Between, Keeps}
use Rattle.build.specs.Telling.{LaysNode, ExpressesBy, Telling, Opened, Done, Listing}
use Rattle.build.proofs.Growing.{more-all}
use Rattle.build.proofs.AttributeViews.{is-list, is-command, is-assignment, first-node, is-closed, is-node}
use Rattle.build.proofs.AttributeLaws.{last-is, heard-so, node-here, last-changed}

-- ---- parents
parents-before : (ns : List Node) (n : Node) (i : ℕ) → i < length ns → parent_in (ns ▸ n) i ≡ parent_in ns i
unfolding parent_in ◌▸◌
parents-before [] n i h = absurd (omega arith)
parents-before (m ∷ ns) n zero h = refl
parents-before (m ∷ ns) n (suc i) h = parents-before ns n i (omega arith)

parent-last : (ns : List Node) (n : Node) → parent_in (ns ▸ n) (length ns) ≡ n.parent
unfolding parent_in ◌▸◌
parent-last [] n = refl
parent-last (m ∷ ns) n = parent-last ns n

keeps-more : (ns : List Node) (n : Node) → Keeps ns (ns ▸ n)
keeps-more ns n = record { many = omega (arith, length-snoc ns n); parents = parents-before ns n }

pub keeps_same : (ns : List Node) → Keeps ns ns
keeps_same ns = record { many = omega arith; parents = λ i h. refl }

pub keeps-all : (ns ms os : List Node) → Keeps ns ms → Keeps ms os → Keeps ns os
keeps-all ns ms os a b = record { many = omega (arith, a.many, b.many); parents = λ i h. b.parents i (omega (arith, a.many)) ∙ a.parents i h }

-- ---- what a node is
alike : {p q r s : ℕ} {g h : List ℕ} (form what val : ℕ) → p ≡ q → r ≡ s → g ≡ h → Assemble.node p form r g what val ≡ Assemble.node q form s h what val
alike form what val e f i = rw (e, f, i) refl

module _ (u : List ℕ) (whole : Draft) (before : List Node) (parent size : ℕ) (k : Sayings) (a : Described) (g image : List ℕ) (t : Telling u whole before parent size k a g image) where
  cur : Node
  cur = t.current.current

  -- there is room for the node
  room : length before < length whole.nodes
  room = omega (arith, (more-all (t.next ∷ t.later) t.draft).0, ap (λ q. length q.nodes) t.between.leads, ap length t.current.nodes, length-snoc before t.current.current)

  numbers : (form what val : ℕ) → Assemble.node cur.parent form cur.priority cur.given what val ≡ Assemble.node parent form a.priority g what val
  unfolding cur
  numbers form what val = alike form what val t.current.parent t.current.priority t.current.given

  -- a command
  pub done-command : (node base vbase what n : ℕ) (tb : Tables) (after : List ℕ) → Site u whole tb base vbase → node ≡ length before → a.at.says ≡ 10 → MeansCommand u tb a.at what
      → LaysNode node parent 1 a.priority g what 65535 image n after
      → Done u whole before parent size k (record { at = a.at; nodes = n; entries = a.entries; variables = a.variables }) after
  unfolding hear on_node Hearing.mentioning node_bytes cur
  done-command node base vbase what n tb after site e s means lays =
      let y = is-command t.phrase (sym t.code ∙ s) in
      let d : Draft = hear calls t.next.token t.draft in
      let x = t.next.token.bytes in
      let f = with_body (Body.command x) in
      let m : what ≡ number_of_command whole.commands (number_of (command_of whole x)) = means whole site.known (t.heard.ordered, t.heard.inside) ∙ ap (λ b. number_of_command whole.commands (number_of (command_of whole b))) t.heard.just.bytes in
      let z = lays whole before t.draft.entries t.draft.variables (f cur) site.limited e room t.between.laid (numbers 1 _ 65535 ∙ ap (λ w. Assemble.node parent 1 a.priority g w 65535) (sym m)) in
      let q : d.nodes ≡ before ▸ f cur = last-changed u whole before parent size k a g image t f in
      record {
        draft = d;
        hears = subst (Hears u a.at) y.1 t.hears;
        short = omega (arith, t.short, ap length y.1);
        above = t.current.above;
        counted = z.1 ∙ ap length (sym q);
        keeps = subst (Keeps before) (sym q) (keeps-more before (f cur));
        between = record {
          leads = ap (λ m. hear_all m d) (sym y.1) ∙ heard-so u whole before parent size k a g image t calls y.0;
          none = t.between.none;
          free = t.between.free;
          laid = subst (λ ns. Laid whole ns t.draft.entries t.draft.variables after) (sym q) z.0;
          entries = t.between.entries;
          variables = t.between.variables;
        };
      }

  -- an assignment
  pub done-assignment : (node base vbase target many e n : ℕ) (r : Cursor) (tb : Tables) (after end : List ℕ) {A B : Type 0} → A → Site u whole tb base vbase → node ≡ length before → size ≤ length u → (a.at.says ≡ 8 → ⊥) → (a.at.says ≡ 10 → ⊥) → a.at.says < 12
      → (kind : ℕ) → MeansVariable u tb node a.at target kind → ExpressesBy A B u tb node base a.at a.entries image r many after → e ≡ many - 1 → LaysNode node parent 2 a.priority g target e after n end
      → Done u whole before parent size k (record { at = r; nodes = n; entries = many; variables = a.variables }) end × B
  unfolding hear on_node Hearing.mentioning into_slot node_bytes cur last
  done-assignment node base vbase target many e n r tb after end room' site h short not8 not10 low kind means expr le lays =
      let y = is-assignment t.phrase (λ z. not8 (t.code ∙ z)) (λ z. not10 (t.code ∙ z)) (omega (arith, t.code)) in
      let x = t.next.token.bytes in
      let d : Draft = hear assigns t.next.token t.draft in
      let here-is : node ≡ here d = h ∙ sym (here-same x) in
      let z = expr whole d before t.later k vbase a.variables room' site here-is (omega (arith, room, site.limited.nodes)) y.1 (omega (arith, t.short)) t.hears
      (record { leads = heard-so u whole before parent size k a g image t assigns y.0; none = t.between.none; free = t.between.free; laid = t.between.laid; entries = t.between.entries; variables = t.between.variables }) in
      let es = z.0 in
      let f : Node → Node = λ q. with_body (assignment x (last es)) q in
      let m : target ≡ number_of (variable_of whole node x) = (means whole site.known (t.heard.ordered, t.heard.inside)).0 ∙ ap (λ b. number_of (variable_of whole node b)) t.heard.just.bytes in
      let v = lays whole before es t.draft.variables (f cur) site.limited h room z.3.laid
      (numbers 2 _ (last es) ∙ ap₂ (λ w l. Assemble.node parent 2 a.priority g w l) (sym m) (last-is es many e z.3.entries le)) in
      let q : at_last (into_slot value (last es)) (at_last (with_body (assignment x 0)) t.draft.nodes) ≡ before ▸ f cur =
      ap (at_last (into_slot value (last es))) (last-changed u whole before parent size k a g image t (with_body (assignment x 0))) ∙ at-last (into_slot value (last es)) before (with_body (assignment x 0) cur) in (
        record {
          draft = on_node (into_slot value (last es)) (within d es z.1 []);
          hears = z.2;
          short = omega (arith, t.short, z.4);
          above = t.current.above;
          counted = v.1 ∙ ap length (sym q);
          keeps = subst (Keeps before) (sym q) (keeps-more before (f cur));
          between = record {
            leads = z.3.leads;
            none = refl;
            free = refl;
            laid = subst (λ ns. Laid whole ns es t.draft.variables end) (sym q) v.0;
            entries = z.3.entries;
            variables = z.3.variables;
          };
        },
        z.5,
      )
    where
      here-same : (x : List ℕ) → last (at_last (with_body (assignment x 0)) t.draft.nodes) ≡ length before
      here-same x = ap (λ n. n - 1) (length_last (with_body (assignment x 0)) t.draft.nodes) ∙ node-here u whole before parent size k a g image t

  -- a list opens
  pub list-opens : (node base vbase n : ℕ) (tb : Tables) (after : List ℕ) → Site u whole tb base vbase → node ≡ length before → a.at.says ≡ 8 → LaysNode node parent 0 a.priority g 65535 65535 image n after
      → (d : Draft) × Listing u whole d node parent (size - 1) k (record { at = a.at; nodes = n; entries = a.entries; variables = a.variables }) after × Keeps before d.nodes
  unfolding hear node_bytes cur hear_all
  list-opens node base vbase n tb after site e s lays =
      let y = is-list t.phrase (sym t.code ∙ s) in
      let d : Draft = hear opens_list t.next.token t.draft in
      let q : t.draft.nodes ≡ before ▸ cur = t.current.nodes in
      let z = lays whole before t.draft.entries t.draft.variables cur site.limited e room t.between.laid (ap (node_bytes whole node cur) t.current.plain ∙ numbers 0 65535 65535) in (
        d,
        record {
          later = t.later;
          hears = t.hears;
          phrase = y.1;
          short = omega (arith, t.short);
          counted = z.1 ∙ ap length (sym q);
          above = node-here u whole before parent size k a g image t ∙ sym e;
          inside = omega (arith, ap length q, length-snoc before cur);
          below = ap₂ parent_in q e ∙ parent-last before cur ∙ t.current.parent;
          between = record {
            leads = heard-so u whole before parent size k a g image t opens_list y.0;
            none = t.between.none;
            free = t.between.free;
            laid = subst (λ ns. Laid whole ns t.draft.entries t.draft.variables after) (sym q) z.0;
            entries = t.between.entries;
            variables = t.between.variables;
          };
        },
        subst (Keeps before) (sym q) (keeps-more before cur),
      )

-- ---- a node begins
-- the node w below the list that is open
pub opens-so : (u : List ℕ) (whole d : Draft) (parent size : ℕ) (c : Course) (image : List ℕ) (w : Said Saying) (l m : Sayings) → Opening w.what → Attributes l m → Hears u c.at l → length l ≤ size → c.nodes ≡ length d.nodes
    → d.above ≡ parent → Between whole (w ∷ l) d d.nodes c.entries c.variables image → Opened u whole d.nodes parent size m c image
unfolding hear hear_all Hearing.mentioning Hearing.next_node
opens-so u whole d parent size c image w l m o x hears short counted above b = by w.what refl o
  where
    begun : (q : Draft) (name : List ℕ) → q.nodes ≡ d.nodes ▸ record { name = name; place = w.token.place; parent = d.above; level = suc d.depth; priority = 0; given = no_conditions; body = list }
        → q.above ≡ parent → Between whole l q d.nodes c.entries c.variables image → Opened u whole d.nodes parent size m c image
    begun q name e f t =
        record {
          later = l;
          draft = q;
          hears = hears;
          phrase = x;
          short = short;
          counted = counted;
          current = record { current = record { name = name; place = w.token.place; parent = d.above; level = suc d.depth; priority = 0; given = no_conditions; body = list }; nodes = e; above = f; parent = above; priority = refl; given = refl; seven = refl; plain = refl };
          between = t;
        }

    by : (y : Saying) → w.what ≡ y → Opening y → Opened u whole d.nodes parent size m c image
    by _ e named =
        begun (hear names w.token d) w.token.bytes refl above
        (record { leads = ap (λ z. hear_all l (hear z w.token d)) (sym e) ∙ b.leads; none = b.none; free = b.free; laid = b.laid; entries = b.entries; variables = b.variables })
    by _ e unnamed =
        begun (hear begins w.token d) [] refl above
        (record { leads = ap (λ z. hear_all l (hear z w.token d)) (sym e) ∙ b.leads; none = b.none; free = b.free; laid = b.laid; entries = b.entries; variables = b.variables })

-- ---- the nodes of a list
-- what has been read after the nodes ms has been read after the nodes before them
pub done-in : {u : List ℕ} {whole : Draft} {ns ms : List Node} {parent size sizes : ℕ} {k : Sayings} {c : Course} {image : List ℕ} → Keeps ns ms → size ≤ sizes → Done u whole ms parent size k c image → Done u whole ns parent sizes k c image
done-in {ns = ns} {ms = ms} h l x =
    record { draft = x.draft; hears = x.hears; short = omega (arith, x.short); above = x.above; counted = x.counted; keeps = keeps-all ns ms x.draft.nodes h x.keeps; between = x.between }

module _ (u : List ℕ) (whole d : Draft) (parent node size : ℕ) (k : Sayings) (c : Course) (image : List ℕ) (t : Listing u whole d node parent size k c image) (r : Cursor) (st : Stepped u c.at r) where
  -- what is heard next in the list
  heard-next : (w : Said Saying) × (l : Sayings) × Nodes (w ∷ l) k × Heard u r w × Hears u r l × (r.says ≡ code_of w.what) × (hear_all (w ∷ l) d ≡ whole) × (suc (length l) ≤ size)
  heard-next =
      let f = first-node t.phrase in
      let s = st.more f.0 f.1 (subst (Hears u c.at) f.2 t.hears) f.3 in
      (f.0, f.1, subst (λ y. Nodes y k) f.2 t.phrase, s.0, s.1, s.2, ap (λ y. hear_all y d) (sym f.2) ∙ t.between.leads, omega (arith, ap length f.2, t.short))

  -- its end
  pub list-ends : r.says ≡ 9 → Done u whole d.nodes parent size k (record { at = r; nodes = c.nodes; entries = c.entries; variables = c.variables }) image
  unfolding hear hear_all
  list-ends e =
      let n = heard-next in
      let y = is-closed n.2 (sym n.5 ∙ e) in
      let q : Draft = hear closes_list n.0.token d in
      record {
        draft = q;
        hears = subst (Hears u r) y.1 n.4;
        short = omega (arith, n.7, ap length y.1);
        above = ap (parent_in d.nodes) t.above ∙ t.below;
        counted = t.counted;
        keeps = keeps_same d.nodes;
        between = record {
          leads = ap (λ m. hear_all m q) (sym y.1) ∙ ap (λ x. hear_all n.1 (hear x n.0.token d)) (sym y.0) ∙ n.6;
          none = t.between.none;
          free = t.between.free;
          laid = t.between.laid;
          entries = t.between.entries;
          variables = t.between.variables;
        };
      }

  -- a node begins, and the others follow it
  pub node-begins : (r.says ≡ 9 → ⊥) → (m : Sayings) × Opened u whole d.nodes node (size - 1) m (record { at = r; nodes = c.nodes; entries = c.entries; variables = c.variables }) image × Nodes m k
  node-begins f =
      let n = heard-next in
      let y = is-node n.2 (λ z. f (n.5 ∙ z)) in (
        y.1,
        opens-so u whole d node (size - 1) (record { at = r; nodes = c.nodes; entries = c.entries; variables = c.variables }) image n.0 n.1 y.1 y.0 y.2 n.4 (omega (arith, n.7)) t.counted t.above
            (record { leads = n.6; none = t.between.none; free = t.between.free; laid = t.between.laid; entries = t.between.entries; variables = t.between.variables }),
        y.3,
      )

-- the list goes on after a node
pub list-goes : {u : List ℕ} {whole d : Draft} {parent node size : ℕ} {k m : Sayings} {c r : Course} {image after : List ℕ} → Listing u whole d node parent size k c image → Nodes m k → (x : Done u whole d.nodes node (size - 1) m r after)
    → Listing u whole x.draft node parent (size - 1) k r after
list-goes {node = node} {m = m} t n x =
    record {
      later = m;
      hears = x.hears;
      phrase = n;
      short = omega (arith, x.short);
      counted = x.counted;
      above = x.above;
      inside = omega (arith, t.inside, x.keeps.many);
      below = x.keeps.parents node t.inside ∙ t.below;
      between = x.between;
    }

-- with more left than there may be
pub listing-on : {u : List ℕ} {whole d : Draft} {parent node size sizes : ℕ} {k : Sayings} {c : Course} {image : List ℕ} → size ≤ sizes → Listing u whole d node parent size k c image → Listing u whole d node parent sizes k c image
listing-on h t = record { later = t.later; hears = t.hears; phrase = t.phrase; short = omega (arith, t.short); counted = t.counted; above = t.above; inside = t.inside; below = t.below; between = t.between }

-- a list has its end still to come
pub some_left : {u : List ℕ} {whole d : Draft} {parent node size : ℕ} {k : Sayings} {c : Course} {image : List ℕ} → Listing u whole d node parent size k c image → 0 < size
some_left t = omega (arith, t.short, ap length (first-node t.phrase).2)
