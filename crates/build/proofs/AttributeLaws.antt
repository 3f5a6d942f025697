-- What is told of a node, one attribute after another.
use Prim.Native.Nat.{ℕ, ◌+◌, ◌-◌, ◌≤◌, ◌<◌}
use mathlib.Core.Path.{◌≡◌, refl, sym, ◌∙◌, ap, ap₂, subst}
use mathlib.Core.Bool.{true}
use mathlib.Core.List.{List, [], ◌∷◌}
use native.Mathlib.Omega.{arith}
use lib.ListN.{length, set, length-set}
use Rattle.plexil.specs.Lists.{put}
use Rattle.grammar.specs.Leads.{is_number, value_from}
use Rattle.grammar.specs.Table.{Said}
use Rattle.notation.specs.Sayings.{Kind, Saying, conditions, ranks, declares_variable, ends}
use Rattle.notation.specs.Phrases.{Sayings, Says, Attributes}
use Rattle.notation.specs.Draft.{Variable, Node, Entry, Mentioned, condition, Draft, with_slot, with_priority, with_given, with_initial}
use Rattle.notation.specs.Hearing as Hearing
use Rattle.notation.specs.Hearing.{◌▸◌, at_last, last, here, on_node, on_variable, into_slot, no_conditions, hear, hear_all}
use Rattle.notation.specs.Mapping.{kind_code}
use Rattle.notation.proofs.OwnedHeard.{at-last}
use Rattle.recognise.specs.declared.Cursor.{Cursor}
use Rattle.recognise.specs.Codes as Codes
use Rattle.recognise.specs.Codes.{say_of}
use Rattle.recognise.specs.Hears.{piece}
use Rattle.names.proofs.ViewLaws.{length_last, length-snoc}
use Rattle.build.specs.declared.attributes.Described.{Described}
use Rattle.build.specs.declared.nodes.Course.{Course}
use Rattle.build.specs.Flow.{of_kind}
use Rattle.build.specs.Hearsay.{Hears, Apt}
use Rattle.build.specs.Known.{Tables}
use Rattle.build.specs.Standing.{Scene, Fair, within, entries_bytes}
use Rattle.build.specs.Steps.{Stepped, Due}
use Rattle.build.specs.Pendings.{ReadsBy}
use Rattle.build.specs.Literals.{word_of, WordAt}
use Rattle.build.specs.Laying.{entries_at, Site, Between, Current}
use Rattle.build.specs.Telling.{LaysVariable, LaysInitial, ExpressesBy, Ranks, Begins, Telling, Opened}
use Rattle.build.proofs.Phrased.{expression-due}
use Rattle.build.proofs.EntryLaws.{entries-length}
use Rattle.build.proofs.Growth.{grows}
use Rattle.build.proofs.Growing.{more-all}
use Rattle.build.proofs.HoldLaws.{holds_same}
use Rattle.build.proofs.LayLaws.{lay-entries}
use Rattle.build.proofs.AttributeViews.{condition-few, first_said, is-condition, is-rank, is-variable, is-initial, is-end, likewise}

-- ---- expressions
within-self : (d : Draft) → d.pending ≡ [] → d.held ≡ [] → within d d.entries d.mentions [] ≡ d
within-self d e f =
    ap₂ (λ p h. record { commands = d.commands; lookups = d.lookups; nodes = d.nodes; variables = d.variables; entries = d.entries; mentions = d.mentions; above = d.above; depth = d.depth; slot = d.slot; pending = p; held = h }) (sym e) (sym f)

-- the end of an expression of which nothing is pending
ends-so : (w : Said Saying) (l : Sayings) (d : Draft) (es : List Entry) (ms : List Mentioned) → Says w ends → hear_all (w ∷ l) (within d es ms []) ≡ hear_all l (on_node (into_slot d.slot (last es)) (within d es ms []))
unfolding hear_all hear Hearing.settled Hearing.settle_name Hearing.end_operators Hearing.ending Hearing.waiting
ends-so w l d es ms e = ap (λ x. hear_all l (hear x w.token (within d es ms []))) e

pub expressed : (u : List ℕ) (t : Tables) (node base : ℕ) (c r : Cursor) (count many : ℕ) (image after : List ℕ) {A B : Type 0} → ReadsBy A B u t node base (length u) c count image r many after → ExpressesBy A B u t node base c count image r many after
unfolding on_node
expressed u t node base c r count many image after reads whole d ns l k vbase v room site here' small x short hears b =
    let a = b.laid in
    let s : Scene = record { whole = whole; start = d; rest = k; under = image } in
    let low : base ≤ 6164 = omega (arith, site.entries, site.limited.nodes) in
    let fair : Fair s node base = record { ours = sym here'; small = small; room = a.size; low = low; few = site.limited.entries } in
    let stood : image ≡ put image base (entries_bytes whole d.entries) =
    subst (λ n. image ≡ put image n (entries_bytes whole d.entries)) (sym site.entries)
    (holds_same image (entries_at whole) (entries_bytes whole d.entries) (omega (arith, entries-length whole d.entries, a.few_entries, a.size, site.limited.nodes, site.limited.entries)) a.entries) in
    let due : Due u s base 0 [] (length l) c count image =
    record { later = l; entries = d.entries; mentioned = d.mentions; hears = hears; before = expression-due x; leads = ap (hear_all l) (within-self d b.none b.free) ∙ b.leads; stands = record { bytes = stood; counted = b.entries }; short = omega arith } in
    let y = reads s (length l) room site.known fair site.rested short due in
    let p = y.0 in
    let z = is-end p.after y.1 in
    let es = p.entries in
    let ms = p.mentioned in
    let leads : hear_all k (on_node (into_slot d.slot (last es)) (within d es ms [])) ≡ whole =
    ap (λ m. hear_all m (on_node (into_slot d.slot (last es)) (within d es ms []))) (sym z.1) ∙ sym (ends-so p.next p.later d es ms z.0) ∙ p.leads in
    let few : length es ≤ length whole.entries = omega (arith, grows (p.next ∷ p.later) (within d es ms []), ap (λ x. length x.entries) p.leads) in (
      es,
      ms,
      subst (Hears u r) z.1 p.hears,
      record {
        leads = leads;
        none = refl;
        free = refl;
        laid = lay-entries whole ns d.entries d.variables image site.limited a es after few (p.stands.bytes ∙ ap (λ n. put image n (entries_bytes whole es)) site.entries);
        entries = p.stands.counted;
        variables = b.variables;
      },
      omega (arith, p.short, ap length z.1),
      y.2,
    )

-- ---- priorities and initial values
rank-apt : (t : List ℕ) → Apt ranks t → (is_number t ≡ true) × (value_from 0 t ≤ 65535)
unfolding Apt
rank-apt t a = a

pub ranked : (u : List ℕ) (c : Cursor) (r : ℕ) → (is_number (piece u c.from c.to) ≡ true → value_from 0 (piece u c.from c.to) ≤ 9223372036854775808 → r ≡ value_from 0 (piece u c.from c.to)) → Ranks u c r
ranked u c r h w heard e =
    let what : w.what ≡ ranks = sym heard.just.what ∙ ap say_of e ∙ (unfold Codes.opened in refl) in
    let q = rank-apt (piece u c.from c.to) (subst (Apt ranks) (sym heard.just.bytes) (subst (λ x. Apt x w.token.bytes) what heard.apt)) in
    h q.0 (omega (arith, q.1)) ∙ ap (value_from 0) heard.just.bytes

pub begun : (u : List ℕ) (c : Cursor) (n r : ℕ) → n ≡ c.says + 8 → WordAt u n c.from c.to r → Begins u c r
begun u c n r e h w d heard code x =
    let y = likewise w.what w.token x in
    let v = h y.leaf y.is (omega (arith, y.code)) (omega (arith, y.low)) heard.ordered heard.inside (subst (Apt y.leaf) (sym heard.just.bytes) (y.apt heard.apt)) in
    y.hears d ∙ ap (λ z. on_variable (with_initial z) d) (ap (word_of y.leaf) (sym heard.just.bytes) ∙ sym v)

-- ---- the steps
kind-is : (a : Kind) → kind_code a ≡ of_kind a
unfolding kind_code of_kind
kind-is Kind.boolean = refl
kind-is Kind.integer = refl
kind-is Kind.float = refl

pub last-is : (es : List Entry) (many e : ℕ) → many ≡ length es → e ≡ many - 1 → last es ≡ e
unfolding last
last-is es many e h f = ap (λ n. n - 1) (sym h) ∙ sym f

module _ (u : List ℕ) (whole : Draft) (before : List Node) (parent : ℕ) where
  -- the saying that is heard next
  pub told-next : (l k : Sayings) (d : Draft) (size : ℕ) (c : Cursor) (a : Described) (g image : List ℕ) → Hears u c l → Attributes l k → length l ≤ size → Current d before parent a.priority g
      → Between whole l d before a.entries a.variables image → Stepped u c a.at → Telling u whole before parent size k a g image
  told-next l k d size c a g image hears x short cur b st =
      let f = first_said x in
      let s = st.more f.0 f.1 (subst (Hears u c) f.2 hears) f.3 in
      record {
        next = f.0;
        later = f.1;
        draft = d;
        heard = s.0;
        code = s.2;
        hears = s.1;
        phrase = subst (λ y. Attributes y k) f.2 x;
        short = omega (arith, ap length f.2);
        current = cur;
        between = subst (λ y. Between whole y d before a.entries a.variables image) f.2 b;
      }

  module _ (size : ℕ) (k : Sayings) (a : Described) (g image : List ℕ) (t : Telling u whole before parent size k a g image) where
    small : (i : ℕ) → t.next.what ≡ conditions i → i < 7
    small = condition-few u a.at t.next t.heard

    -- the draft with the saying at hand heard
    pub heard-so : (x : Saying) → Says t.next x → hear_all t.later (hear x t.next.token t.draft) ≡ whole
    unfolding hear_all
    heard-so x e = ap (λ y. hear_all t.later (hear y t.next.token t.draft)) (sym e) ∙ t.between.leads

    -- the node is the last of the draft's
    pub node-here : here t.draft ≡ length before
    unfolding last
    node-here = omega (arith, ap length t.current.nodes, length-snoc before t.current.current)

    pub last-changed : (f : Node → Node) → at_last f t.draft.nodes ≡ before ▸ f t.current.current
    last-changed f = ap (at_last f) t.current.nodes ∙ at-last f before t.current.current

    -- a priority
    pub told-rank : (r : Cursor) (v : ℕ) → a.at.says ≡ 19 → Ranks u a.at v → Stepped u a.at r
        → Telling u whole before parent (size - 1) k (record { at = r; entries = a.entries; variables = a.variables; priority = v }) g image
    unfolding on_node hear
    told-rank r v s h st =
        let y = is-rank t.phrase small (sym t.code ∙ s) in
        let d : Draft = on_node (with_priority (value_from 0 t.next.token.bytes)) t.draft in
        told-next t.later k d (size - 1) a.at _ g image t.hears y.1 (omega (arith, t.short))
        (record { current = with_priority (value_from 0 t.next.token.bytes) t.current.current; nodes = last-changed (with_priority (value_from 0 t.next.token.bytes)); above = t.current.above; parent = t.current.parent; priority = sym (h t.next t.heard s); given = t.current.given; seven = t.current.seven; plain = t.current.plain })
        (record { leads = heard-so ranks y.0; none = t.between.none; free = t.between.free; laid = t.between.laid; entries = t.between.entries; variables = t.between.variables }) st

    -- a variable
    pub told-variable : (r : Cursor) (node base kind n : ℕ) (tb : Tables) (ebase : ℕ) (after : List ℕ) → Site u whole tb ebase base → node ≡ length before → 20 ≤ a.at.says → a.at.says < 23 → kind ≡ a.at.says - 20
        → LaysVariable base a.variables kind node image n after → Stepped u a.at r
        → Telling u whole before parent (size - 1) k (record { at = r; entries = a.entries; variables = n; priority = a.priority }) g after
    unfolding hear Hearing.mentioning
    told-variable r node base kind n tb ebase after site e lo hi kd h st =
        let y = is-variable t.phrase small (omega (arith, t.code)) (omega (arith, t.code)) in
        let x : Saying = declares_variable y.0 in
        let d : Draft = hear x t.next.token t.draft in
        let v : Variable = record { name = t.next.token.bytes; kind = y.0; owner = here t.draft; known = 0; initial = 0 } in
        let fewer : length t.draft.variables < length whole.variables =
        omega (arith, (more-all t.later d).1, length-snoc t.draft.variables v, ap (λ z. length z.variables) (heard-so x y.1)) in
        let z = h whole before t.draft.entries t.draft.variables v site.limited site.variables t.between.variables fewer t.between.laid
        (kind-is y.0 ∙ omega (arith, y.2, t.code)) refl (node-here ∙ sym e) refl in
        told-next t.later k d (size - 1) a.at _ g after t.hears y.3 (omega (arith, t.short))
        (record { current = t.current.current; nodes = t.current.nodes; above = t.current.above; parent = t.current.parent; priority = t.current.priority; given = t.current.given; seven = t.current.seven; plain = t.current.plain })
        (record { leads = heard-so x y.1; none = t.between.none; free = t.between.free; laid = z.0; entries = t.between.entries; variables = z.1 }) st

    -- its initial value
    pub told-initial : (r : Cursor) (base w : ℕ) (tb : Tables) (ebase : ℕ) (after : List ℕ) → Site u whole tb ebase base → 23 ≤ a.at.says → Begins u a.at w → LaysInitial base a.variables w image after → Stepped u a.at r
        → Telling u whole before parent (size - 1) k (record { at = r; entries = a.entries; variables = a.variables; priority = a.priority }) g after
    unfolding on_variable hear_all
    told-initial r base w tb ebase after site lo b h st =
        let y = is-initial t.phrase small (omega (arith, t.code)) in
        let d : Draft = on_variable (with_initial w) t.draft in
        let z = h whole before t.draft.entries t.draft.variables site.limited site.variables t.between.variables t.between.laid in
        told-next t.later k d (size - 1) a.at _ g after t.hears y.1 (omega (arith, t.short))
        (record { current = t.current.current; nodes = t.current.nodes; above = t.current.above; parent = t.current.parent; priority = t.current.priority; given = t.current.given; seven = t.current.seven; plain = t.current.plain })
        (record { leads = ap (hear_all t.later) (sym (b t.next t.draft t.heard t.code y.0)) ∙ t.between.leads; none = t.between.none; free = t.between.free; laid = z; entries = t.between.entries; variables = t.between.variables ∙ sym (length_last (with_initial w) t.draft.variables) }) st

    -- a condition
    pub told-condition : (c r : Cursor) (node base vbase many e : ℕ) (tb : Tables) (after : List ℕ) {A B : Type 0} → A → Site u whole tb base vbase → node ≡ length before → size ≤ length u → 12 ≤ a.at.says → a.at.says < 19
        → ExpressesBy A B u tb node base a.at a.entries image c many after → e ≡ many - 1 → Stepped u c r
        → Telling u whole before parent (size - 1) k (record { at = r; entries = many; variables = a.variables; priority = a.priority }) (set g (a.at.says - 12) e) after × B
    unfolding on_node hear into_slot
    told-condition c r node base vbase many e tb after room site n m lo hi h le st =
        let y = is-condition t.phrase (omega (arith, t.code)) (omega (arith, t.code)) in
        let i : ℕ = y.0 in
        let x : Saying = conditions i in
        let d : Draft = with_slot (condition i) t.draft in
        let p : a.at.says - 12 ≡ i = omega (arith, t.code, y.2) in
        let z = h whole d before t.later y.3 vbase a.variables room site (n ∙ sym node-here) (omega (arith, (more-all (t.next ∷ t.later) t.draft).0, ap (λ q. length q.nodes) t.between.leads, ap length t.current.nodes, length-snoc before t.current.current, site.limited.nodes)) y.4 (omega (arith, t.short)) t.hears
        (record { leads = heard-so x y.1; none = t.between.none; free = t.between.free; laid = t.between.laid; entries = t.between.entries; variables = t.between.variables }) in
        let es = z.0 in
        let now : Node = with_given (set t.current.current.given i (last es)) t.current.current in
        let same : set t.current.current.given i (last es) ≡ set g (a.at.says - 12) e = ap₂ (λ q j. set q j (last es)) t.current.given (sym p) ∙ ap (set g (a.at.says - 12)) (last-is es many e z.3.entries le) in (
          told-next y.3 k _ (size - 1) c _ (set g (a.at.says - 12) e) after z.2 y.5 (omega (arith, t.short, z.4))
              (record { current = now; nodes = last-changed (λ q. with_given (set q.given i (last es)) q); above = t.current.above; parent = t.current.parent; priority = t.current.priority; given = same; seven = length-set g (a.at.says - 12) e ∙ t.current.seven; plain = t.current.plain })
              z.3 st,
          z.5,
        )

-- with more left than there may be
pub told-on : {u : List ℕ} {whole : Draft} {before : List Node} {parent : ℕ} {k : Sayings} {a : Described} {g image : List ℕ} {size sizes : ℕ} → size ≤ sizes → Telling u whole before parent size k a g image → Telling u whole before parent sizes k a g image
told-on h t =
    record { next = t.next; later = t.later; draft = t.draft; heard = t.heard; code = t.code; hears = t.hears; phrase = t.phrase; short = omega (arith, t.short); current = t.current; between = t.between }

-- a node that has begun
pub told-first : {u : List ℕ} {whole : Draft} {before : List Node} {parent : ℕ} {k : Sayings} {c : Course} {g image : List ℕ} {size : ℕ} {r : Cursor} → Opened u whole before parent size k c image → g ≡ no_conditions → Stepped u c.at r
    → Telling u whole before parent size k (record { at = r; entries = c.entries; variables = c.variables; priority = 0 }) g image
told-first {u} {whole} {before} {parent} {k} {c} {g} {image} {size} {r} o e st =
    told-next u whole before parent o.later k o.draft size c.at _ g image o.hears o.phrase o.short (subst (Current o.draft before parent 0) (sym e) o.current) o.between st
