-- What the functions that read nodes answer: each leaves the image with the records of what it has heard.
use Rattle.std.specs.Prelude.{ℕ, ◌-◌, ◌≤◌, ◌<◌, ◌≡◌, List, [], ◌∷◌, length}
use Rattle.plexil.specs.Assemble as Assemble
use Rattle.grammar.specs.Leads.{value_from}
use Rattle.grammar.specs.Table.{Said}
use Rattle.notation.specs.Sayings.{Saying}
use Rattle.notation.specs.Phrases.{Sayings, Expression, Initial, Attributes, Nodes}
use Rattle.notation.specs.Draft.{Variable, Node, Entry, Mentioned, Draft, with_initial}
use Rattle.notation.specs.Hearing.{◌▸◌, at_last, last, here, on_node, on_variable, into_slot, parent_in, no_conditions, hear}
use Rattle.notation.specs.Mapping.{kind_code, node_bytes}
use Rattle.recognise.specs.declared.Cursor.{Cursor}
use Rattle.build.specs.declared.attributes.Described.{Described}
use Rattle.build.specs.declared.nodes.Course.{Course}
use Rattle.build.specs.Flow.{code_of}
use Rattle.build.specs.Hearsay.{Hears, Heard}
use Rattle.build.specs.Known.{Tables}
use Rattle.build.specs.Standing.{within}
use Rattle.build.specs.Pendings.{places}
use Rattle.build.specs.Laying.{Limited, Laid, variables_at, Site, Between, Current, Keeps}

-- ---- records
-- the record of one more node, with these numbers, is laid
abbrev pub LaysNode : ℕ → ℕ → ℕ → ℕ → List ℕ → ℕ → ℕ → List ℕ → ℕ → List ℕ → Type 0
LaysNode n parent form priority given what value image r after =
    (whole : Draft) (ns : List Node) (es : List Entry) (vs : List Variable) (m : Node) → Limited whole → n ≡ length ns → length ns < length whole.nodes → Laid whole ns es vs image
    → node_bytes whole n m m.body ≡ Assemble.node parent form priority given what value → Laid whole (ns ▸ m) es vs after × (r ≡ length (ns ▸ m))

-- the record of one more variable, not known
abbrev pub LaysVariable : ℕ → ℕ → ℕ → ℕ → List ℕ → ℕ → List ℕ → Type 0
LaysVariable base n kind owner image r after =
    (whole : Draft) (ns : List Node) (es : List Entry) (vs : List Variable) (v : Variable) → Limited whole → base ≡ variables_at whole → n ≡ length vs → length vs < length whole.variables → Laid whole ns es vs image
    → kind_code v.kind ≡ kind → v.known ≡ 0 → v.owner ≡ owner → v.initial ≡ 0 → Laid whole ns es (vs ▸ v) after × (r ≡ length (vs ▸ v))

-- the initial value of the last variable
abbrev pub LaysInitial : ℕ → ℕ → ℕ → List ℕ → List ℕ → Type 0
LaysInitial base n w image after =
    (whole : Draft) (ns : List Node) (es : List Entry) (vs : List Variable) → Limited whole → base ≡ variables_at whole → n ≡ length vs → Laid whole ns es vs image
    → Laid whole ns es (at_last (with_initial w) vs) after

-- ---- a node's own
-- an expression is read to its end; A is asked of the array of what is pending, and B holds of it then
abbrev pub ExpressesBy : Type 0 → Type 0 → List ℕ → Tables → ℕ → ℕ → Cursor → ℕ → List ℕ → Cursor → ℕ → List ℕ → Type 0
ExpressesBy A B u t node base c count image r many after =
    (whole d : Draft) (ns : List Node) (l k : Sayings) (vbase v : ℕ) → A → Site u whole t base vbase → node ≡ here d → node < 65535 → Expression l k → length l ≤ length u → Hears u c l → Between whole l d ns count v image
    → (es : List Entry) × (ms : List Mentioned) × Hears u r k × Between whole k (on_node (into_slot d.slot (last es)) (within d es ms [])) ns many v after × (length k < length l) × B

abbrev pub Expresses : List ℕ → Tables → ℕ → ℕ → Cursor → ℕ → List ℕ → List ℕ → Cursor → ℕ → List ℕ → List ℕ → Type 0
Expresses u t node base c count a image r many b after = ExpressesBy (length a ≡ places) (length b ≡ places) u t node base c count image r many after

-- a priority
abbrev pub Ranks : List ℕ → Cursor → ℕ → Type 0
Ranks u c r = (w : Said Saying) → Heard u c w → c.says ≡ 19 → r ≡ value_from 0 w.token.bytes

-- an initial value
abbrev pub Begins : List ℕ → Cursor → ℕ → Type 0
Begins u c r = (w : Said Saying) (d : Draft) → Heard u c w → c.says ≡ code_of w.what → Initial w.what → hear w.what w.token d ≡ on_variable (with_initial r) d

-- the attributes of the node after `before` are being told, k follows the node; a saying of them has been heard, and fewer than `size` are left
pub record Telling (u : List ℕ) (whole : Draft) (before : List Node) (parent size : ℕ) (k : Sayings) (a : Described) (given image : List ℕ) : Type 0 where
  pub next : Said Saying
  pub later : Sayings
  pub draft : Draft
  pub heard : Heard u a.at next
  pub code : a.at.says ≡ code_of next.what
  pub hears : Hears u a.at later
  pub phrase : Attributes (next ∷ later) k
  pub short : length later < size
  pub current : Current draft before parent a.priority given
  pub between : Between whole (next ∷ later) draft before a.entries a.variables image

-- one attribute is told, and the next saying heard
abbrev pub Describes : List ℕ → Tables → ℕ → ℕ → ℕ → Described → List ℕ → List ℕ → List ℕ → Described → List ℕ → List ℕ → List ℕ → Type 0
Describes u t node base vbase a pending given image r pending' given' image' =
    (whole : Draft) (before : List Node) (parent size : ℕ) (k : Sayings) → length pending ≡ places → Site u whole t base vbase → node ≡ length before → size ≤ length u → 12 ≤ a.at.says → Telling u whole before parent size k a given image
    → Telling u whole before parent (size - 1) k r given' image' × (length pending' ≡ places)

-- ---- nodes and lists
-- a node has begun, of which nothing more has been told; fewer than `size` sayings are left, or as many
pub record Opened (u : List ℕ) (whole : Draft) (before : List Node) (parent size : ℕ) (k : Sayings) (c : Course) (image : List ℕ) : Type 0 where
  pub later : Sayings
  pub draft : Draft
  pub hears : Hears u c.at later
  pub phrase : Attributes later k
  pub short : length later ≤ size
  pub counted : c.nodes ≡ length before
  pub current : Current draft before parent 0 no_conditions
  pub between : Between whole later draft before c.entries c.variables image

-- its attributes are told, and what it is has been heard: a list, a command or an assignment
abbrev pub Attributed : List ℕ → Tables → ℕ → ℕ → ℕ → Course → List ℕ → List ℕ → List ℕ → Described → List ℕ → List ℕ → List ℕ → Type 0
Attributed u t base vbase left c pending given image r pending' given' image' =
    (whole : Draft) (before : List Node) (parent size : ℕ) (k : Sayings) → length pending ≡ places → Site u whole t base vbase → size ≤ left → left ≤ length u → given ≡ no_conditions → Opened u whole before parent size k c image
    → Telling u whole before parent size k r given' image' × (r.at.says < 12) × (length pending' ≡ places)

-- nodes that follow `before` have been read, with all that is in them, and the list that is open is the one they stand in; fewer than `size` sayings follow them
pub record Done (u : List ℕ) (whole : Draft) (before : List Node) (parent size : ℕ) (k : Sayings) (c : Course) (image : List ℕ) : Type 0 where
  pub draft : Draft
  pub hears : Hears u c.at k
  pub short : length k < size
  pub above : draft.above ≡ parent
  pub counted : c.nodes ≡ length draft.nodes
  pub keeps : Keeps before draft.nodes
  pub between : Between whole k draft draft.nodes c.entries c.variables image

-- a command or an assignment is read
abbrev pub Tasks : List ℕ → Tables → ℕ → ℕ → ℕ → ℕ → Described → List ℕ → List ℕ → List ℕ → Course → List ℕ → List ℕ → Type 0
Tasks u t node base vbase parent a pending given image r pending' after =
    (whole : Draft) (before : List Node) (size : ℕ) (k : Sayings) → length pending ≡ places → Site u whole t base vbase → node ≡ length before → size ≤ length u → (a.at.says ≡ 8 → ⊥) → a.at.says < 12
    → Telling u whole before parent size k a given image → Done u whole before parent size k r after × (length pending' ≡ places)

-- a node is read; A is asked of the array of what is pending, and B holds of it then
abbrev pub ReadsNodeBy : Type 0 → Type 0 → List ℕ → Tables → ℕ → ℕ → ℕ → ℕ → Course → List ℕ → Course → List ℕ → Type 0
ReadsNodeBy A B u t base vbase parent left c image r after =
    (whole : Draft) (before : List Node) (size : ℕ) (k : Sayings) → A → Site u whole t base vbase → size ≤ left → left ≤ length u → Opened u whole before parent size k c image → Done u whole before parent size k r after × B

abbrev pub ReadsNode : List ℕ → Tables → ℕ → ℕ → ℕ → ℕ → Course → List ℕ → List ℕ → Course → List ℕ → List ℕ → Type 0
ReadsNode u t base vbase parent left c pending image r pending' after = ReadsNodeBy (length pending ≡ places) (length pending' ≡ places) u t base vbase parent left c image r after

-- the list `list` is open, the nodes of it that are still to come are `later`, and the node of the list stands below `parent`
pub record Listing (u : List ℕ) (whole d : Draft) (list parent size : ℕ) (k : Sayings) (c : Course) (image : List ℕ) : Type 0 where
  pub later : Sayings
  pub hears : Hears u c.at later
  pub phrase : Nodes later k
  pub short : length later ≤ size
  pub counted : c.nodes ≡ length d.nodes
  pub above : d.above ≡ list
  pub inside : list < length d.nodes
  pub below : parent_in d.nodes list ≡ parent
  pub between : Between whole later d d.nodes c.entries c.variables image

-- the nodes of a list are read, to its end
abbrev pub ReadsList : List ℕ → Tables → ℕ → ℕ → ℕ → ℕ → Course → List ℕ → List ℕ → Course → List ℕ → List ℕ → Type 0
ReadsList u t base vbase list left c pending image r pending' after =
    (whole d : Draft) (parent size : ℕ) (k : Sayings) → length pending ≡ places → Site u whole t base vbase → size ≤ left → left ≤ length u → Listing u whole d list parent size k c image → Done u whole d.nodes parent size k r after × (length pending' ≡ places)
