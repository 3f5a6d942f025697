-- What the bytes of an image stand for while the records of a text are laid into it, and where a reader of nodes stands.
use Rattle.std.specs.Prelude.{ℕ, ◌+◌, ◌*◌, ◌≤◌, ◌<◌, ◌≡◌, List, [], length, get_or}
use Rattle.plexil.specs.Assemble.{join}
use Rattle.notation.specs.Phrases.{Sayings}
use Rattle.notation.specs.Draft.{Variable, list, Node, Entry, Draft}
use Rattle.notation.specs.Hearing.{◌▸◌, parent_in, hear_all}
use Rattle.notation.specs.Mapping.{all_nodes, all_variables, all_lookups}
use Rattle.build.specs.Known.{Tables, Known}
use Rattle.build.specs.Standing.{entries_bytes, header, most_bytes}

-- the bytes x stand in the image from place n on
abbrev pub Holds : List ℕ → ℕ → List ℕ → Type 0
Holds image n x = (i : ℕ) → i < length x → get_or image (n + i) 0 ≡ get_or x i 0

-- where the entries, the variables and the lookups of a plan begin
abbrev pub entries_at : Draft → ℕ
entries_at d = 20 + 24 * length d.nodes

abbrev pub variables_at : Draft → ℕ
variables_at d = entries_at d + 16 * length d.entries

abbrev pub lookups_at : Draft → ℕ
lookups_at d = variables_at d + 16 * length d.variables

-- the header of a plan
abbrev pub head_of : Draft → List ℕ
head_of d = header (length d.nodes) (length d.entries) (length d.variables) (length d.lookups)

-- "N (1..256), .. E (0..2048), .. V (0..128), .. L (0..64)"
pub record Limited (d : Draft) : Type 0 where
  pub nodes : length d.nodes ≤ 256
  pub entries : length d.entries ≤ 2048
  pub variables : length d.variables ≤ 128
  pub lookups : length d.lookups ≤ 64

-- the image has the plan's header and lookups, and of its nodes, entries and variables these
pub record Laid (whole : Draft) (ns : List Node) (es : List Entry) (vs : List Variable) (image : List ℕ) : Type 0 where
  pub size : length image ≡ most_bytes
  pub sized : length (join (all_nodes whole 0 ns)) ≡ 24 * length ns
  pub few_nodes : length ns ≤ length whole.nodes
  pub few_entries : length es ≤ length whole.entries
  pub few_variables : length vs ≤ length whole.variables
  pub head : Holds image 0 (head_of whole)
  pub nodes : Holds image 20 (join (all_nodes whole 0 ns))
  pub entries : Holds image (entries_at whole) (entries_bytes whole es)
  pub variables : Holds image (variables_at whole) (join (all_variables vs))
  pub lookups : Holds image (lookups_at whole) (join (all_lookups whole.lookups))

-- what is fixed while a text is read: what its names mean, and where its sections begin
pub record Site (u : List ℕ) (whole : Draft) (t : Tables) (base vbase : ℕ) : Type 0 where
  pub known : Known u whole t
  pub limited : Limited whole
  pub rested : whole.pending ≡ []
  pub entries : base ≡ entries_at whole
  pub variables : vbase ≡ variables_at whole

-- outside an expression: the sayings l are to come, what was said before them is the draft d, and the nodes ns of it have their records; there are e entries and v variables
pub record Between (whole : Draft) (l : Sayings) (d : Draft) (ns : List Node) (e v : ℕ) (image : List ℕ) : Type 0 where
  pub leads : hear_all l d ≡ whole
  pub none : d.pending ≡ []
  pub free : d.held ≡ []
  pub laid : Laid whole ns d.entries d.variables image
  pub entries : e ≡ length d.entries
  pub variables : v ≡ length d.variables

-- the node after `before`, below the list p, is being told of: so far its priority is r and its conditions are g
pub record Current (d : Draft) (before : List Node) (p r : ℕ) (g : List ℕ) : Type 0 where
  pub current : Node
  pub nodes : d.nodes ≡ before ▸ current
  pub above : d.above ≡ p
  pub parent : current.parent ≡ p
  pub priority : current.priority ≡ r
  pub given : current.given ≡ g
  pub seven : length g ≡ 7
  pub plain : current.body ≡ list

-- the parents of the nodes ns are theirs among the nodes ms, too
pub record Keeps (ns ms : List Node) : Type 0 where
  pub many : length ns ≤ length ms
  pub parents : (i : ℕ) → i < length ns → parent_in ms i ≡ parent_in ns i
