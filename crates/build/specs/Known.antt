-- What is known of the text's names: the tables of its declarations, and the draft that they are of.
use Rattle.std.specs.Prelude.{ℕ, suc, ◌+◌, ◌≤◌, ◌<◌, ◌≡◌, List, [], ◌∷◌, length, get_or}
use Rattle.plexil.specs.Lists.{Found}
use Rattle.grammar.specs.Table.{Said}
use Rattle.notation.specs.Sayings.{Saying}
use Rattle.notation.specs.Draft.{Draft}
use Rattle.notation.specs.Hearing.{draft_of}
use Rattle.notation.specs.Names.{variable_of, lookup_of, command_of, node_up, node_down}
use Rattle.notation.specs.Mapping.{number_of, kind_of_variable, kind_of_lookup, number_of_command}
use Rattle.recognise.specs.declared.Cursor.{Cursor}
use Rattle.recognise.specs.Hears.{piece}
use Rattle.names.specs.declared.table.Told.{Told}
use Rattle.std.specs.Prelude.{Option, unwrap_or}
use Rattle.build.specs.declared.known.Source.{Source}
use Rattle.names.specs.Answers.{Accepted, tale_said, found_of}
use Rattle.names.specs.Tables.{Ready}

-- the tables as they are lent, and how many variables, lookups and commands there are
pub record Tables : Type 0 where
  pub from : List ℕ
  pub to : List ℕ
  pub owner : List ℕ
  pub kind : List ℕ
  pub told : Told

abbrev pub tables : List ℕ → List ℕ → List ℕ → List ℕ → Told → Tables
tables a b c d t = record { from = a; to = b; owner = c; kind = d; told = t }

abbrev pub tables_of : Source → Tables
tables_of s = tables s.names.from.now s.names.to.now s.names.owner.now s.kind.now s.names.told

pub record Known (u : List ℕ) (d : Draft) (t : Tables) : Type 0 where
  pub said : List (Said Saying)
  pub accepted : Accepted u said
  pub draft : draft_of said ≡ d
  pub ready : Ready u (tale_said said) t.from t.to t.owner t.told
  pub variables : t.told.variables ≡ length d.variables
  pub lookups : t.told.lookups ≡ length d.lookups
  pub few_variables : length d.variables ≤ 128
  pub few_lookups : length d.lookups ≤ 64
  pub variable_kinds : (i : ℕ) → i < length d.variables → get_or t.kind (320 + i) 0 ≡ kind_of_variable d.variables i
  pub lookup_kinds : (i : ℕ) → i < length d.lookups → get_or t.kind (256 + i) 0 ≡ kind_of_lookup d.lookups i
  pub command_numbers : (i : ℕ) → i < 256 → get_or t.kind i 0 ≡ number_of_command d.commands i

-- a cursor's token lies in the text
abbrev pub Lies : List ℕ → Cursor → Type 0
Lies u c = (c.from ≤ c.to) × (c.to ≤ length u)

-- a name at the node n means that variable
abbrev pub MeansVariable : List ℕ → Tables → ℕ → Cursor → ℕ → ℕ → Type 0
MeansVariable u t n c number kind =
    (d : Draft) → Known u d t → Lies u c → (number ≡ number_of (variable_of d n (piece u c.from c.to))) × (kind ≡ kind_of_variable d.variables (number_of (variable_of d n (piece u c.from c.to))))

abbrev pub MeansLookup : List ℕ → Tables → Cursor → ℕ → ℕ → Type 0
MeansLookup u t c number kind =
    (d : Draft) → Known u d t → Lies u c → (number ≡ number_of (lookup_of d (piece u c.from c.to))) × (kind ≡ kind_of_lookup d.lookups (number_of (lookup_of d (piece u c.from c.to))))

abbrev pub MeansCommand : List ℕ → Tables → Cursor → ℕ → Type 0
MeansCommand u t c number = (d : Draft) → Known u d t → Lies u c → number ≡ number_of_command d.commands (number_of (command_of d (piece u c.from c.to)))

-- what stands in the table from place `first` on, of `count` things, and 0 beyond them
abbrev pub StandsAt : List ℕ → ℕ → ℕ → ℕ → ℕ → Type 0
StandsAt kind first count i r = (f : ℕ → ℕ) → count + first ≤ 704 → ((j : ℕ) → j < count → get_or kind (first + j) 0 ≡ f j) → ((j : ℕ) → count ≤ j → f j ≡ 0) → r ≡ f i

-- the first part of a path at the node n, and each later part
abbrev pub MeansFirst : List ℕ → Tables → ℕ → Cursor → Option ℕ → Type 0
MeansFirst u t n c r = ((d : Draft) → Known u d t → n < 65535 → Lies u c → r ≡ found_of (node_up d (suc n) n (piece u c.from c.to))) × (unwrap_or r 0 < 18446744073709551615)

abbrev pub MeansPart : List ℕ → Tables → Option ℕ → Cursor → Option ℕ → Type 0
MeansPart u t m c r = ((d : Draft) (f : Found) → Known u d t → Lies u c → m ≡ found_of f → r ≡ found_of (node_down d f (piece u c.from c.to ∷ []))) × (unwrap_or r 0 < 18446744073709551615)
