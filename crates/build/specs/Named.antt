-- Operands that are names.
use Rattle.std.specs.Prelude.{ℕ, ◌≤◌, ◌<◌, ◌≡◌, List, [], ◌∷◌, length}
use Rattle.grammar.specs.Spelling.{Placed}
use Rattle.grammar.specs.Table.{Said}
use Rattle.notation.specs.Sayings.{Saying}
use Rattle.notation.specs.Phrases.{Sayings, Path}
use Rattle.notation.specs.Draft.{Entry, Mentioned, Pending, Draft}
use Rattle.notation.specs.Hearing.{hear_all, ◌▸◌}
use Rattle.recognise.specs.declared.Cursor.{Cursor}
use Rattle.recognise.specs.Hears.{piece}
use Rattle.build.specs.Flow.{After, code_of}
use Rattle.build.specs.Known.{Tables, Known, Lies}
use Rattle.build.specs.Hearsay.{Hears, Heard}
use Rattle.build.specs.Standing.{Scene, Fair, Stands, most_bytes}
use Rattle.build.specs.Steps.{Past}

-- a draft within an expression that holds names
abbrev pub holding : Draft → List Entry → List Mentioned → List Pending → List Placed → Draft
holding d es ms ps hs =
    record { commands = d.commands; lookups = d.lookups; nodes = d.nodes; variables = d.variables; entries = es; mentions = ms; above = d.above; depth = d.depth; slot = d.slot; pending = ps; held = hs }

-- a path is under way: its parts so far are held, and the saying after them has been heard
pub record Held (u : List ℕ) (s : Scene) (n : ℕ) (ps : List Pending) (size : ℕ) (at : Cursor) (es : List Entry) (ms : List Mentioned) (hs : List Placed) : Type 0 where
  pub next : Said Saying
  pub later : Sayings
  pub rest : Sayings
  pub heard : Heard u at next
  pub code : at.says ≡ code_of next.what
  pub hears : Hears u at later
  pub path : Path (next ∷ later) rest
  pub after : After n rest s.rest
  pub leads : hear_all (next ∷ later) (holding s.start es ms ps hs) ≡ s.whole
  pub short : length later < size

-- a question about a node is read
abbrev pub Asks : List ℕ → Tables → ℕ → ℕ → ℕ → Cursor → Cursor → ℕ → List ℕ → Cursor → ℕ → List ℕ → Type 0
Asks u t node base left at c count image r many after =
    (s : Scene) (n : ℕ) (ps : List Pending) (size : ℕ) (es : List Entry) (ms : List Mentioned) (h : Placed) → Known u s.whole t → Fair s node base → size ≤ left
    → Lies u at → piece u at.from at.to ≡ h.bytes → Stands s base image es count → Held u s n ps size c es ms (h ∷ [])
    → Past u s base n ps size r many after × (count < many)

-- the entry of a variable, of a lookup
abbrev pub Variables : List ℕ → Tables → ℕ → ℕ → Cursor → ℕ → List ℕ → ℕ → List ℕ → Type 0
Variables u t node base c n image r after =
    (s : Scene) (es : List Entry) → Known u s.whole t → length s.under ≡ most_bytes → base ≤ 6164 → length es < 2048 → Stands s base image es n → Lies u c
    → Stands s base after (es ▸ Entry.variable node (piece u c.from c.to)) r

abbrev pub Lookups : List ℕ → Tables → ℕ → Cursor → ℕ → List ℕ → ℕ → List ℕ → Type 0
Lookups u t base c n image r after =
    (s : Scene) (es : List Entry) → Known u s.whole t → length s.under ≡ most_bytes → base ≤ 6164 → length es < 2048 → Stands s base image es n → Lies u c
    → Stands s base after (es ▸ Entry.lookup (piece u c.from c.to)) r
