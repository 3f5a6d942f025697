-- Where a reader of expressions stands: before an operand, at its first saying, and at the first saying after it.
use Rattle.std.specs.Prelude.{ℕ, ◌≤◌, ◌<◌, ◌≡◌, List, [], ◌∷◌, length}
use Rattle.grammar.specs.Table.{Said}
use Rattle.notation.specs.Sayings.{Saying}
use Rattle.notation.specs.Phrases.{Sayings}
use Rattle.notation.specs.Draft.{Entry, Mentioned, Pending}
use Rattle.notation.specs.Hearing.{hear_all, ◌▸◌}
use Rattle.notation.specs.Mapping.{entry_bytes}
use Rattle.plexil.specs.Assemble as Assemble
use Rattle.recognise.specs.declared.Cursor.{Cursor}
use Rattle.build.specs.Hearsay.{Hears, Heard}
use Rattle.build.specs.Flow.{Before, After, code_of}
use Rattle.build.specs.Known.{Tables, Known}
use Rattle.build.specs.Standing.{Scene, Fair, Stands, within, kinds_after, most_bytes}

-- the cursor c has gone on to r, to a saying that is not silence
pub record Stepped (u : List ℕ) (c r : Cursor) : Type 0 where
  pub more : (w : Said Saying) (l : Sayings) → Hears u c (w ∷ l) → 0 < code_of w.what → Heard u r w × Hears u r l × (r.says ≡ code_of w.what)

-- an operand is due; fewer than `size` sayings remain, or as many
pub record Due (u : List ℕ) (s : Scene) (base nest : ℕ) (ps : List Pending) (size : ℕ) (at : Cursor) (count : ℕ) (image : List ℕ) : Type 0 where
  pub later : Sayings
  pub entries : List Entry
  pub mentioned : List Mentioned
  pub hears : Hears u at later
  pub before : Before nest later s.rest
  pub leads : hear_all later (within s.start entries mentioned ps) ≡ s.whole
  pub stands : Stands s base image entries count
  pub short : length later ≤ size

-- the first saying of an operand has been heard
pub record Met (u : List ℕ) (s : Scene) (base nest : ℕ) (ps : List Pending) (size : ℕ) (at : Cursor) (count : ℕ) (image : List ℕ) : Type 0 where
  pub next : Said Saying
  pub later : Sayings
  pub entries : List Entry
  pub mentioned : List Mentioned
  pub heard : Heard u at next
  pub code : at.says ≡ code_of next.what
  pub hears : Hears u at later
  pub before : Before nest (next ∷ later) s.rest
  pub leads : hear_all (next ∷ later) (within s.start entries mentioned ps) ≡ s.whole
  pub stands : Stands s base image entries count
  pub short : length later < size

-- an operand has been read, and the saying after it has been heard
pub record Past (u : List ℕ) (s : Scene) (base nest : ℕ) (ps : List Pending) (size : ℕ) (at : Cursor) (count : ℕ) (image : List ℕ) : Type 0 where
  pub next : Said Saying
  pub later : Sayings
  pub entries : List Entry
  pub mentioned : List Mentioned
  pub heard : Heard u at next
  pub code : at.says ≡ code_of next.what
  pub hears : Hears u at later
  pub after : After nest (next ∷ later) s.rest
  pub leads : hear_all (next ∷ later) (within s.start entries mentioned ps) ≡ s.whole
  pub stands : Stands s base image entries count
  pub short : length later < size

-- one more entry, with these numbers
abbrev pub Emits : ℕ → ℕ → ℕ → ℕ → ℕ → ℕ → ℕ → List ℕ → ℕ → List ℕ → Type 0
Emits base n op kind a b w image r after =
    (s : Scene) (es : List Entry) (e : Entry) → length s.under ≡ most_bytes → base ≤ 6164 → length es < 2048 → Stands s base image es n
    → entry_bytes s.whole (kinds_after s.whole [] es) e ≡ Assemble.expr op kind a b w → Stands s base after (es ▸ e) r

-- an operand that is no group and no NOT is read
abbrev pub Leaves : List ℕ → Tables → ℕ → ℕ → ℕ → Cursor → ℕ → List ℕ → Cursor → ℕ → List ℕ → Type 0
Leaves u t node base left c count image r many after =
    (s : Scene) (n : ℕ) (ps : List Pending) (size : ℕ) → Known u s.whole t → Fair s node base → size ≤ left → (c.says ≡ 91 → ⊥) → (c.says ≡ 79 → ⊥) → Met u s base n ps size c count image
    → Past u s base n ps size r many after × (count < many)
