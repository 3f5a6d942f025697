-- What building a text's image answers.
use Rattle.std.specs.Prelude.{ℕ, ◌≡◌, true, List, length, take}
use Rattle.grammar.specs.Table.{Said}
use Rattle.notation.specs.Sayings.{Saying}
use Rattle.notation.specs.Hearing.{draft_of}
use Rattle.notation.specs.Mapping.{image_of, within_counts, image_length}
use Rattle.recognise.specs.declared.Recognised.{Recognised}
use Rattle.recognise.specs.Recognised.{accepted_as}
use Rattle.names.specs.declared.table.Told.{Told}
use Rattle.names.specs.Answers.{Accepted, tale_said}
use Rattle.names.specs.Tables.{Ready, Filled}
use Rattle.build.specs.Laying.{Holds, head_of, Limited, Laid, entries_at, variables_at, lookups_at}
use Rattle.build.specs.Standing.{most_bytes}

-- the tables' counts with those of the text
unfoldable pub counted_told : Told → Recognised → Told
counted_told t r = record { whole = t.whole; commands = t.commands; lookups = r.lookups; variables = r.variables; nodes = t.nodes }

-- all sections are laid behind the header
abbrev pub Makes : List ℕ → List ℕ → List ℕ → List ℕ → Told → ℕ → ℕ → ℕ → List ℕ → List ℕ → Type 0
Makes u fs ts os told base vbase lbase image after =
    (l : List (Said Saying)) → Accepted u l → Limited (draft_of l) → Ready u (tale_said l) fs ts os told → told.lookups ≡ length (draft_of l).lookups → told.variables ≡ length (draft_of l).variables
    → base ≡ entries_at (draft_of l) → vbase ≡ variables_at (draft_of l) → lbase ≡ lookups_at (draft_of l) → length image ≡ most_bytes → Holds image 0 (head_of (draft_of l))
    → Laid (draft_of l) (draft_of l).nodes (draft_of l).entries (draft_of l).variables after

-- the image begins with the mapping's bytes
abbrev pub Builds : List ℕ → Recognised → List ℕ → List ℕ → List ℕ → Told → List ℕ → List ℕ → Type 0
Builds u seen fs ts os told image after =
    (l : List (Said Saying)) → Accepted u l → seen ≡ accepted_as (draft_of l) → Filled u (tale_said l) fs ts os told → within_counts (draft_of l) ≡ true → length image ≡ most_bytes
    → (take (image_length (draft_of l)) after ≡ image_of (draft_of l)) × (length after ≡ most_bytes)
