-- The declarations before the plan's node: the table has the commands' numbers and the lookups' kinds, the image the lookups' records.
use Rattle.std.specs.Prelude.{ℕ, ◌+◌, ◌≤◌, ◌<◌, ◌≡◌, List, [], ◌∷◌, length, get_or}
use Rattle.std.proofs.Math.Option.{some}
use Rattle.plexil.specs.Lists.{put}
use Rattle.plexil.specs.Assemble.{join}
use Rattle.grammar.specs.Leads.{value_from}
use Rattle.grammar.specs.Table.{Said}
use Rattle.notation.specs.Sayings.{Saying, numbers_command}
use Rattle.notation.specs.Spoken.{spoken}
use Rattle.notation.specs.Phrases.{Sayings, Says, Node, Plan}
use Rattle.notation.specs.Draft.{Command, Lookup, Mentioned, value, Draft, blank}
use Rattle.notation.specs.Hearing.{hear_all, ◌▸◌}
use Rattle.notation.specs.Mapping.{kind_code, kind_of_lookup, number_of_command, all_lookups}
use Rattle.notation.specs.Reading.{plan_says}
use Rattle.recognise.specs.declared.Cursor.{Cursor}
use Rattle.recognise.specs.Tape.{Tape}
use Rattle.build.specs.Flow.{code_of}
use Rattle.build.specs.Hearsay.{AllApt, Hears, Heard}
use Rattle.build.specs.Standing.{most_bytes}

-- a draft of declarations alone
abbrev pub declared : List Command → List Lookup → List Mentioned → Draft
declared cs ls ms = record { commands = cs; lookups = ls; nodes = []; variables = []; entries = []; mentions = ms; above = 65535; depth = 0; slot = value; pending = []; held = [] }

-- the text is a plan's, with that draft
pub record Planned (u : List ℕ) (whole : Draft) : Type 0 where
  pub said : Sayings
  pub says : plan_says u ≡ some said
  pub apt : AllApt (spoken said)
  pub plan : Plan (spoken said)
  pub leads : hear_all (spoken said) blank ≡ whole
  pub short : length (spoken said) ≤ length u

-- the image has the records of the lookups ls over `under`, the table the kinds of ls and the numbers of the commands cs, and from place 320 on what `old` has
pub record Recorded (base : ℕ) (under old image kind : List ℕ) (cs : List Command) (ls : List Lookup) : Type 0 where
  pub bytes : image ≡ put under base (join (all_lookups ls))
  pub size : length kind ≡ 704
  pub numbers : (i : ℕ) → i < 256 → get_or kind i 0 ≡ number_of_command cs i
  pub kinds : (i : ℕ) → i < 64 → get_or kind (256 + i) 0 ≡ kind_of_lookup ls i
  pub kept : (i : ℕ) → 320 ≤ i → get_or kind i 0 ≡ get_or old i 0

-- the opening of the plan's node has been heard
pub record Rooted (u : List ℕ) (whole : Draft) (at : Cursor) : Type 0 where
  pub next : Said Saying
  pub later : Sayings
  pub mentioned : List Mentioned
  pub heard : Heard u at next
  pub code : at.says ≡ code_of next.what
  pub hears : Hears u at later
  pub node : Node (next ∷ later) []
  pub leads : hear_all (next ∷ later) (declared whole.commands whole.lookups mentioned) ≡ whole
  pub short : length later ≤ length u

-- the number of the command i, which the cursor has heard, is kept
abbrev pub Numbers : List ℕ → ℕ → Cursor → List ℕ → List ℕ → Type 0
Numbers u i c kind after =
    (base : ℕ) (under old image : List ℕ) (cs : List Command) (ls : List Lookup) (d : Command) (w : Said Saying) → Recorded base under old image kind cs ls → i ≡ length cs → Heard u c w → Says w numbers_command
    → d.number ≡ value_from 0 w.token.bytes → Recorded base under old image after (cs ▸ d) ls

-- the lookup i of kind k is kept and recorded
abbrev pub Records : ℕ → ℕ → ℕ → List ℕ → List ℕ → List ℕ → List ℕ → Type 0
Records base i k image kind image' kind' =
    (under old : List ℕ) (cs : List Command) (ls : List Lookup) (l : Lookup) → Recorded base under old image kind cs ls → i ≡ length ls → length ls < 64 → base ≤ 40980 → length under ≡ most_bytes
    → k ≡ kind_code l.kind → Recorded base under old image' kind' cs (ls ▸ l)

-- all declarations are read
abbrev pub Declares : List ℕ → List ℕ → ℕ → List ℕ → List ℕ → Cursor → List ℕ → List ℕ → Type 0
Declares u os base image kind r image' kind' =
    (whole : Draft) → Planned u whole → Tape u os → length whole.lookups ≤ 64 → base ≤ 40980 → length image ≡ most_bytes → length kind ≡ 704 → ((i : ℕ) → i < 320 → get_or kind i 0 ≡ 0)
    → Rooted u whole r × Recorded base image kind image' kind' whole.commands whole.lookups
