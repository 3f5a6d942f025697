-- Questions about nodes by their numbers, and the paths to the nodes.
use Rattle.std.specs.Prelude.{ℕ, ◌≤◌, ◌<◌, ◌≡◌, List, [], ◌∷◌}
use Rattle.grammar.specs.Spelling.{Placed}
use Rattle.notation.specs.Sayings.{Saying, silence, declares_command, numbers_command, declares_lookup, names, begins, opens_list, closes_list, calls, assigns, conditions, ranks, declares_variable, initial_truth, initial_whole, initial_decimal, initial_bits, truth, whole, decimal, bits, unknown, reads, mentions, descends, asks, negates, operates, parenthesis, closes, ends}
use Rattle.notation.specs.Numbers.{flag}
use Rattle.notation.specs.Draft.{Entry, Mentioned, Pending}
use Rattle.notation.specs.Hearing.{all_bytes}
use Rattle.notation.specs.Names.{node_of}
use Rattle.notation.specs.Mapping.{number_of, what_code}
use Rattle.recognise.specs.declared.Cursor.{Cursor}
use Rattle.recognise.specs.Codes.{say_of}
use Rattle.recognise.specs.Hears.{piece}
use Rattle.build.specs.Known.{Tables, Known, Lies}
use Rattle.build.specs.Standing.{Scene}
use Rattle.build.specs.Named.{Held}

-- the operator, the code and the sign of a question
unfoldable pub op_of : Saying → ℕ
op_of silence = 0
op_of declares_command = 0
op_of numbers_command = 0
op_of (declares_lookup k) = 0
op_of names = 0
op_of begins = 0
op_of opens_list = 0
op_of closes_list = 0
op_of calls = 0
op_of assigns = 0
op_of (conditions k) = 0
op_of ranks = 0
op_of (declares_variable k) = 0
op_of (initial_truth b) = 0
op_of (initial_whole b) = 0
op_of (initial_decimal b) = 0
op_of (initial_bits b) = 0
op_of (truth b) = 0
op_of (whole b) = 0
op_of (decimal b) = 0
op_of (bits b) = 0
op_of (unknown k) = 0
op_of reads = 0
op_of mentions = 0
op_of descends = 0
op_of (asks w n k) = what_code w
op_of negates = 0
op_of (operates o) = 0
op_of parenthesis = 0
op_of closes = 0
op_of ends = 0

unfoldable pub code_in : Saying → ℕ
code_in silence = 0
code_in declares_command = 0
code_in numbers_command = 0
code_in (declares_lookup k) = 0
code_in names = 0
code_in begins = 0
code_in opens_list = 0
code_in closes_list = 0
code_in calls = 0
code_in assigns = 0
code_in (conditions k) = 0
code_in ranks = 0
code_in (declares_variable k) = 0
code_in (initial_truth b) = 0
code_in (initial_whole b) = 0
code_in (initial_decimal b) = 0
code_in (initial_bits b) = 0
code_in (truth b) = 0
code_in (whole b) = 0
code_in (decimal b) = 0
code_in (bits b) = 0
code_in (unknown k) = 0
code_in reads = 0
code_in mentions = 0
code_in descends = 0
code_in (asks w n k) = k
code_in negates = 0
code_in (operates o) = 0
code_in parenthesis = 0
code_in closes = 0
code_in ends = 0

unfoldable pub not_in : Saying → ℕ
not_in silence = 0
not_in declares_command = 0
not_in numbers_command = 0
not_in (declares_lookup k) = 0
not_in names = 0
not_in begins = 0
not_in opens_list = 0
not_in closes_list = 0
not_in calls = 0
not_in assigns = 0
not_in (conditions k) = 0
not_in ranks = 0
not_in (declares_variable k) = 0
not_in (initial_truth b) = 0
not_in (initial_whole b) = 0
not_in (initial_decimal b) = 0
not_in (initial_bits b) = 0
not_in (truth b) = 0
not_in (whole b) = 0
not_in (decimal b) = 0
not_in (bits b) = 0
not_in (unknown k) = 0
not_in reads = 0
not_in mentions = 0
not_in descends = 0
not_in (asks w n k) = flag n
not_in negates = 0
not_in (operates o) = 0
not_in parenthesis = 0
not_in closes = 0
not_in ends = 0

-- a function of a question's number answers what f says of it
abbrev pub OfQuestion : (Saying → ℕ) → ℕ → ℕ → Type 0
OfQuestion f says r = 45 ≤ says → says ≤ 78 → r ≡ f (say_of says)

-- the path is followed to its question
abbrev pub Walks : List ℕ → Tables → ℕ → ℕ → Cursor → Cursor → Cursor → ℕ → Type 0
Walks u t node left at c r number =
    (s : Scene) (n : ℕ) (ps : List Pending) (size : ℕ) (es : List Entry) (ms : List Mentioned) (h : Placed) → Known u s.whole t → node < 65535 → size ≤ left → Lies u at → piece u at.from at.to ≡ h.bytes
    → Held u s n ps size c es ms (h ∷ [])
    → (hs : List Placed) × Held u s n ps size r es ms (h ∷ hs) × (r.says ≡ 44 → ⊥) × (number ≡ number_of (node_of s.whole node (all_bytes (h ∷ hs))))

-- opens every definition of this file
unfoldable pub opened : Unit {0}
unfolding op_of code_in not_in
opened = tt
