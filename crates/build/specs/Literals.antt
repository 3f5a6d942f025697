-- The entries of leaves, and the numbers of those that are constants.
use Rattle.std.specs.Prelude.{ℕ, ◌≤◌, ◌<◌, ◌≡◌, List, length}
use Rattle.grammar.specs.Spelling.{Token}
use Rattle.grammar.specs.Leads.{value_from}
use Rattle.notation.specs.Sayings.{boolean, integer, float, Saying, silence, declares_command, numbers_command, declares_lookup, names, begins, opens_list, closes_list, calls, assigns, conditions, ranks, declares_variable, initial_truth, initial_whole, initial_decimal, initial_bits, truth, whole, decimal, bits, unknown, reads, mentions, descends, asks, negates, operates, parenthesis, closes, ends}
use Rattle.notation.specs.Phrases.{Leaf}
use Rattle.notation.specs.Numbers.{flag, signed, real_bits, signed_bits}
use Rattle.notation.specs.Draft.{Entry, constant, unknown_of}
use Rattle.notation.specs.Hearing.{◌▸◌}
use Rattle.notation.specs.Mapping.{kind_code}
use Rattle.recognise.specs.declared.Cursor.{Cursor}
use Rattle.recognise.specs.Hears.{piece}
use Rattle.build.specs.Flow.{code_of}
use Rattle.build.specs.Standing.{Scene, Stands, most_bytes}
use Rattle.build.specs.Hearsay.{Apt}

-- the entry of a leaf that is one token
unfoldable pub leaf_entry : Saying → Token → Entry
leaf_entry silence t = unknown_of boolean
leaf_entry declares_command t = unknown_of boolean
leaf_entry numbers_command t = unknown_of boolean
leaf_entry (declares_lookup k) t = unknown_of boolean
leaf_entry names t = unknown_of boolean
leaf_entry begins t = unknown_of boolean
leaf_entry opens_list t = unknown_of boolean
leaf_entry closes_list t = unknown_of boolean
leaf_entry calls t = unknown_of boolean
leaf_entry assigns t = unknown_of boolean
leaf_entry (conditions k) t = unknown_of boolean
leaf_entry ranks t = unknown_of boolean
leaf_entry (declares_variable k) t = unknown_of boolean
leaf_entry (initial_truth b) t = unknown_of boolean
leaf_entry (initial_whole b) t = unknown_of boolean
leaf_entry (initial_decimal b) t = unknown_of boolean
leaf_entry (initial_bits b) t = unknown_of boolean
leaf_entry (truth b) t = constant boolean (flag b)
leaf_entry (whole b) t = constant integer (signed b (value_from 0 t))
leaf_entry (decimal b) t = constant float (real_bits b t)
leaf_entry (bits b) t = constant float (signed_bits b (value_from 0 t))
leaf_entry (unknown k) t = unknown_of k
leaf_entry reads t = Entry.lookup t
leaf_entry mentions t = unknown_of boolean
leaf_entry descends t = unknown_of boolean
leaf_entry (asks w n k) t = unknown_of boolean
leaf_entry negates t = unknown_of boolean
leaf_entry (operates o) t = unknown_of boolean
leaf_entry parenthesis t = unknown_of boolean
leaf_entry closes t = unknown_of boolean
leaf_entry ends t = unknown_of boolean

-- a constant's bits, whether it is known, its kind
unfoldable pub word_of : Saying → Token → ℕ
word_of silence t = 0
word_of declares_command t = 0
word_of numbers_command t = 0
word_of (declares_lookup k) t = 0
word_of names t = 0
word_of begins t = 0
word_of opens_list t = 0
word_of closes_list t = 0
word_of calls t = 0
word_of assigns t = 0
word_of (conditions k) t = 0
word_of ranks t = 0
word_of (declares_variable k) t = 0
word_of (initial_truth b) t = 0
word_of (initial_whole b) t = 0
word_of (initial_decimal b) t = 0
word_of (initial_bits b) t = 0
word_of (truth b) t = flag b
word_of (whole b) t = signed b (value_from 0 t)
word_of (decimal b) t = real_bits b t
word_of (bits b) t = signed_bits b (value_from 0 t)
word_of (unknown k) t = 0
word_of reads t = 0
word_of mentions t = 0
word_of descends t = 0
word_of (asks w n k) t = 0
word_of negates t = 0
word_of (operates o) t = 0
word_of parenthesis t = 0
word_of closes t = 0
word_of ends t = 0

unfoldable pub known_of : Saying → ℕ
known_of silence = 0
known_of declares_command = 0
known_of numbers_command = 0
known_of (declares_lookup k) = 0
known_of names = 0
known_of begins = 0
known_of opens_list = 0
known_of closes_list = 0
known_of calls = 0
known_of assigns = 0
known_of (conditions k) = 0
known_of ranks = 0
known_of (declares_variable k) = 0
known_of (initial_truth b) = 0
known_of (initial_whole b) = 0
known_of (initial_decimal b) = 0
known_of (initial_bits b) = 0
known_of (truth b) = 1
known_of (whole b) = 1
known_of (decimal b) = 1
known_of (bits b) = 1
known_of (unknown k) = 0
known_of reads = 0
known_of mentions = 0
known_of descends = 0
known_of (asks w n k) = 0
known_of negates = 0
known_of (operates o) = 0
known_of parenthesis = 0
known_of closes = 0
known_of ends = 0

unfoldable pub kind_of : Saying → ℕ
kind_of silence = 0
kind_of declares_command = 0
kind_of numbers_command = 0
kind_of (declares_lookup k) = 0
kind_of names = 0
kind_of begins = 0
kind_of opens_list = 0
kind_of closes_list = 0
kind_of calls = 0
kind_of assigns = 0
kind_of (conditions k) = 0
kind_of ranks = 0
kind_of (declares_variable k) = 0
kind_of (initial_truth b) = 0
kind_of (initial_whole b) = 0
kind_of (initial_decimal b) = 0
kind_of (initial_bits b) = 0
kind_of (truth b) = 0
kind_of (whole b) = 1
kind_of (decimal b) = 2
kind_of (bits b) = 2
kind_of (unknown k) = kind_code k
kind_of reads = 0
kind_of mentions = 0
kind_of descends = 0
kind_of (asks w n k) = 0
kind_of negates = 0
kind_of (operates o) = 0
kind_of parenthesis = 0
kind_of closes = 0
kind_of ends = 0

-- a function of a leaf's number answers what f says of the leaf
abbrev pub OfLeaf : (Saying → ℕ) → ℕ → ℕ → Type 0
OfLeaf f says r = (x : Saying) → Leaf x → says ≡ code_of x → says < 42 → r ≡ f x

-- the bits of the constant whose saying has that number, and whose token stands from a to e
abbrev pub WordAt : List ℕ → ℕ → ℕ → ℕ → ℕ → Type 0
WordAt u says a e r = (x : Saying) → Leaf x → says ≡ code_of x → says < 42 → a ≤ e → e ≤ length u → Apt x (piece u a e) → r ≡ word_of x (piece u a e)

-- the leaf's entry is added
abbrev pub Adds : List ℕ → ℕ → ℕ → Cursor → List ℕ → ℕ → List ℕ → Type 0
Adds u base n c image r after =
    (s : Scene) (es : List Entry) (x : Saying) → length s.under ≡ most_bytes → base ≤ 6164 → length es < 2048 → Stands s base image es n
    → Leaf x → c.says ≡ code_of x → c.says < 42 → c.from ≤ c.to → c.to ≤ length u → Apt x (piece u c.from c.to) → Stands s base after (es ▸ leaf_entry x (piece u c.from c.to)) r

-- opens every definition of this file
unfoldable pub opened : Unit {0}
unfolding leaf_entry word_of known_of kind_of
opened = tt
