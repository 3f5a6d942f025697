-- What the rows of the notation ask of the tokens: a number is one, within its bound, and a decimal is read as a Real.
use Rattle.std.specs.Prelude.{ℕ, ◌≤◌, ◌<◌, ◌≡◌, true, List, [], ◌∷◌, length}
use Rattle.std.proofs.Math.Option.{some}
use Rattle.grammar.specs.Spelling.{Token}
use Rattle.grammar.specs.Leads.{is_number, value_from}
use Rattle.grammar.specs.Table.{Said}
use Rattle.notation.specs.Sayings.{Saying, silence, declares_command, numbers_command, declares_lookup, names, begins, opens_list, closes_list, calls, assigns, conditions, ranks, declares_variable, initial_truth, initial_whole, initial_decimal, initial_bits, truth, whole, decimal, bits, unknown, reads, mentions, descends, asks, negates, operates, parenthesis, closes, ends}
use Rattle.notation.specs.Phrases.{Sayings}
use Rattle.notation.specs.Reading.{plan_says}
use Rattle.notation.specs.Spoken.{spoken}
use Rattle.words.specs.Exact.{exact}

-- a token that says so is as its row asks
unfoldable pub Apt : Saying → Token → Type 0
Apt silence t = Unit {0}
Apt declares_command t = Unit {0}
Apt numbers_command t = (is_number t ≡ true) × (value_from 0 t ≤ 65534)
Apt (declares_lookup k) t = Unit {0}
Apt names t = Unit {0}
Apt begins t = Unit {0}
Apt opens_list t = Unit {0}
Apt closes_list t = Unit {0}
Apt calls t = Unit {0}
Apt assigns t = Unit {0}
Apt (conditions k) t = Unit {0}
Apt ranks t = (is_number t ≡ true) × (value_from 0 t ≤ 65535)
Apt (declares_variable k) t = Unit {0}
Apt (initial_truth b) t = Unit {0}
Apt (initial_whole b) t = (is_number t ≡ true) × (value_from 0 t ≤ 9223372036854775808)
Apt (initial_decimal b) t = exact t ≡ true
Apt (initial_bits b) t = (is_number t ≡ true) × (value_from 0 t < 9223372036854775808)
Apt (truth b) t = Unit {0}
Apt (whole b) t = (is_number t ≡ true) × (value_from 0 t ≤ 9223372036854775808)
Apt (decimal b) t = exact t ≡ true
Apt (bits b) t = (is_number t ≡ true) × (value_from 0 t < 9223372036854775808)
Apt (unknown k) t = Unit {0}
Apt reads t = Unit {0}
Apt mentions t = Unit {0}
Apt descends t = Unit {0}
Apt (asks w n k) t = Unit {0}
Apt negates t = Unit {0}
Apt (operates o) t = Unit {0}
Apt parenthesis t = Unit {0}
Apt closes t = Unit {0}
Apt ends t = Unit {0}

unfoldable pub AllApt : Sayings → Type 0
AllApt [] = Unit {0}
AllApt (w ∷ l) = Apt w.what w.token.bytes × AllApt l

-- each token of an accepted text is as its row asks
abbrev pub TextsApt : Type 0
TextsApt = (u : List ℕ) (l : List (Said Saying)) → plan_says u ≡ some l → AllApt (spoken l)

-- a text says at most as much as it has bytes
abbrev pub TextsShort : Type 0
TextsShort = (u : List ℕ) (l : List (Said Saying)) → plan_says u ≡ some l → length (spoken l) ≤ length u

-- opens every definition of this file
unfoldable pub opened : Unit {0}
unfolding Apt AllApt
opened = tt
