-- The sayings of a text without those of the tokens that say nothing.
use Rattle.std.specs.Prelude.{Bool, true, false, List, [], ◌∷◌}
use Rattle.grammar.specs.Table.{Said}
use Rattle.notation.specs.Sayings.{Saying, silence, declares_command, numbers_command, declares_lookup, names, begins, opens_list, closes_list, calls, assigns, conditions, ranks, declares_variable, initial_truth, initial_whole, initial_decimal, initial_bits, truth, whole, decimal, bits, unknown, reads, mentions, descends, asks, negates, operates, parenthesis, closes, ends}

-- a token that says nothing by itself
unfoldable pub is_silent : Saying → Bool
is_silent silence = true
is_silent declares_command = false
is_silent numbers_command = false
is_silent (declares_lookup k) = false
is_silent names = false
is_silent begins = false
is_silent opens_list = false
is_silent closes_list = false
is_silent calls = false
is_silent assigns = false
is_silent (conditions k) = false
is_silent ranks = false
is_silent (declares_variable k) = false
is_silent (initial_truth b) = false
is_silent (initial_whole b) = false
is_silent (initial_decimal b) = false
is_silent (initial_bits b) = false
is_silent (truth b) = false
is_silent (whole b) = false
is_silent (decimal b) = false
is_silent (bits b) = false
is_silent (unknown k) = false
is_silent reads = false
is_silent mentions = false
is_silent descends = false
is_silent (asks w n k) = false
is_silent negates = false
is_silent (operates o) = false
is_silent parenthesis = false
is_silent closes = false
is_silent ends = false

-- the sayings that are not silent
unfoldable pub spoken : List (Said Saying) → List (Said Saying)
spoken [] = []
spoken (w ∷ l) = elim (is_silent w.what) [ true ↦ spoken l | false ↦ w ∷ spoken l ]

-- opens every definition of this file
unfoldable pub opened : Unit {0}
unfolding is_silent spoken
opened = tt
