-- What a token adds to the counts of a plan: what is counted are the nodes, the entries that are made or pending, the variables, the lookups and the commands.
use Rattle.std.specs.Prelude.{ℕ, suc, ◌+◌, ◌-◌, Bool, true, false, ◌||◌, cond, List, [], ◌∷◌, ltb}
use Rattle.notation.specs.Sayings.{Operator, disjunction, conjunction, equal, unequal, less, at_most, greater, at_least, plus, minus, times, Saying, silence, declares_command, numbers_command, declares_lookup, names, begins, opens_list, closes_list, calls, assigns, conditions, ranks, declares_variable, initial_truth, initial_whole, initial_decimal, initial_bits, truth, whole, decimal, bits, unknown, reads, mentions, descends, asks, negates, operates, parenthesis, closes, ends}
use Rattle.recognise.specs.declared.Counts.{Counts}

unfoldable pub flagged : Bool → ℕ
flagged true = 1
flagged false = 0

-- how many entries an operator makes
unfoldable pub entries_of : Operator → ℕ
entries_of disjunction = 1
entries_of conjunction = 1
entries_of equal = 1
entries_of unequal = 2
entries_of less = 1
entries_of at_most = 1
entries_of greater = 1
entries_of at_least = 1
entries_of plus = 1
entries_of minus = 1
entries_of times = 1

-- the entries that a token makes, at once or later
unfoldable pub weight_of : Saying → ℕ
weight_of silence = 0
weight_of declares_command = 0
weight_of numbers_command = 0
weight_of (declares_lookup k) = 0
weight_of names = 0
weight_of begins = 0
weight_of opens_list = 0
weight_of closes_list = 0
weight_of calls = 0
weight_of assigns = 0
weight_of (conditions k) = 0
weight_of ranks = 0
weight_of (declares_variable k) = 0
weight_of (initial_truth b) = 0
weight_of (initial_whole b) = 0
weight_of (initial_decimal b) = 0
weight_of (initial_bits b) = 0
weight_of (truth b) = 1
weight_of (whole b) = 1
weight_of (decimal b) = 1
weight_of (bits b) = 1
weight_of (unknown k) = 1
weight_of reads = 1
weight_of mentions = 0
weight_of descends = 0
weight_of (asks w n k) = suc (flagged n)
weight_of negates = 1
weight_of (operates o) = entries_of o
weight_of parenthesis = 0
weight_of closes = 0
weight_of ends = 0

-- what else it changes: a name is held until it is known whether it is a variable's, which is one entry more
pub data Change : Type 0 where
  adds command lookup node opens closes_one variable holds answers settles : Change

unfoldable pub change_of : Saying → Change
change_of silence = adds
change_of declares_command = command
change_of numbers_command = adds
change_of (declares_lookup k) = lookup
change_of names = node
change_of begins = node
change_of opens_list = opens
change_of closes_list = closes_one
change_of calls = adds
change_of assigns = adds
change_of (conditions k) = adds
change_of ranks = adds
change_of (declares_variable k) = variable
change_of (initial_truth b) = adds
change_of (initial_whole b) = adds
change_of (initial_decimal b) = adds
change_of (initial_bits b) = adds
change_of (truth b) = adds
change_of (whole b) = adds
change_of (decimal b) = adds
change_of (bits b) = adds
change_of (unknown k) = adds
change_of reads = adds
change_of mentions = holds
change_of descends = holds
change_of (asks w n k) = answers
change_of negates = adds
change_of (operates o) = settles
change_of parenthesis = adds
change_of closes = settles
change_of ends = settles

-- the counts after a token at place n that makes w entries
unfoldable pub changed : Change → ℕ → ℕ → Counts → Counts
changed adds w n c = record { nodes = c.nodes; entries = c.entries + w; variables = c.variables; lookups = c.lookups; commands = c.commands; depth = c.depth; held = c.held; deep = c.deep; place = c.place }
changed command w n c = record { nodes = c.nodes; entries = c.entries + w; variables = c.variables; lookups = c.lookups; commands = c.commands + 1; depth = c.depth; held = c.held; deep = c.deep; place = c.place }
changed lookup w n c = record { nodes = c.nodes; entries = c.entries + w; variables = c.variables; lookups = c.lookups + 1; commands = c.commands; depth = c.depth; held = c.held; deep = c.deep; place = c.place }
changed node w n c = record { nodes = c.nodes + 1; entries = c.entries + w; variables = c.variables; lookups = c.lookups; commands = c.commands; depth = c.depth; held = c.held; deep = c.deep || ltb 16 (c.depth + 1); place = cond c.deep c.place (cond (ltb 16 (c.depth + 1)) n 0) }
changed opens w n c = record { nodes = c.nodes; entries = c.entries + w; variables = c.variables; lookups = c.lookups; commands = c.commands; depth = c.depth + 1; held = c.held; deep = c.deep; place = c.place }
changed closes_one w n c = record { nodes = c.nodes; entries = c.entries + w; variables = c.variables; lookups = c.lookups; commands = c.commands; depth = c.depth - 1; held = c.held; deep = c.deep; place = c.place }
changed variable w n c = record { nodes = c.nodes; entries = c.entries + w; variables = c.variables + 1; lookups = c.lookups; commands = c.commands; depth = c.depth; held = c.held; deep = c.deep; place = c.place }
changed holds w n c = record { nodes = c.nodes; entries = c.entries + w; variables = c.variables; lookups = c.lookups; commands = c.commands; depth = c.depth; held = true; deep = c.deep; place = c.place }
changed answers w n c = record { nodes = c.nodes; entries = c.entries + w; variables = c.variables; lookups = c.lookups; commands = c.commands; depth = c.depth; held = false; deep = c.deep; place = c.place }
changed settles w n c = record { nodes = c.nodes; entries = c.entries + flagged c.held + w; variables = c.variables; lookups = c.lookups; commands = c.commands; depth = c.depth; held = false; deep = c.deep; place = c.place }

-- the same by the numbers of the sayings, as the code has them
unfoldable pub weights : List ℕ
weights =
    0 ∷ 0 ∷ 0 ∷ 0 ∷ 0 ∷ 0 ∷ 0 ∷ 0 ∷ 0 ∷ 0 ∷ 0 ∷ 0 ∷ 0 ∷ 0 ∷ 0 ∷ 0 ∷ 0 ∷ 0 ∷ 0 ∷ 0 ∷ 0 ∷ 0 ∷ 0 ∷ 0 ∷ 0 ∷ 0 ∷ 0 ∷ 0 ∷ 0 ∷ 0 ∷ 0 ∷ 1 ∷ 1 ∷ 1 ∷ 1 ∷ 1 ∷
    1 ∷ 1 ∷ 1 ∷ 1 ∷ 1 ∷ 1 ∷ 1 ∷ 0 ∷ 0 ∷ 1 ∷ 1 ∷ 1 ∷ 1 ∷ 1 ∷ 1 ∷ 1 ∷ 2 ∷ 2 ∷ 2 ∷ 2 ∷ 2 ∷ 2 ∷ 2 ∷ 1 ∷ 1 ∷ 1 ∷ 1 ∷ 2 ∷ 2 ∷ 2 ∷ 2 ∷ 1 ∷ 1 ∷ 1 ∷ 1 ∷ 1 ∷
    1 ∷ 2 ∷ 2 ∷ 2 ∷ 2 ∷ 2 ∷ 2 ∷ 1 ∷ 1 ∷ 1 ∷ 1 ∷ 2 ∷ 1 ∷ 1 ∷ 1 ∷ 1 ∷ 1 ∷ 1 ∷ 1 ∷ 0 ∷ 0 ∷ 0 ∷ []

unfoldable pub changes : List ℕ
changes =
    0 ∷ 1 ∷ 0 ∷ 2 ∷ 2 ∷ 2 ∷ 3 ∷ 3 ∷ 4 ∷ 5 ∷ 0 ∷ 0 ∷ 0 ∷ 0 ∷ 0 ∷ 0 ∷ 0 ∷ 0 ∷ 0 ∷ 0 ∷ 6 ∷ 6 ∷ 6 ∷ 0 ∷ 0 ∷ 0 ∷ 0 ∷ 0 ∷ 0 ∷ 0 ∷ 0 ∷ 0 ∷ 0 ∷ 0 ∷ 0 ∷ 0 ∷
    0 ∷ 0 ∷ 0 ∷ 0 ∷ 0 ∷ 0 ∷ 0 ∷ 7 ∷ 7 ∷ 8 ∷ 8 ∷ 8 ∷ 8 ∷ 8 ∷ 8 ∷ 8 ∷ 8 ∷ 8 ∷ 8 ∷ 8 ∷ 8 ∷ 8 ∷ 8 ∷ 8 ∷ 8 ∷ 8 ∷ 8 ∷ 8 ∷ 8 ∷ 8 ∷ 8 ∷ 8 ∷ 8 ∷ 8 ∷ 8 ∷ 8 ∷
    8 ∷ 8 ∷ 8 ∷ 8 ∷ 8 ∷ 8 ∷ 8 ∷ 0 ∷ 9 ∷ 9 ∷ 9 ∷ 9 ∷ 9 ∷ 9 ∷ 9 ∷ 9 ∷ 9 ∷ 9 ∷ 9 ∷ 0 ∷ 9 ∷ 9 ∷ []

unfoldable pub change_list : List Change
change_list = adds ∷ command ∷ lookup ∷ node ∷ opens ∷ closes_one ∷ variable ∷ holds ∷ answers ∷ settles ∷ []

-- a token that says w, at place n
unfoldable pub count_of : Saying → ℕ → Counts → Counts
count_of w n c = changed (change_of w) (weight_of w) n c

-- opens every definition of this file
unfoldable pub opened : Unit {0}
unfolding flagged entries_of weight_of change_of changed weights changes change_list count_of
opened = tt
