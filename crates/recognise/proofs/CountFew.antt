-- The counts are at most the text's length, but the entries, which are at most twice it.
use Prim.Native.Nat.{ℕ, ◌+◌, ◌*◌, ◌<◌, ◌≤◌}
use native.Mathlib.Omega.{arith}
use Rattle.notation.specs.Sayings.{Operator, disjunction, conjunction, equal, unequal, less, at_most, greater, at_least, plus, minus, times, Saying, silence, declares_command, numbers_command, declares_lookup, names, begins, opens_list, closes_list, calls, assigns, conditions, ranks, declares_variable, initial_truth, initial_whole, initial_decimal, initial_bits, truth, whole, decimal, bits, unknown, reads, mentions, descends, asks, negates, operates, parenthesis, closes, ends}
use Rattle.recognise.specs.declared.Counts.{Counts}
use Rattle.recognise.specs.Room.{Room}
use Rattle.recognise.specs.Counting.{flagged, entries_of, weight_of, Change, adds, command, lookup, node, opens, closes_one, variable, holds, answers, settles, change_of, changed, count_of}
use Rattle.recognise.proofs.CountBy.{flagged-small}

pub record Few (n : ℕ) (c : Counts) : Type 0 where
  pub nodes : c.nodes ≤ n
  pub entries : c.entries + flagged c.held ≤ 2 * n
  pub variables : c.variables ≤ n
  pub lookups : c.lookups ≤ n
  pub commands : c.commands ≤ n
  pub depth : c.depth ≤ n

pub few-room : (n : ℕ) (c : Counts) → Few n c → n < 9223372036854775807 → Room c
few-room n c f h = record {
  nodes = omega (arith, f.nodes);
  entries = omega (arith, f.entries);
  variables = omega (arith, f.variables);
  lookups = omega (arith, f.lookups);
  commands = omega (arith, f.commands);
  depth = omega (arith, f.depth);
}

-- the most entries that a change comes with
bound : Change → ℕ
bound adds = 2
bound command = 2
bound lookup = 2
bound node = 2
bound opens = 2
bound closes_one = 2
bound variable = 2
bound holds = 1
bound answers = 2
bound settles = 2

entries-small : (o : Operator) → entries_of o ≤ 2
unfolding entries_of
entries-small disjunction = omega arith
entries-small conjunction = omega arith
entries-small equal = omega arith
entries-small unequal = omega arith
entries-small less = omega arith
entries-small at_most = omega arith
entries-small greater = omega arith
entries-small at_least = omega arith
entries-small plus = omega arith
entries-small minus = omega arith
entries-small times = omega arith

weight-bound : (w : Saying) → weight_of w ≤ bound (change_of w)
unfolding weight_of bound change_of
weight-bound silence = omega arith
weight-bound declares_command = omega arith
weight-bound numbers_command = omega arith
weight-bound (declares_lookup k) = omega arith
weight-bound names = omega arith
weight-bound begins = omega arith
weight-bound opens_list = omega arith
weight-bound closes_list = omega arith
weight-bound calls = omega arith
weight-bound assigns = omega arith
weight-bound (conditions k) = omega arith
weight-bound ranks = omega arith
weight-bound (declares_variable k) = omega arith
weight-bound (initial_truth b) = omega arith
weight-bound (initial_whole b) = omega arith
weight-bound (initial_decimal b) = omega arith
weight-bound (initial_bits b) = omega arith
weight-bound (truth b) = omega arith
weight-bound (whole b) = omega arith
weight-bound (decimal b) = omega arith
weight-bound (bits b) = omega arith
weight-bound (unknown k) = omega arith
weight-bound reads = omega arith
weight-bound mentions = omega arith
weight-bound descends = omega arith
weight-bound (asks w n k) = omega (arith, flagged-small n)
weight-bound negates = omega arith
weight-bound (operates o) = entries-small o
weight-bound parenthesis = omega arith
weight-bound closes = omega arith
weight-bound ends = omega arith

few-changed : (x : Change) (n m w p : ℕ) (c : Counts) → w ≤ bound x → n < m → Few n c → Few m (changed x w p c)
unfolding bound changed flagged
few-changed adds n m w p c h g f = record { nodes = omega (arith, f.nodes); entries = omega (arith, f.entries); variables = omega (arith, f.variables); lookups = omega (arith, f.lookups); commands = omega (arith, f.commands); depth = omega (arith, f.depth) }
few-changed command n m w p c h g f = record { nodes = omega (arith, f.nodes); entries = omega (arith, f.entries); variables = omega (arith, f.variables); lookups = omega (arith, f.lookups); commands = omega (arith, f.commands); depth = omega (arith, f.depth) }
few-changed lookup n m w p c h g f = record { nodes = omega (arith, f.nodes); entries = omega (arith, f.entries); variables = omega (arith, f.variables); lookups = omega (arith, f.lookups); commands = omega (arith, f.commands); depth = omega (arith, f.depth) }
few-changed node n m w p c h g f = record { nodes = omega (arith, f.nodes); entries = omega (arith, f.entries); variables = omega (arith, f.variables); lookups = omega (arith, f.lookups); commands = omega (arith, f.commands); depth = omega (arith, f.depth) }
few-changed opens n m w p c h g f = record { nodes = omega (arith, f.nodes); entries = omega (arith, f.entries); variables = omega (arith, f.variables); lookups = omega (arith, f.lookups); commands = omega (arith, f.commands); depth = omega (arith, f.depth) }
few-changed closes_one n m w p c h g f = record { nodes = omega (arith, f.nodes); entries = omega (arith, f.entries); variables = omega (arith, f.variables); lookups = omega (arith, f.lookups); commands = omega (arith, f.commands); depth = omega (arith, f.depth) }
few-changed variable n m w p c h g f = record { nodes = omega (arith, f.nodes); entries = omega (arith, f.entries); variables = omega (arith, f.variables); lookups = omega (arith, f.lookups); commands = omega (arith, f.commands); depth = omega (arith, f.depth) }
few-changed holds n m w p c h g f = record { nodes = omega (arith, f.nodes); entries = omega (arith, f.entries); variables = omega (arith, f.variables); lookups = omega (arith, f.lookups); commands = omega (arith, f.commands); depth = omega (arith, f.depth) }
few-changed answers n m w p c h g f = record { nodes = omega (arith, f.nodes); entries = omega (arith, f.entries); variables = omega (arith, f.variables); lookups = omega (arith, f.lookups); commands = omega (arith, f.commands); depth = omega (arith, f.depth) }
few-changed settles n m w p c h g f = record { nodes = omega (arith, f.nodes); entries = omega (arith, f.entries); variables = omega (arith, f.variables); lookups = omega (arith, f.lookups); commands = omega (arith, f.commands); depth = omega (arith, f.depth) }

pub few-more : (n m : ℕ) (w : Saying) (p : ℕ) (c : Counts) → n < m → Few n c → Few m (count_of w p c)
unfolding count_of
few-more n m w p c g f = few-changed (change_of w) n m (weight_of w) p c (weight-bound w) g f
