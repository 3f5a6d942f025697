-- What a saying does to the names of a plan: its role, and the number that the code has for it.
use Rattle.std.specs.Prelude.{ℕ}
use Rattle.grammar.specs.Spelling.{Token}
use Rattle.grammar.specs.Leads.{value_from}
use Rattle.notation.specs.Sayings.{Kind, boolean, integer, float, Saying, silence, declares_command, numbers_command, declares_lookup, names, begins, opens_list, closes_list, calls, assigns, conditions, ranks, declares_variable, initial_truth, initial_whole, initial_decimal, initial_bits, truth, whole, decimal, bits, unknown, reads, mentions, descends, asks, negates, operates, parenthesis, closes, ends}

pub data Role : Type 0 where
  other number command lookup variable named unnamed opens shuts call assign read mention descend ask settle : Role

unfoldable pub role_of : Saying → Role
role_of silence = other
role_of declares_command = command
role_of numbers_command = number
role_of (declares_lookup k) = lookup
role_of names = named
role_of begins = unnamed
role_of opens_list = opens
role_of closes_list = shuts
role_of calls = call
role_of assigns = assign
role_of (conditions k) = other
role_of ranks = other
role_of (declares_variable k) = variable
role_of (initial_truth b) = other
role_of (initial_whole b) = other
role_of (initial_decimal b) = other
role_of (initial_bits b) = other
role_of (truth b) = other
role_of (whole b) = other
role_of (decimal b) = other
role_of (bits b) = other
role_of (unknown k) = other
role_of reads = read
role_of mentions = mention
role_of descends = descend
role_of (asks w n k) = ask
role_of negates = other
role_of (operates o) = settle
role_of parenthesis = other
role_of closes = settle
role_of ends = settle

-- declarations first, by the number of their sort: 0 commands, 1 lookups, 2 variables, 3 nodes
unfoldable pub role_number : Role → ℕ
role_number command = 0
role_number lookup = 1
role_number variable = 2
role_number named = 3
role_number unnamed = 4
role_number opens = 5
role_number shuts = 6
role_number call = 7
role_number assign = 8
role_number read = 9
role_number mention = 10
role_number descend = 11
role_number ask = 12
role_number settle = 13
role_number number = 14
role_number other = 15

-- "Kinds: 0 Bool, 1 Int (64-bit signed), 2 Real"
unfoldable pub kind_number : Kind → ℕ
kind_number boolean = 0
kind_number integer = 1
kind_number float = 2

-- a variable's kind, or a command's number
unfoldable pub detail_of : Saying → Token → ℕ
detail_of silence t = 0
detail_of declares_command t = 0
detail_of numbers_command t = value_from 0 t
detail_of (declares_lookup k) t = 0
detail_of names t = 0
detail_of begins t = 0
detail_of opens_list t = 0
detail_of closes_list t = 0
detail_of calls t = 0
detail_of assigns t = 0
detail_of (conditions k) t = 0
detail_of ranks t = 0
detail_of (declares_variable k) t = kind_number k
detail_of (initial_truth b) t = 0
detail_of (initial_whole b) t = 0
detail_of (initial_decimal b) t = 0
detail_of (initial_bits b) t = 0
detail_of (truth b) t = 0
detail_of (whole b) t = 0
detail_of (decimal b) t = 0
detail_of (bits b) t = 0
detail_of (unknown k) t = 0
detail_of reads t = 0
detail_of mentions t = 0
detail_of descends t = 0
detail_of (asks w n k) t = 0
detail_of negates t = 0
detail_of (operates o) t = 0
detail_of parenthesis t = 0
detail_of closes t = 0
detail_of ends t = 0

-- opens every definition of this file
unfoldable pub opened : Unit {0}
unfolding role_of role_number kind_number detail_of
opened = tt
