-- What each token of a text adds to the draft of the plan.
use Rattle.std.specs.Prelude.{ℕ, zero, suc, ◌-◌, Bool, true, false, cond, List, [], ◌∷◌, ◌++◌, length, set, leb}
use Rattle.grammar.specs.Spelling.{Token, Placed}
use Rattle.grammar.specs.Leads.{value_from}
use Rattle.grammar.specs.Table.{Said}
use Rattle.notation.specs.Sayings.{boolean, integer, float, Operator, disjunction, conjunction, equal, unequal, less, at_most, greater, at_least, plus, minus, times, Saying, silence, declares_command, numbers_command, declares_lookup, names, begins, opens_list, closes_list, calls, assigns, conditions, ranks, declares_variable, initial_truth, initial_whole, initial_decimal, initial_bits, truth, whole, decimal, bits, unknown, reads, mentions, descends, asks, negates, operates, parenthesis, closes, ends}
use Rattle.notation.specs.Numbers.{flag, signed, real_bits, signed_bits}
use Rattle.notation.specs.Draft.{Variable, Body, list, assignment, Node, or, and, eq, lt, le, add, sub, mul, Entry, constant, unknown_of, about, negation, two, Mention, use_of_command, use_of_lookup, use_of_variable, use_of_node, node, Pending, prefix, paren, infix', Slot, condition, value, Draft, blank, with_commands, with_lookups, with_nodes, with_variables, with_entries, with_mentions, with_lists, with_slot, with_pending, with_held, with_priority, with_given, with_body, with_initial, with_number}

-- one more at the end
infixl 30 ◌▸◌
unfoldable pub ◌▸◌ {ℓ} : {A : Type ℓ} → List A → A → List A
◌▸◌ l a = l ++ (a ∷ [])

-- the last one changed
unfoldable pub at_last {ℓ} : {A : Type ℓ} → (A → A) → List A → List A
at_last f [] = []
at_last f (a ∷ []) = f a ∷ []
at_last f (a ∷ (b ∷ l)) = a ∷ at_last f (b ∷ l)

-- the number of the last one
unfoldable pub last {ℓ} : {A : Type ℓ} → List A → ℕ
last l = length l - 1

-- the node that is being told of
abbrev pub here : Draft → ℕ
here d = last d.nodes

unfoldable pub on_node : (Node → Node) → Draft → Draft
on_node f d = with_nodes (at_last f d.nodes) d

unfoldable pub on_variable : (Variable → Variable) → Draft → Draft
on_variable f d = with_variables (at_last f d.variables) d

unfoldable pub mentioning : Mention → ℕ → Draft → Draft
mentioning m n d = with_mentions (d.mentions ▸ record { mention = m; place = n }) d

unfoldable pub adding : Entry → Draft → Draft
adding e d = with_entries (d.entries ▸ e) d

-- ---- declarations and nodes
abbrev pub no_conditions : List ℕ
no_conditions = 65535 ∷ 65535 ∷ 65535 ∷ 65535 ∷ 65535 ∷ 65535 ∷ 65535 ∷ []

-- "Nodes are numbered in text order": the next node, named so, begins at place n
unfoldable pub next_node : Token → ℕ → Draft → Draft
next_node t n d =
    with_nodes (d.nodes ▸ record { name = t; place = n; parent = d.above; level = suc d.depth; priority = 0; given = no_conditions; body = list }) d

-- the parent of a node
unfoldable pub parent_in : List Node → ℕ → ℕ
parent_in [] i = 65535
parent_in (n ∷ ns) zero = n.parent
parent_in (n ∷ ns) (suc i) = parent_in ns i

-- ---- expressions
-- how strongly an operator binds: OR, AND, NOT, comparisons, sums, products
unfoldable pub strength : Operator → ℕ
strength disjunction = 1
strength conjunction = 2
strength equal = 4
strength unequal = 4
strength less = 4
strength at_most = 4
strength greater = 4
strength at_least = 4
strength plus = 5
strength minus = 5
strength times = 6

-- "NOT and `!` bind weaker than comparisons and stronger than AND"
abbrev pub strength_of_not : ℕ
strength_of_not = 3

-- the entries of an operator whose operands are the entries a and b, after n entries: "`a > b` is `b < a`, `a != b` is NOT of EQ"
unfoldable pub made : Operator → ℕ → ℕ → ℕ → List Entry
made disjunction a b n = two or a b ∷ []
made conjunction a b n = two and a b ∷ []
made equal a b n = two eq a b ∷ []
made unequal a b n = two eq a b ∷ (negation n ∷ [])
made less a b n = two lt a b ∷ []
made at_most a b n = two le a b ∷ []
made greater a b n = two lt b a ∷ []
made at_least a b n = two le b a ∷ []
made plus a b n = two add a b ∷ []
made minus a b n = two sub a b ∷ []
made times a b n = two mul a b ∷ []

-- the entries once the pending operators that bind at least as strongly as k have ended; the operand on the right is always the last entry
unfoldable pub ending : ℕ → List Pending → List Entry → List Entry
ending k [] es = es
ending k (paren ∷ ps) es = es
ending k (prefix ∷ ps) es = cond (leb k strength_of_not) (ending k ps (es ▸ negation (last es))) es
ending k (infix' o a ∷ ps) es = cond (leb k (strength o)) (ending k ps (es ++ made o a (last es) (length es))) es

-- the pending ones that bind more weakly than k
unfoldable pub waiting : ℕ → List Pending → List Pending
waiting k [] = []
waiting k (paren ∷ ps) = paren ∷ ps
waiting k (prefix ∷ ps) = cond (leb k strength_of_not) (waiting k ps) (prefix ∷ ps)
waiting k (infix' o a ∷ ps) = cond (leb k (strength o)) (waiting k ps) (infix' o a ∷ ps)

unfoldable pub end_operators : ℕ → Draft → Draft
end_operators k d = with_entries (ending k d.pending d.entries) (with_pending (waiting k d.pending) d)

-- a held name was a variable's
unfoldable pub settle_name : Draft → List Placed → Draft
settle_name d [] = d
settle_name d (t ∷ ts) = mentioning (use_of_variable (here d) t.bytes) t.place (adding (Entry.variable (here d) t.bytes) (with_held [] d))

unfoldable pub settled : Draft → Draft
settled d = settle_name d d.held

-- a held path leads to a node: each of its parts is a mention, of the path up to it
unfoldable pub mention_path : List Token → List Placed → Draft → Draft
mention_path q [] d = d
mention_path q (t ∷ ts) d = mention_path (q ▸ t.bytes) ts (mentioning (use_of_node (here d) (q ▸ t.bytes)) t.place d)

unfoldable pub all_bytes : List Placed → List Token
all_bytes [] = []
all_bytes (t ∷ ts) = t.bytes ∷ all_bytes ts

unfoldable pub negated : Bool → Draft → Draft
negated false d = d
negated true d = adding (negation (last d.entries)) d

unfoldable pub into_slot : Slot → ℕ → Node → Node
into_slot (condition k) e n = with_given (set n.given k e) n
into_slot value e n = with_body (elim n.body [ list ↦ list | Body.command c ↦ Body.command c | assignment x v ↦ assignment x e ]) n

-- ---- what a token adds
unfoldable pub hear : Saying → Placed → Draft → Draft
hear silence t d = d
hear declares_command t d = mentioning (Mention.command (length d.commands)) t.place (with_commands (d.commands ▸ record { name = t.bytes; number = 0 }) d)
hear numbers_command t d = with_commands (at_last (with_number (value_from 0 t.bytes)) d.commands) d
hear (declares_lookup k) t d = mentioning (Mention.lookup (length d.lookups)) t.place (with_lookups (d.lookups ▸ record { name = t.bytes; kind = k }) d)
hear names t d = mentioning (node (length d.nodes)) t.place (next_node t.bytes t.place d)
hear begins t d = next_node [] t.place d
hear opens_list t d = with_lists (here d) (suc d.depth) d
hear closes_list t d = with_lists (parent_in d.nodes d.above) (d.depth - 1) d
hear calls t d = mentioning (use_of_command t.bytes) t.place (on_node (with_body (Body.command t.bytes)) d)
hear assigns t d = mentioning (use_of_variable (here d) t.bytes) t.place (on_node (with_body (assignment t.bytes 0)) (with_slot value d))
hear (conditions k) t d = with_slot (condition k) d
hear ranks t d = on_node (with_priority (value_from 0 t.bytes)) d
hear (declares_variable k) t d =
    mentioning (Mention.variable (length d.variables)) t.place
    (with_variables (d.variables ▸ record { name = t.bytes; kind = k; owner = here d; known = 0; initial = 0 }) d)
hear (initial_truth b) t d = on_variable (with_initial (flag b)) d
hear (initial_whole s) t d = on_variable (with_initial (signed s (value_from 0 t.bytes))) d
hear (initial_decimal s) t d = on_variable (with_initial (real_bits s t.bytes)) d
hear (initial_bits s) t d = on_variable (with_initial (signed_bits s (value_from 0 t.bytes))) d
hear (truth b) t d = adding (constant boolean (flag b)) d
hear (whole s) t d = adding (constant integer (signed s (value_from 0 t.bytes))) d
hear (decimal s) t d = adding (constant float (real_bits s t.bytes)) d
hear (bits s) t d = adding (constant float (signed_bits s (value_from 0 t.bytes))) d
hear (unknown k) t d = adding (unknown_of k) d
hear reads t d = mentioning (use_of_lookup t.bytes) t.place (adding (Entry.lookup t.bytes) d)
hear mentions t d = with_held (t ∷ []) d
hear descends t d = with_held (d.held ▸ t) d
hear (asks w n k) t d = negated n (adding (about w (here d) (all_bytes d.held) k) (mention_path [] d.held (with_held [] d)))
hear negates t d = with_pending (prefix ∷ d.pending) d
hear (operates o) t d = let e = end_operators (strength o) (settled d) in with_pending (infix' o (last e.entries) ∷ e.pending) e
hear parenthesis t d = with_pending (paren ∷ d.pending) d
hear closes t d = let e = end_operators 0 (settled d) in with_pending (elim e.pending [ [] ↦ [] | p ∷ ps ↦ ps ]) e
hear ends t d = let e = end_operators 0 (settled d) in on_node (into_slot e.slot (last e.entries)) e

-- what is said, one token after another
unfoldable pub hear_all : List (Said Saying) → Draft → Draft
hear_all [] d = d
hear_all (s ∷ l) d = hear_all l (hear s.what s.token d)

-- the draft of what a text says
unfoldable pub draft_of : List (Said Saying) → Draft
draft_of l = hear_all l blank

-- opens every definition of this file
unfoldable pub opened : Unit {0}
unfolding ◌▸◌ at_last last on_node on_variable mentioning adding next_node parent_in strength made ending waiting end_operators settle_name settled mention_path all_bytes negated into_slot hear hear_all draft_of
opened = tt
