-- Each node of a draft has seven conditions.
use Prim.Native.Nat.{ℕ}
use mathlib.Core.Path.{◌≡◌, refl, ◌∙◌}
use mathlib.Core.Bool.{Bool, true, false}
use mathlib.Core.List.{List, [], ◌∷◌}
use lib.ListN.{length, length-set}
use Rattle.grammar.specs.Spelling.{Token, Placed}
use Rattle.grammar.specs.Leads.{value_from}
use Rattle.grammar.specs.Table.{Said}
use Rattle.notation.specs.Sayings.{Saying, silence, declares_command, numbers_command, declares_lookup, names, begins, opens_list, closes_list, calls, assigns, conditions, ranks, declares_variable, initial_truth, initial_whole, initial_decimal, initial_bits, truth, whole, decimal, bits, unknown, reads, mentions, descends, asks, negates, operates, parenthesis, closes, ends}
use Rattle.notation.specs.Draft.{Node, Body, assignment, Slot, condition, value, Draft, with_body, with_priority, with_held}
use Rattle.notation.specs.Hearing.{◌▸◌, at_last, on_node, on_variable, mentioning, adding, next_node, settle_name, settled, end_operators, mention_path, negated, into_slot, hear, hear_all}

-- ---- seven conditions
abbrev pub Seven : List Node → Type 0
Seven [] = Unit {0}
Seven (n ∷ ns) = (length n.given ≡ 7) × Seven ns

pub seven-add : (ns : List Node) (n : Node) → Seven ns → length n.given ≡ 7 → Seven (ns ▸ n)
unfolding ◌▸◌
seven-add [] n h e = (e, tt)
seven-add (m ∷ ns) n h e = (h.0, seven-add ns n h.1 e)

pub seven-last : (f : Node → Node) → ((n : Node) → length (f n).given ≡ length n.given) → (ns : List Node) → Seven ns → Seven (at_last f ns)
unfolding at_last
seven-last f k [] h = tt
seven-last f k (n ∷ []) h = (k n ∙ h.0, tt)
seven-last f k (n ∷ (m ∷ ns)) h = (h.0, seven-last f k (m ∷ ns) h.1)

pub settled-nodes : (d : Draft) → (settled d).nodes ≡ d.nodes
unfolding settled settle_name mentioning adding
settled-nodes d = go d.held
  where
    go : (ts : List Placed) → (settle_name d ts).nodes ≡ d.nodes
    go [] = refl
    go (t ∷ ts) = refl

pub path-nodes : (q : List Token) (ts : List Placed) (d : Draft) → (mention_path q ts d).nodes ≡ d.nodes
unfolding mention_path mentioning
path-nodes q [] d = refl
path-nodes q (t ∷ ts) d = path-nodes (q ▸ t.bytes) ts _

pub negated-nodes : (b : Bool) (d : Draft) → (negated b d).nodes ≡ d.nodes
unfolding negated adding
negated-nodes true d = refl
negated-nodes false d = refl

pub slot-given : (s : Slot) (e : ℕ) (n : Node) → length (into_slot s e n).given ≡ length n.given
unfolding into_slot
slot-given (condition k) e n = length-set n.given k e
slot-given value e n = refl

pub seven-hear : (x : Saying) (t : Placed) (d : Draft) → Seven d.nodes → Seven (hear x t d).nodes
unfolding hear mentioning adding next_node on_node on_variable end_operators
seven-hear silence t d h = h
seven-hear declares_command t d h = h
seven-hear numbers_command t d h = h
seven-hear (declares_lookup k) t d h = h
seven-hear names t d h = seven-add d.nodes _ h refl
seven-hear begins t d h = seven-add d.nodes _ h refl
seven-hear opens_list t d h = h
seven-hear closes_list t d h = h
seven-hear calls t d h = seven-last (with_body (Body.command t.bytes)) (λ n. refl) d.nodes h
seven-hear assigns t d h = seven-last (with_body (assignment t.bytes 0)) (λ n. refl) d.nodes h
seven-hear (conditions k) t d h = h
seven-hear ranks t d h = seven-last (with_priority (value_from 0 t.bytes)) (λ n. refl) d.nodes h
seven-hear (declares_variable k) t d h = h
seven-hear (initial_truth b) t d h = h
seven-hear (initial_whole s) t d h = h
seven-hear (initial_decimal s) t d h = h
seven-hear (initial_bits s) t d h = h
seven-hear (truth b) t d h = h
seven-hear (whole s) t d h = h
seven-hear (decimal s) t d h = h
seven-hear (bits s) t d h = h
seven-hear (unknown k) t d h = h
seven-hear reads t d h = h
seven-hear mentions t d h = h
seven-hear descends t d h = h
seven-hear (asks w n k) t d h = rw (negated-nodes n, path-nodes [] d.held (with_held [] d)) h
seven-hear negates t d h = h
seven-hear (operates o) t d h = rw (settled-nodes d) h
seven-hear parenthesis t d h = h
seven-hear closes t d h = rw (settled-nodes d) h
seven-hear ends t d h = seven-last (into_slot (settled d).slot _) (slot-given (settled d).slot _) (settled d).nodes (rw (settled-nodes d) h)

pub seven-all : (l : List (Said Saying)) (d : Draft) → Seven d.nodes → Seven (hear_all l d).nodes
unfolding hear_all
seven-all [] d h = h
seven-all (w ∷ l) d h = seven-all l (hear w.what w.token d) (seven-hear w.what w.token d h)
