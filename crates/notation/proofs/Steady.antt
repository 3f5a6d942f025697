-- What holds of every draft: each variable that is read or assigned is mentioned, and each parent is a node's number or none.
use Prim.Native.Nat.{ℕ}
use mathlib.Core.Path.{◌≡◌, refl}
use mathlib.Core.Logic.{inr}
use mathlib.Core.Bool.{Bool, true, false}
use mathlib.Core.List.Memᴰ
use mathlib.Core.List.{List, [], ◌∷◌}
use native.Mathlib.Omega.{arith}
use lib.ListN.{length}
use Rattle.grammar.specs.Spelling.{Token, Placed}
use Rattle.grammar.specs.Leads.{value_from}
use Rattle.grammar.specs.Table.{Said}
use Rattle.notation.specs.Sayings.{Saying, silence, declares_command, numbers_command, declares_lookup, names, begins, opens_list, closes_list, calls, assigns, conditions, ranks, declares_variable, initial_truth, initial_whole, initial_decimal, initial_bits, truth, whole, decimal, bits, unknown, reads, mentions, descends, asks, negates, operates, parenthesis, closes, ends}
use Rattle.notation.specs.Draft.{Entry, Mention, Mentioned, Draft, Node, Body, Slot, with_held, with_body, with_priority}
use Rattle.notation.specs.Hearing.{◌▸◌, last, here, strength, ending, end_operators, settle_name, settled, mention_path, all_bytes, negated, into_slot, on_node, mentioning, adding, next_node, on_variable, hear, hear_all}
use Rattle.notation.proofs.Covered.{EntryCovered, BodyCovered, Steady, steady-on, steady-add, steady-ending, steady-node, steady-last, parent-bounded}

-- ---- each saying
abbrev pub IsSteady : Draft → Type 0
IsSteady d = Steady d.mentions d.entries d.nodes d.above

settled-steady : (d : Draft) → IsSteady d → IsSteady (settled d)
unfolding settled settle_name mentioning adding ◌▸◌
settled-steady d s = go d.held
  where
    go : (hs : List Placed) → IsSteady (settle_name d hs)
    go [] = s
    go (t ∷ ts) =
        let m : Mentioned = record { mention = Mention.use_of_variable (here d) t.bytes; place = t.place } in
        steady-add (d.mentions ▸ m) d.entries (Entry.variable (here d) t.bytes ∷ []) d.nodes d.above
        ((t.place, Memᴰ.append_right d.mentions (Memᴰ.head refl)), tt) (steady-on d.mentions (m ∷ []) d.entries d.nodes d.above s)

path-steady : (q : List Token) (ts : List Placed) (d : Draft) → IsSteady d → IsSteady (mention_path q ts d)
unfolding mention_path mentioning ◌▸◌
path-steady q [] d s = s
path-steady q (t ∷ ts) d s = path-steady (q ▸ t.bytes) ts _ (steady-on d.mentions (_ ∷ []) d.entries d.nodes d.above s)

negated-steady : (b : Bool) (d : Draft) → IsSteady d → IsSteady (negated b d)
unfolding negated adding ◌▸◌
negated-steady false d s = s
negated-steady true d s = steady-add d.mentions d.entries (_ ∷ []) d.nodes d.above (tt, tt) s

slot-body : (ms : List Mentioned) (q : Slot) (e j : ℕ) (n : Node) → BodyCovered ms j n.body → BodyCovered ms j (into_slot q e n).body
unfolding into_slot
slot-body ms (Slot.condition k) e j n h = h
slot-body ms Slot.value e j n h = go n.body h
  where
    go : (b : Body) → BodyCovered ms j b → BodyCovered ms j (elim b as (λ _. Body) [ Body.list ↦ Body.list | Body.command c ↦ Body.command c | Body.assignment x v ↦ Body.assignment x e ])
    go Body.list h = tt
    go (Body.command c) h = tt
    go (Body.assignment x v) h = h

slot-parent : (q : Slot) (e : ℕ) (n : Node) → (into_slot q e n).parent ≡ n.parent
unfolding into_slot
slot-parent (Slot.condition k) e n = refl
slot-parent Slot.value e n = refl

mentioned : (m : Mentioned) (d : Draft) → IsSteady d → Steady (d.mentions ▸ m) d.entries d.nodes d.above
unfolding ◌▸◌
mentioned m d s = steady-on d.mentions (m ∷ []) d.entries d.nodes d.above s

steady-entry : (ms : List Mentioned) (es : List Entry) (ns : List Node) (a : ℕ) (e : Entry) → EntryCovered ms e → Steady ms es ns a → Steady ms (es ▸ e) ns a
unfolding ◌▸◌
steady-entry ms es ns a e h s = steady-add ms es (e ∷ []) ns a (h, tt) s

added : (e : Entry) (d : Draft) → EntryCovered d.mentions e → IsSteady d → Steady d.mentions (d.entries ▸ e) d.nodes d.above
added e d h s = steady-entry d.mentions d.entries d.nodes d.above e h s

steady-hear : (x : Saying) (t : Placed) (d : Draft) → IsSteady d → IsSteady (hear x t d)
unfolding hear mentioning adding next_node on_node on_variable end_operators
steady-hear silence t d s = s
steady-hear declares_command t d s = mentioned _ d s
steady-hear numbers_command t d s = s
steady-hear (declares_lookup k) t d s = mentioned _ d s
steady-hear names t d s = steady-node _ d.entries d.nodes d.above _ refl refl (mentioned _ d s)
steady-hear begins t d s = steady-node d.mentions d.entries d.nodes d.above _ refl refl s
steady-hear opens_list t d s = record { entries = s.entries; bodies = s.bodies; parents = s.parents; within = inr (unfold last in omega arith) }
steady-hear closes_list t d s = record { entries = s.entries; bodies = s.bodies; parents = s.parents; within = parent-bounded (length d.nodes) d.nodes d.above s.parents }
steady-hear calls t d s = steady-last _ d.entries d.nodes d.above (with_body (Body.command t.bytes)) (λ n. refl) (λ j n e h. tt) (mentioned _ d s)
steady-hear assigns t d s =
    steady-last _ d.entries d.nodes d.above (with_body (Body.assignment t.bytes 0)) (λ n. refl)
    (λ j n e h. (t.place, rw e (unfold ◌▸◌ in Memᴰ.append_right d.mentions (Memᴰ.head refl)))) (mentioned _ d s)
steady-hear (conditions k) t d s = s
steady-hear ranks t d s = steady-last d.mentions d.entries d.nodes d.above (with_priority (value_from 0 t.bytes)) (λ n. refl) (λ j n e h. h) s
steady-hear (declares_variable k) t d s = mentioned _ d s
steady-hear (initial_truth b) t d s = s
steady-hear (initial_whole b) t d s = s
steady-hear (initial_decimal b) t d s = s
steady-hear (initial_bits b) t d s = s
steady-hear (truth b) t d s = added _ d tt s
steady-hear (whole b) t d s = added _ d tt s
steady-hear (decimal b) t d s = added _ d tt s
steady-hear (bits b) t d s = added _ d tt s
steady-hear (unknown k) t d s = added _ d tt s
steady-hear reads t d s = steady-entry _ d.entries d.nodes d.above _ tt (mentioned _ d s)
steady-hear mentions t d s = s
steady-hear descends t d s = s
steady-hear (asks w n k) t d s =
    let e = mention_path [] d.held (with_held [] d) in
    negated-steady n (adding (Entry.about w (here d) (all_bytes d.held) k) e) (added _ e tt (path-steady [] d.held (with_held [] d) s))
steady-hear negates t d s = s
steady-hear (operates o) t d s = let e = settled d in steady-ending e.mentions (strength o) e.pending e.entries e.nodes e.above (settled-steady d s)
steady-hear parenthesis t d s = s
steady-hear closes t d s = let e = settled d in steady-ending e.mentions 0 e.pending e.entries e.nodes e.above (settled-steady d s)
steady-hear ends t d s =
    let e = settled d in
    steady-last e.mentions (ending 0 e.pending e.entries) e.nodes e.above (into_slot e.slot (last (ending 0 e.pending e.entries))) (slot-parent e.slot _)
    (λ j n q h. slot-body e.mentions e.slot _ j n h) (steady-ending e.mentions 0 e.pending e.entries e.nodes e.above (settled-steady d s))

pub steady-all : (l : List (Said Saying)) (d : Draft) → IsSteady d → IsSteady (hear_all l d)
unfolding hear_all
steady-all [] d s = s
steady-all (w ∷ l) d s = steady-all l (hear w.what w.token d) (steady-hear w.what w.token d s)
