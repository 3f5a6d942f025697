-- "Combined freely": every abstract plan is said by the text that writes it. Places in the text and mentions are left out of the draft, and nothing else depends on them.
use Prim.Native.Nat.{ℕ, zero, suc, ◌+◌, ◌-◌}
use mathlib.Core.Path.{◌≡◌, refl, sym, ◌∙◌, ap}
use mathlib.Core.Bool.{Bool, true, false}
use mathlib.Core.List.{List, [], ◌∷◌}
use lib.ListN.{length}
use Rattle.grammar.specs.Spelling.{Token, Placed}
use Rattle.grammar.specs.Leads.{value_from}
use Rattle.notation.specs.Sayings.{What, Operator, Saying, silence, declares_command, numbers_command, declares_lookup, names, begins, opens_list, closes_list, calls, assigns, conditions, ranks, declares_variable, initial_truth, initial_whole, initial_decimal, initial_bits, truth, whole, decimal, bits, unknown, reads, mentions, descends, asks, negates, operates, parenthesis, closes, ends}
use Rattle.notation.specs.Draft.{Node, Entry, Mentioned, Body, Slot, Pending, Draft, blank, with_entries, with_mentions, with_held, with_pending, with_nodes, with_lists, with_variables, with_slot, with_body, with_priority}
use Rattle.notation.specs.Hearing as Hearing
use Rattle.notation.specs.Hearing.{◌▸◌, at_last, last, here, parent_in, settle_name, settled, end_operators, strength, mention_path, all_bytes, negated, into_slot, on_node, hear, hear_all, draft_of}
use Rattle.notation.specs.Abstract.{nowhere, unplaced, lay_plan}
use Rattle.notation.specs.Writing.{Word, plan_words, write}
use Rattle.notation.specs.Promises.{CombinedFreely}
use Rattle.notation.proofs.Goes.{said_from, goes-says}
use Rattle.notation.proofs.PlansGo.{plan-goes}
use Rattle.notation.proofs.FormulasHeard.{hear_word, hear_words, still, path-mentions}
use Rattle.notation.proofs.PlansHeard.{standing, plan-heard}

unheld : List Placed → List Placed
unheld [] = []
unheld (t ∷ ts) = record { bytes = t.bytes; place = 0 } ∷ unheld ts

-- a draft without places and mentions
abbrev forget : Draft → Draft
forget d = record { commands = d.commands; lookups = d.lookups; nodes = unplaced d.nodes; variables = d.variables; entries = d.entries; mentions = []; above = d.above; depth = d.depth; slot = d.slot; pending = d.pending; held = unheld d.held }

-- ---- the nodes without their places
unplaced-add : (ns : List Node) (n : Node) → unplaced (ns ▸ n) ≡ unplaced ns ▸ nowhere n
unfolding unplaced ◌▸◌
unplaced-add [] n = refl
unplaced-add (m ∷ ns) n = ap (λ l. nowhere m ∷ l) (unplaced-add ns n)

unplaced-many : (ns : List Node) → length (unplaced ns) ≡ length ns
unfolding unplaced
unplaced-many [] = refl
unplaced-many (n ∷ ns) = ap suc (unplaced-many ns)

same-last : (ns : List Node) → last ns ≡ last (unplaced ns)
unfolding last
same-last ns = rw (unplaced-many ns) refl

same-parent : (ns : List Node) (i : ℕ) → parent_in ns i ≡ parent_in (unplaced ns) i
unfolding unplaced parent_in
same-parent [] i = refl
same-parent (n ∷ ns) zero = refl
same-parent (n ∷ ns) (suc i) = same-parent ns i

-- a change that leaves the place alone
unplaced-last : (f : Node → Node) → ((n : Node) → unplaced (f n ∷ []) ≡ f (nowhere n) ∷ [])
    → (ns : List Node) → unplaced (at_last f ns) ≡ at_last f (unplaced ns)
unfolding unplaced at_last
unplaced-last f k [] = refl
unplaced-last f k (n ∷ []) = k n
unplaced-last f k (n ∷ (m ∷ ns)) = ap (λ l. nowhere n ∷ l) (unplaced-last f k (m ∷ ns))

unheld-add : (ts : List Placed) (t : Placed) → unheld (ts ▸ t) ≡ unheld ts ▸ record { bytes = t.bytes; place = 0 }
unfolding unheld ◌▸◌
unheld-add [] t = refl
unheld-add (x ∷ ts) t = ap (λ l. record { bytes = x.bytes; place = 0 } ∷ l) (unheld-add ts t)

same_bytes : (ts : List Placed) → all_bytes ts ≡ all_bytes (unheld ts)
unfolding unheld all_bytes
same_bytes [] = refl
same_bytes (t ∷ ts) = ap (λ l. t.bytes ∷ l) (same_bytes ts)

-- ---- what a token adds, without places and mentions
settle-forget : (d : Draft) → forget (settled d) ≡ still (forget d)
unfolding settled settle_name Hearing.adding Hearing.mentioning unheld
settle-forget d = go d.held
  where
    go : (hs : List Placed) → forget (settle_name d hs) ≡ with_mentions [] (settle_name (forget d) (unheld hs))
    go [] = refl
    go (t ∷ ts) = ap (λ (i : ℕ). with_entries (d.entries ▸ Entry.variable i t.bytes) (with_held [] (forget d))) (same-last d.nodes)

slot-unplaced : (s : Slot) (e : ℕ) (n : Node) → unplaced (into_slot s e n ∷ []) ≡ into_slot s e (nowhere n) ∷ []
unfolding unplaced into_slot
slot-unplaced (Slot.condition k) e n = refl
slot-unplaced Slot.value e n = refl

asked-forget : (w : What) (b : Bool) (k : ℕ) (d : Draft)
    → forget (negated b (Hearing.adding (Entry.about w (here d) (all_bytes d.held) k) (mention_path [] d.held (with_held [] d))))
    ≡ with_mentions [] (negated b (Hearing.adding (Entry.about w (here (forget d)) (all_bytes (unheld d.held)) k) (mention_path [] (unheld d.held) (with_held [] (forget d)))))
unfolding negated Hearing.adding unheld
asked-forget w b k d =
    ap (λ z. forget (negated b (Hearing.adding (Entry.about w (here d) (all_bytes d.held) k) z))) (path-mentions [] d.held (with_held [] d))
    ∙ middle b _ _ ∙ sym (ap (λ z. with_mentions [] (negated b (Hearing.adding (Entry.about w (here (forget d)) (all_bytes (unheld d.held)) k) z))) (path-mentions [] (unheld d.held) (with_held [] (forget d))))
  where
    entries : List Token → ℕ → List Entry
    entries l i = d.entries ▸ Entry.about w i l k

    same : entries (all_bytes d.held) (here d) ≡ entries (all_bytes (unheld d.held)) (here (forget d))
    same = ap (λ l. entries l (here d)) (same_bytes d.held) ∙ ap (entries (all_bytes (unheld d.held))) (same-last d.nodes)

    middle : (b : Bool) (m m' : List Mentioned) → forget (negated b (with_entries (entries (all_bytes d.held) (here d)) (with_mentions m (with_held [] d))))
        ≡ with_mentions [] (negated b (with_entries (entries (all_bytes (unheld d.held)) (here (forget d))) (with_mentions m' (with_held [] (forget d)))))
    middle false m m' = ap (λ es. with_entries es (with_held [] (forget d))) same
    middle true m m' = ap (λ es. with_entries (es ▸ Entry.negation (last es)) (with_held [] (forget d))) same

-- an operator, a closing parenthesis and the end, after a name that is settled
operated : Operator → Draft → Draft
operated o d = let e = end_operators (strength o) d in with_pending (Pending.infix' o (last e.entries) ∷ e.pending) e

closed : Draft → Draft
closed d = let e = end_operators 0 d in with_pending (elim e.pending [ [] ↦ [] | p ∷ ps ↦ ps ]) e

finished : Draft → Draft
finished d = let e = end_operators 0 d in on_node (into_slot e.slot (last e.entries)) e

finished-forget : (d : Draft) → forget (finished d) ≡ finished (forget d)
unfolding finished on_node end_operators
finished-forget d =
    ap (λ l. with_nodes l (end_operators 0 (forget d))) (unplaced-last (into_slot d.slot (last (end_operators 0 d).entries)) (slot-unplaced d.slot (last (end_operators 0 d).entries)) d.nodes)

forget-hear : (x : Saying) (t : Token) (n : ℕ) (d : Draft) → forget (hear x (record { bytes = t; place = n }) d) ≡ hear_word (record { says = x; token = t }) (forget d)
unfolding hear_word hear Hearing.mentioning Hearing.adding Hearing.next_node on_node Hearing.on_variable end_operators unheld operated closed finished
forget-hear silence t n d = refl
forget-hear declares_command t n d = refl
forget-hear numbers_command t n d = refl
forget-hear (declares_lookup k) t n d = refl
forget-hear names t n d = ap (λ l. with_nodes l (forget d)) (unplaced-add d.nodes _)
forget-hear begins t n d = ap (λ l. with_nodes l (forget d)) (unplaced-add d.nodes _)
forget-hear opens_list t n d = ap (λ (i : ℕ). with_lists i (suc d.depth) (forget d)) (same-last d.nodes)
forget-hear closes_list t n d = ap (λ (i : ℕ). with_lists i (d.depth - 1) (forget d)) (same-parent d.nodes d.above)
forget-hear calls t n d = ap (λ l. with_nodes l (forget d)) (unplaced-last (with_body (Body.command t)) (λ n. unfold unplaced in refl) d.nodes)
forget-hear assigns t n d = ap (λ l. with_slot Slot.value (with_nodes l (forget d))) (unplaced-last (with_body (Body.assignment t 0)) (λ n. unfold unplaced in refl) d.nodes)
forget-hear (conditions k) t n d = refl
forget-hear ranks t n d = ap (λ l. with_nodes l (forget d)) (unplaced-last (with_priority (value_from 0 t)) (λ n. unfold unplaced in refl) d.nodes)
forget-hear (declares_variable k) t n d = ap (λ (i : ℕ). with_variables (d.variables ▸ record { name = t; kind = k; owner = i; known = 0; initial = 0 }) (forget d)) (same-last d.nodes)
forget-hear (initial_truth b) t n d = refl
forget-hear (initial_whole s) t n d = refl
forget-hear (initial_decimal s) t n d = refl
forget-hear (initial_bits s) t n d = refl
forget-hear (truth b) t n d = refl
forget-hear (whole s) t n d = refl
forget-hear (decimal s) t n d = refl
forget-hear (bits s) t n d = refl
forget-hear (unknown k) t n d = refl
forget-hear reads t n d = refl
forget-hear mentions t n d = refl
forget-hear descends t n d = ap (λ l. with_held l (forget d)) (unheld-add d.held _)
forget-hear (asks w b k) t n d = asked-forget w b k d
forget-hear negates t n d = refl
forget-hear (operates o) t n d = ap (operated o) (settle-forget d)
forget-hear parenthesis t n d = refl
forget-hear closes t n d = ap closed (settle-forget d)
forget-hear ends t n d = finished-forget (settled d) ∙ ap finished (settle-forget d)

forget-all : (ws : List Word) (n : ℕ) (d : Draft) → forget (hear_all (said_from n ws) d) ≡ hear_words ws (forget d)
unfolding hear_all said_from hear_words
forget-all [] n d = refl
forget-all (w ∷ ws) n d = forget-all ws (suc (n + length w.token)) _ ∙ ap (hear_words ws) (forget-hear w.says w.token n d)

pub combined-freely : CombinedFreely
unfolding write draft_of unheld unplaced
combined-freely p h =
    let l = said_from 0 (plan_words p) in
    let r = plan-heard p h in
    let e : forget (draft_of l) ≡ standing p.commands p.lookups (lay_plan p) 65535 0 r.0 = forget-all (plan_words p) 0 blank ∙ r.1 in (
      l,
      goes-says (plan_words p) (plan-goes p h),
      record {
        commands = ap (λ d. d.commands) e;
        lookups = ap (λ d. d.lookups) e;
        nodes = ap (λ d. d.nodes) e;
        entries = ap (λ d. d.entries) e;
        variables = ap (λ d. d.variables) e;
      },
    )
