-- What each token adds to the counts of the draft is what `count_of` says.
use Prim.Native.Nat.{ℕ, ◌+◌}
use mathlib.Core.Path.{◌≡◌, refl, ◌∙◌, sym, ap}
use mathlib.Core.Bool.{Bool, true, false}
use mathlib.Core.List.{List, [], ◌∷◌}
use native.Mathlib.Omega.{arith}
use native.Mathlib.Numerals.{add-one}
use lib.ListN.{length}
use Rattle.grammar.specs.Spelling.{Placed}
use Rattle.notation.specs.Sayings.{Saying, silence, declares_command, numbers_command, declares_lookup, names, begins, opens_list, closes_list, calls, assigns, conditions, ranks, declares_variable, initial_truth, initial_whole, initial_decimal, initial_bits, truth, whole, decimal, bits, unknown, reads, mentions, descends, asks, negates, operates, parenthesis, closes, ends}
use Rattle.notation.specs.Draft.{Draft, Node, Slot, condition, value, with_pending, with_held, with_slot}
use Rattle.notation.specs.Hearing.{◌▸◌, last, mentioning, settled, end_operators, strength, negated, into_slot, hear}
use Rattle.recognise.specs.declared.Counts.{Counts}
use Rattle.recognise.specs.Counting.{flagged, entries_of, weight_of, change_of, adds, changed, count_of}
use Rattle.recognise.proofs.CountLaws.{pending_weight, holding, counts_of, entries_be, settled_as, same-counts, length_more, length_last, adding-counts, ending-counts, settled-counts, on-node, on-variable, next-node, path-counts, push-counts, pop-weight}

still : (n : ℕ) (c : Counts) → c ≡ changed adds 0 n c
unfolding changed
still n c = ap (λ (e : ℕ). entries_be e c) (omega arith)

holding-more : (h : List Placed) (t : Placed) → holding (h ▸ t) ≡ true
unfolding holding ◌▸◌
holding-more [] t = refl
holding-more (x ∷ h) t = refl

into-level : (s : Slot) (e : ℕ) (n : Node) → (into_slot s e n).level ≡ n.level
unfolding into_slot
into-level (condition k) e n = refl
into-level value e n = refl

into-place : (s : Slot) (e : ℕ) (n : Node) → (into_slot s e n).place ≡ n.place
unfolding into_slot
into-place (condition k) e n = refl
into-place value e n = refl

-- the question that ends a path
asked : (n : Bool) (d : Draft) (c : Counts) → counts_of d ≡ c → counts_of (negated n d) ≡ entries_be (c.entries + flagged n) c
unfolding negated flagged
asked false d c e = e ∙ ap (λ (k : ℕ). entries_be k c) (omega arith)
asked true d c e = adding-counts _ d ∙ ap (λ (x : Counts). entries_be (x.entries + 1) x) e

ended : (k : ℕ) (d : Draft) → counts_of (end_operators k (settled d)) ≡ settled_as (counts_of d)
ended k d = ending-counts k (settled d) ∙ settled-counts d

popping : (d : Draft) → counts_of (let e = end_operators 0 d in with_pending (elim e.pending [ [] ↦ [] | p ∷ ps ↦ ps ]) e) ≡ counts_of (end_operators 0 d)
unfolding counts_of end_operators
popping d = ap (λ (n : ℕ). entries_be (length (end_operators 0 d).entries + n) (counts_of (end_operators 0 d))) (pop-weight d.pending)

settle-still : (c : Counts) → settled_as c ≡ entries_be (c.entries + flagged c.held + 0) (settled_as c)
settle-still c = ap (λ (e : ℕ). entries_be e (settled_as c)) (omega arith)

pub count-hear : (w : Saying) (t : Placed) (d : Draft) → counts_of (hear w t d) ≡ count_of w t.place (counts_of d)
unfolding hear count_of change_of weight_of changed counts_of mentioning holding pending_weight
count-hear silence t d = still t.place (counts_of d)
count-hear declares_command t d = same-counts _ _ refl (omega arith) refl refl (length_more d.commands _) refl refl refl refl
count-hear numbers_command t d = same-counts _ _ refl (omega arith) refl refl (length_last _ d.commands) refl refl refl refl
count-hear (declares_lookup k) t d = same-counts _ _ refl (omega arith) refl (length_more d.lookups _) refl refl refl refl refl
count-hear names t d = next-node t.bytes t.place d
count-hear begins t d = next-node [] t.place d
count-hear opens_list t d = same-counts _ _ refl (omega arith) refl refl refl (sym (add-one d.depth)) refl refl refl
count-hear closes_list t d = same-counts _ _ refl (omega arith) refl refl refl refl refl refl refl
count-hear calls t d = on-node _ (λ n. refl) (λ n. refl) d ∙ still t.place (counts_of d)
count-hear assigns t d = on-node _ (λ n. refl) (λ n. refl) (with_slot value d) ∙ still t.place (counts_of d)
count-hear (conditions k) t d = still t.place (counts_of d)
count-hear ranks t d = on-node _ (λ n. refl) (λ n. refl) d ∙ still t.place (counts_of d)
count-hear (declares_variable k) t d = same-counts _ _ refl (omega arith) (length_more d.variables _) refl refl refl refl refl refl
count-hear (initial_truth b) t d = on-variable _ d ∙ still t.place (counts_of d)
count-hear (initial_whole b) t d = on-variable _ d ∙ still t.place (counts_of d)
count-hear (initial_decimal b) t d = on-variable _ d ∙ still t.place (counts_of d)
count-hear (initial_bits b) t d = on-variable _ d ∙ still t.place (counts_of d)
count-hear (truth b) t d = adding-counts _ d
count-hear (whole b) t d = adding-counts _ d
count-hear (decimal b) t d = adding-counts _ d
count-hear (bits b) t d = adding-counts _ d
count-hear (unknown k) t d = adding-counts _ d
count-hear reads t d = adding-counts _ d
count-hear mentions t d = same-counts _ _ refl (omega arith) refl refl refl refl refl refl refl
count-hear descends t d = same-counts _ _ refl (omega arith) refl refl refl refl (holding-more d.held t) refl refl
count-hear (asks w n k) t d =
    let e = with_held [] d in
    asked n _ (entries_be ((counts_of e).entries + 1) (counts_of e)) (adding-counts _ _ ∙ ap (λ (c : Counts). entries_be (c.entries + 1) c) (path-counts [] d.held e))
    ∙ ap (λ (x : ℕ). entries_be x (counts_of e)) (omega arith)
count-hear negates t d = ap (λ (x : ℕ). entries_be x (counts_of d)) (omega arith)
count-hear (operates o) t d =
    push-counts o (last (end_operators (strength o) (settled d)).entries) (end_operators (strength o) (settled d)) ∙ ap (λ (c : Counts). entries_be (c.entries + entries_of o) c) (ended (strength o) d)
count-hear parenthesis t d = still t.place (counts_of d)
count-hear closes t d = popping (settled d) ∙ ended 0 d ∙ settle-still (counts_of d)
count-hear ends t d = on-node _ (into-level _ _) (into-place _ _) (end_operators 0 (settled d)) ∙ ended 0 d ∙ settle-still (counts_of d)
