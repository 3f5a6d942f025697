-- The entries that a draft has and the operators that are pending: together they only grow.
use Prim.Native.Nat.{ℕ, suc, ◌+◌, ◌≤◌}
use mathlib.Core.Path.{◌≡◌, refl, ap}
use mathlib.Core.Bool.{Bool, true, false, cond}
use mathlib.Core.List.{List, [], ◌∷◌, ◌++◌}
use native.Mathlib.Omega.{arith}
use lib.ListN.{length, length-append}
use lib.Dec.{leb}
use borrow.Author.Tests.{le-leb}
use Rattle.grammar.specs.Spelling.{Token, Placed}
use Rattle.grammar.specs.Table.{Said}
use Rattle.notation.specs.Sayings.{Saying, silence, declares_command, numbers_command, declares_lookup, names, begins, opens_list, closes_list, calls, assigns, conditions, ranks, declares_variable, initial_truth, initial_whole, initial_decimal, initial_bits, truth, whole, decimal, bits, unknown, reads, mentions, descends, asks, negates, operates, parenthesis, closes, ends}
use Rattle.notation.specs.Draft.{Entry, negation, about, Pending, prefix, paren, infix', with_held, Draft}
use Rattle.notation.specs.Hearing as Hearing
use Rattle.notation.specs.Hearing.{◌▸◌, ending, waiting, last, made, strength, settle_name, mention_path, negated, adding, hear, hear_all}
use Rattle.names.proofs.ViewLaws.{length-snoc}
use Rattle.build.specs.Pendings.{operators}
use Rattle.build.proofs.Numbers.{made-two}

one_more : (es : List Entry) (n : ℕ) (e : Entry) → length es + n ≤ length (es ▸ e) + n
one_more es n e = omega (arith, length-snoc es e)

ending-more : (k : ℕ) (ps : List Pending) (es : List Entry) → length es + operators ps ≤ length (ending k ps es) + operators (waiting k ps)
unfolding ending waiting operators
ending-more k [] es = omega arith
ending-more k (paren ∷ ps) es = omega arith
ending-more k (prefix ∷ ps) es = go (leb k 3) (ending-more k ps (es ▸ negation (last es)))
  where
    go : (b : Bool) → length (es ▸ negation (last es)) + operators ps ≤ length (ending k ps (es ▸ negation (last es))) + operators (waiting k ps)
        → length es + suc (operators ps) ≤ length (cond b (ending k ps (es ▸ negation (last es))) es) + operators (cond b (waiting k ps) (prefix ∷ ps))
    go true h = omega (arith, length-snoc es (negation (last es)))
    go false h = omega arith
ending-more k (infix' o a ∷ ps) es = go (leb k (strength o)) (es ++ made o a (last es) (length es)) (omega (arith, length-append es (made o a (last es) (length es)), ap length (made-two o a (last es) (length es)))) (ending-more k ps (es ++ made o a (last es) (length es)))
  where
    go : (b : Bool) (fs : List Entry) → suc (length es) ≤ length fs → length fs + operators ps ≤ length (ending k ps fs) + operators (waiting k ps)
        → length es + suc (operators ps) ≤ length (cond b (ending k ps fs) es) + operators (cond b (waiting k ps) (infix' o a ∷ ps))
    go true fs m h = omega arith
    go false fs m h = omega arith

-- once all operators have ended, what is left begins with a parenthesis
closes-more : (ps : List Pending) → operators (waiting 0 ps) ≤ operators (elim (waiting 0 ps) as (λ _. List Pending) [ [] ↦ [] | p ∷ qs ↦ qs ])
unfolding waiting operators
closes-more [] = omega arith
closes-more (paren ∷ ps) = omega arith
closes-more (prefix ∷ ps) = closes-more ps
closes-more (infix' o a ∷ ps) = rw (le-leb 0 (strength o) (omega arith)) (closes-more ps)

settled-more : (d : Draft) (ts : List Placed) → length d.entries + operators d.pending ≤ length (settle_name d ts).entries + operators (settle_name d ts).pending
unfolding settle_name Hearing.mentioning adding
settled-more d [] = omega arith
settled-more d (t ∷ ts) = one_more d.entries (operators d.pending) _

path-keeps : (q : List Token) (ts : List Placed) (d : Draft) → ((mention_path q ts d).entries ≡ d.entries) × ((mention_path q ts d).pending ≡ d.pending)
unfolding mention_path Hearing.mentioning
path-keeps q [] d = (refl, refl)
path-keeps q (t ∷ ts) d = path-keeps (q ▸ t.bytes) ts _

negated-more : (n : Bool) (d : Draft) → length d.entries + operators d.pending ≤ length (negated n d).entries + operators (negated n d).pending
unfolding negated adding
negated-more true d = one_more d.entries (operators d.pending) _
negated-more false d = omega arith

hear-more : (x : Saying) (t : Placed) (d : Draft) → length d.entries + operators d.pending ≤ length (hear x t d).entries + operators (hear x t d).pending
unfolding hear Hearing.mentioning Hearing.on_node Hearing.on_variable Hearing.next_node adding Hearing.end_operators Hearing.settled operators
hear-more silence t d = omega arith
hear-more declares_command t d = omega arith
hear-more numbers_command t d = omega arith
hear-more (declares_lookup k) t d = omega arith
hear-more names t d = omega arith
hear-more begins t d = omega arith
hear-more opens_list t d = omega arith
hear-more closes_list t d = omega arith
hear-more calls t d = omega arith
hear-more assigns t d = omega arith
hear-more (conditions k) t d = omega arith
hear-more ranks t d = omega arith
hear-more (declares_variable k) t d = omega arith
hear-more (initial_truth b) t d = omega arith
hear-more (initial_whole b) t d = omega arith
hear-more (initial_decimal b) t d = omega arith
hear-more (initial_bits b) t d = omega arith
hear-more (truth b) t d = one_more d.entries (operators d.pending) _
hear-more (whole b) t d = one_more d.entries (operators d.pending) _
hear-more (decimal b) t d = one_more d.entries (operators d.pending) _
hear-more (bits b) t d = one_more d.entries (operators d.pending) _
hear-more (unknown k) t d = one_more d.entries (operators d.pending) _
hear-more reads t d = one_more d.entries (operators d.pending) _
hear-more mentions t d = omega arith
hear-more descends t d = omega arith
hear-more (asks w n k) t d = let q = path-keeps [] d.held (with_held [] d) in omega (arith, ap length q.0, ap operators q.1, negated-more n (adding (about w (Hearing.here d) (Hearing.all_bytes d.held) k) (mention_path [] d.held (with_held [] d))), length-snoc (mention_path [] d.held (with_held [] d)).entries (about w (Hearing.here d) (Hearing.all_bytes d.held) k))
hear-more negates t d = omega arith
hear-more (operates o) t d = omega (arith, settled-more d d.held, ending-more (strength o) (settle_name d d.held).pending (settle_name d d.held).entries)
hear-more parenthesis t d = omega arith
hear-more closes t d = omega (arith, settled-more d d.held, ending-more 0 (settle_name d d.held).pending (settle_name d d.held).entries, closes-more (settle_name d d.held).pending)
hear-more ends t d = omega (arith, settled-more d d.held, ending-more 0 (settle_name d d.held).pending (settle_name d d.held).entries)

pub burden-grows : (l : List (Said Saying)) (d : Draft) → length d.entries + operators d.pending ≤ length (hear_all l d).entries + operators (hear_all l d).pending
unfolding hear_all
burden-grows [] d = omega arith
burden-grows (w ∷ l) d = omega (arith, hear-more w.what w.token d, burden-grows l (hear w.what w.token d))
