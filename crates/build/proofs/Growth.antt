-- A draft's entries only grow.
use Prim.Native.Nat.{ℕ, ◌≤◌}
use mathlib.Core.Path.{◌≡◌, refl, ap}
use mathlib.Core.Bool.{Bool, true, false, cond}
use mathlib.Core.List.{List, [], ◌∷◌, ◌++◌}
use native.Mathlib.Omega.{arith}
use lib.ListN.{length, length-append}
use lib.Dec.{leb}
use Rattle.grammar.specs.Spelling.{Token, Placed}
use Rattle.grammar.specs.Table.{Said}
use Rattle.notation.specs.Sayings.{Saying, silence, declares_command, numbers_command, declares_lookup, names, begins, opens_list, closes_list, calls, assigns, conditions, ranks, declares_variable, initial_truth, initial_whole, initial_decimal, initial_bits, truth, whole, decimal, bits, unknown, reads, mentions, descends, asks, negates, operates, parenthesis, closes, ends}
use Rattle.notation.specs.Draft.{Entry, negation, Pending, prefix, paren, infix', about, with_held, Draft}
use Rattle.notation.specs.Hearing as Hearing
use Rattle.notation.specs.Hearing.{◌▸◌, ending, last, made, strength, settled, settle_name, mention_path, negated, adding, hear, hear_all}

abbrev size : Draft → ℕ
size d = length d.entries

more-grows : (es : List Entry) (e : Entry) → length es ≤ length (es ▸ e)
unfolding ◌▸◌
more-grows es e = omega (arith, length-append es (e ∷ []))

ending-grows : (k : ℕ) (ps : List Pending) (es : List Entry) → length es ≤ length (ending k ps es)
unfolding ending
ending-grows k [] es = omega arith
ending-grows k (paren ∷ ps) es = omega arith
ending-grows k (prefix ∷ ps) es = go (leb k 3) (ending-grows k ps (es ▸ negation (last es))) (more-grows es (negation (last es)))
  where
    go : (b : Bool) → length (es ▸ negation (last es)) ≤ length (ending k ps (es ▸ negation (last es))) → length es ≤ length (es ▸ negation (last es))
        → length es ≤ length (cond b (ending k ps (es ▸ negation (last es))) es)
    go true h m = omega arith
    go false h m = omega arith
ending-grows k (infix' o a ∷ ps) es = go (leb k (strength o)) (es ++ made o a (last es) (length es)) (omega (arith, length-append es (made o a (last es) (length es)))) (ending-grows k ps (es ++ made o a (last es) (length es)))
  where
    go : (b : Bool) (fs : List Entry) → length es ≤ length fs → length fs ≤ length (ending k ps fs) → length es ≤ length (cond b (ending k ps fs) es)
    go true fs m h = omega arith
    go false fs m h = omega arith

settled-grows : (d : Draft) (ts : List Placed) → size d ≤ size (settle_name d ts)
unfolding settle_name Hearing.mentioning adding
settled-grows d [] = omega arith
settled-grows d (t ∷ ts) = more-grows d.entries _

path-keeps : (q : List Token) (ts : List Placed) (d : Draft) → (mention_path q ts d).entries ≡ d.entries
unfolding mention_path Hearing.mentioning
path-keeps q [] d = refl
path-keeps q (t ∷ ts) d = path-keeps (q ▸ t.bytes) ts _

negated-grows : (n : Bool) (d : Draft) → size d ≤ size (negated n d)
unfolding negated adding
negated-grows true d = more-grows d.entries _
negated-grows false d = omega arith

hear-grows : (x : Saying) (t : Placed) (d : Draft) → size d ≤ size (hear x t d)
unfolding hear Hearing.mentioning Hearing.on_node Hearing.on_variable Hearing.next_node adding Hearing.end_operators settled
hear-grows silence t d = omega arith
hear-grows declares_command t d = omega arith
hear-grows numbers_command t d = omega arith
hear-grows (declares_lookup k) t d = omega arith
hear-grows names t d = omega arith
hear-grows begins t d = omega arith
hear-grows opens_list t d = omega arith
hear-grows closes_list t d = omega arith
hear-grows calls t d = omega arith
hear-grows assigns t d = omega arith
hear-grows (conditions k) t d = omega arith
hear-grows ranks t d = omega arith
hear-grows (declares_variable k) t d = omega arith
hear-grows (initial_truth b) t d = omega arith
hear-grows (initial_whole b) t d = omega arith
hear-grows (initial_decimal b) t d = omega arith
hear-grows (initial_bits b) t d = omega arith
hear-grows (truth b) t d = more-grows d.entries _
hear-grows (whole b) t d = more-grows d.entries _
hear-grows (decimal b) t d = more-grows d.entries _
hear-grows (bits b) t d = more-grows d.entries _
hear-grows (unknown k) t d = more-grows d.entries _
hear-grows reads t d = more-grows d.entries _
hear-grows mentions t d = omega arith
hear-grows descends t d = omega arith
hear-grows (asks w n k) t d = omega (arith, ap (λ x. length x) (path-keeps [] d.held (with_held [] d)), more-grows (mention_path [] d.held (with_held [] d)).entries (about w (Hearing.here d) (Hearing.all_bytes d.held) k), negated-grows n (adding (about w (Hearing.here d) (Hearing.all_bytes d.held) k) (mention_path [] d.held (with_held [] d))))
hear-grows negates t d = omega arith
hear-grows (operates o) t d = after-grows (strength o)
  where
    after-grows : (k : ℕ) → size d ≤ length (ending k (settle_name d d.held).pending (settle_name d d.held).entries)
    after-grows k = omega (arith, settled-grows d d.held, ending-grows k (settle_name d d.held).pending (settle_name d d.held).entries)
hear-grows parenthesis t d = omega arith
hear-grows closes t d = omega (arith, settled-grows d d.held, ending-grows 0 (settle_name d d.held).pending (settle_name d d.held).entries)
hear-grows ends t d = omega (arith, settled-grows d d.held, ending-grows 0 (settle_name d d.held).pending (settle_name d d.held).entries)

pub grows : (l : List (Said Saying)) (d : Draft) → length d.entries ≤ length (hear_all l d).entries
unfolding hear_all
grows [] d = omega arith
grows (w ∷ l) d = omega (arith, hear-grows w.what w.token d, grows l (hear w.what w.token d))
