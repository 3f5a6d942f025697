-- A draft's nodes and variables only grow.
use Prim.Native.Nat.{◌≤◌}
use mathlib.Core.Path.{◌≡◌, refl, ap, ◌∙◌}
use mathlib.Core.Bool.{Bool, true, false}
use mathlib.Core.List.{List, [], ◌∷◌}
use native.Mathlib.Omega.{arith}
use lib.ListN.{length}
use Rattle.grammar.specs.Spelling.{Token, Placed}
use Rattle.grammar.specs.Table.{Said}
use Rattle.notation.specs.Sayings.{Saying, silence, declares_command, numbers_command, declares_lookup, names, begins, opens_list, closes_list, calls, assigns, conditions, ranks, declares_variable, initial_truth, initial_whole, initial_decimal, initial_bits, truth, whole, decimal, bits, unknown, reads, mentions, descends, asks, negates, operates, parenthesis, closes, ends}
use Rattle.notation.specs.Draft.{Entry, about, with_held, Draft}
use Rattle.notation.specs.Hearing as Hearing
use Rattle.notation.specs.Hearing.{◌▸◌, at_last, settle_name, mention_path, negated, adding, hear, hear_all}
use Rattle.names.proofs.ViewLaws.{length_last, length-snoc}

last_more {ℓ} : {A : Type ℓ} (f : A → A) (l m : List A) → l ≡ m → length m ≤ length (at_last f l)
last_more f l m e = omega (arith, length_last f l, ap length e)

one_more {ℓ} : {A : Type ℓ} (l : List A) (a : A) → length l ≤ length (l ▸ a)
one_more l a = omega (arith, length-snoc l a)

-- d has as many nodes and variables as e, or fewer
abbrev pub More : Draft → Draft → Type 0
More d e = (length d.nodes ≤ length e.nodes) × (length d.variables ≤ length e.variables)

settled-more : (d : Draft) (ts : List Placed) → ((settle_name d ts).nodes ≡ d.nodes) × ((settle_name d ts).variables ≡ d.variables)
unfolding settle_name Hearing.mentioning adding
settled-more d [] = (refl, refl)
settled-more d (t ∷ ts) = (refl, refl)

path-keeps : (q : List Token) (ts : List Placed) (d : Draft) → ((mention_path q ts d).nodes ≡ d.nodes) × ((mention_path q ts d).variables ≡ d.variables)
unfolding mention_path Hearing.mentioning
path-keeps q [] d = (refl, refl)
path-keeps q (t ∷ ts) d = path-keeps (q ▸ t.bytes) ts _

negated-keeps : (n : Bool) (d : Draft) → ((negated n d).nodes ≡ d.nodes) × ((negated n d).variables ≡ d.variables)
unfolding negated adding
negated-keeps true d = (refl, refl)
negated-keeps false d = (refl, refl)

asked-keeps : (n : Bool) (e : Entry) (d : Draft) → ((negated n (adding e (mention_path [] d.held (with_held [] d)))).nodes ≡ d.nodes) × ((negated n (adding e (mention_path [] d.held (with_held [] d)))).variables ≡ d.variables)
unfolding adding
asked-keeps n e d =
    let a = negated-keeps n (adding e (mention_path [] d.held (with_held [] d))) in
    let b = path-keeps [] d.held (with_held [] d) in
    (a.0 ∙ b.0, a.1 ∙ b.1)

hear-more : (x : Saying) (t : Placed) (d : Draft) → More d (hear x t d)
unfolding hear Hearing.mentioning Hearing.on_node Hearing.on_variable Hearing.next_node adding Hearing.end_operators Hearing.settled
hear-more silence t d = (omega arith, omega arith)
hear-more declares_command t d = (omega arith, omega arith)
hear-more numbers_command t d = (omega arith, omega arith)
hear-more (declares_lookup k) t d = (omega arith, omega arith)
hear-more names t d = (one_more d.nodes _, omega arith)
hear-more begins t d = (one_more d.nodes _, omega arith)
hear-more opens_list t d = (omega arith, omega arith)
hear-more closes_list t d = (omega arith, omega arith)
hear-more calls t d = (last_more _ d.nodes d.nodes refl, omega arith)
hear-more assigns t d = (last_more _ d.nodes d.nodes refl, omega arith)
hear-more (conditions k) t d = (omega arith, omega arith)
hear-more ranks t d = (last_more _ d.nodes d.nodes refl, omega arith)
hear-more (declares_variable k) t d = (omega arith, one_more d.variables _)
hear-more (initial_truth b) t d = (omega arith, last_more _ d.variables d.variables refl)
hear-more (initial_whole b) t d = (omega arith, last_more _ d.variables d.variables refl)
hear-more (initial_decimal b) t d = (omega arith, last_more _ d.variables d.variables refl)
hear-more (initial_bits b) t d = (omega arith, last_more _ d.variables d.variables refl)
hear-more (truth b) t d = (omega arith, omega arith)
hear-more (whole b) t d = (omega arith, omega arith)
hear-more (decimal b) t d = (omega arith, omega arith)
hear-more (bits b) t d = (omega arith, omega arith)
hear-more (unknown k) t d = (omega arith, omega arith)
hear-more reads t d = (omega arith, omega arith)
hear-more mentions t d = (omega arith, omega arith)
hear-more descends t d = (omega arith, omega arith)
hear-more (asks w n k) t d = let q = asked-keeps n (about w (Hearing.here d) (Hearing.all_bytes d.held) k) d in (omega (arith, ap length q.0), omega (arith, ap length q.1))
hear-more negates t d = (omega arith, omega arith)
hear-more (operates o) t d = let q = settled-more d d.held in (omega (arith, ap length q.0), omega (arith, ap length q.1))
hear-more parenthesis t d = (omega arith, omega arith)
hear-more closes t d = let q = settled-more d d.held in (omega (arith, ap length q.0), omega (arith, ap length q.1))
hear-more ends t d = let q = settled-more d d.held in (last_more _ (settle_name d d.held).nodes d.nodes q.0, omega (arith, ap length q.1))

pub more-all : (l : List (Said Saying)) (d : Draft) → More d (hear_all l d)
unfolding hear_all
more-all [] d = (omega arith, omega arith)
more-all (w ∷ l) d = let a = hear-more w.what w.token d in let b = more-all l (hear w.what w.token d) in (omega (arith, a.0, b.0), omega (arith, a.1, b.1))
