-- What a token adds by the number of what it says: the tables are the definition's, by one computed test.
use Prim.Native.Nat.{ℕ, zero, suc, ◌+◌, ◌-◌, ◌<◌, ◌≤◌}
use mathlib.Core.Path.{◌≡◌, refl, ◌∙◌}
use mathlib.Core.Bool.{Bool, true, false, ◌||◌}
use native.Mathlib.Omega.{arith}
use mir.Val.{bool_byte}
use lib.ListN.{get_or}
use lib.Dec.{ltb}
use Rattle.recognise.specs.declared.Counts.{Counts}
use Rattle.recognise.specs.Codes as Codes
use Rattle.recognise.specs.Codes.{say_of}
use Rattle.recognise.specs.Counting as Counting
use Rattle.recognise.specs.Counting.{flagged, weight_of, Change, adds, node, closes_one, settles, change_of, weights, changes, change_list, changed, count_of}
use Rattle.recognise.proofs.Claims.{listing}
use Rattle.recognise.proofs.Claimed.{listed}
use Rattle.recognise.proofs.Rowing.{get_or-at_most, at_most}

weights-right : listing (λ n. get_or weights n 0) 0 94 ≡ listing (λ n. weight_of (say_of n)) 0 94
unfolding Codes.opened Counting.opened listing
weights-right = refl

changes-right : listing (λ n. get_or change_list (get_or changes n 0) adds) 0 94 ≡ listing (λ n. change_of (say_of n)) 0 94
unfolding Codes.opened Counting.opened listing
changes-right = refl

pub weight-small : (n : ℕ) → get_or weights n 0 ≤ 2
unfolding weights at_most
weight-small n = get_or-at_most 2 weights refl n

pub count_by : (n : ℕ) (p : ℕ) (c : Counts) → n < 94 → {w : ℕ} → w ≡ get_or weights n 0 → (x : Change) → x ≡ get_or change_list (get_or changes n 0) adds
    → changed x w p c ≡ count_of (say_of n) p c
unfolding count_of
count_by n p c h {w} e x f =
    let a : w ≡ weight_of (say_of n) = e ∙ listed (λ j. get_or weights j 0) (λ j. weight_of (say_of j)) 94 0 weights-right n h in
    let b : x ≡ change_of (say_of n) = f ∙ listed (λ j. get_or change_list (get_or changes j 0) adds) (λ j. change_of (say_of j)) 94 adds changes-right n h in
    λ i. changed (b i) (a i) p c

-- a change that is none of those after the first
pub change-none : (k : ℕ) → (k ≡ 9 → ⊥) → (k ≡ 1 → ⊥) → (k ≡ 2 → ⊥) → (k ≡ 3 → ⊥) → (k ≡ 4 → ⊥) → (k ≡ 5 → ⊥) → (k ≡ 6 → ⊥) → (k ≡ 7 → ⊥) → (k ≡ 8 → ⊥) → get_or change_list k adds ≡ adds
unfolding change_list
change-none zero n9 n1 n2 n3 n4 n5 n6 n7 n8 = refl
change-none (suc zero) n9 n1 n2 n3 n4 n5 n6 n7 n8 = absurd (n1 refl)
change-none (suc (suc zero)) n9 n1 n2 n3 n4 n5 n6 n7 n8 = absurd (n2 refl)
change-none (suc (suc (suc zero))) n9 n1 n2 n3 n4 n5 n6 n7 n8 = absurd (n3 refl)
change-none (suc (suc (suc (suc zero)))) n9 n1 n2 n3 n4 n5 n6 n7 n8 = absurd (n4 refl)
change-none (suc (suc (suc (suc (suc zero))))) n9 n1 n2 n3 n4 n5 n6 n7 n8 = absurd (n5 refl)
change-none (suc (suc (suc (suc (suc (suc zero)))))) n9 n1 n2 n3 n4 n5 n6 n7 n8 = absurd (n6 refl)
change-none (suc (suc (suc (suc (suc (suc (suc zero))))))) n9 n1 n2 n3 n4 n5 n6 n7 n8 = absurd (n7 refl)
change-none (suc (suc (suc (suc (suc (suc (suc (suc zero)))))))) n9 n1 n2 n3 n4 n5 n6 n7 n8 = absurd (n8 refl)
change-none (suc (suc (suc (suc (suc (suc (suc (suc (suc zero))))))))) n9 n1 n2 n3 n4 n5 n6 n7 n8 = absurd (n9 refl)
change-none (suc (suc (suc (suc (suc (suc (suc (suc (suc (suc k)))))))))) n9 n1 n2 n3 n4 n5 n6 n7 n8 = refl

pub flagged-small : (b : Bool) → flagged b ≤ 1
unfolding flagged
flagged-small true = omega arith
flagged-small false = omega arith

pub byte-flagged : (b : Bool) → bool_byte b ≡ flagged b
unfolding flagged
byte-flagged true = refl
byte-flagged false = refl

-- three changes as the code makes them
module _ (c : Counts) (w p : ℕ) where
  pub settles-by : {h : ℕ} → h ≡ flagged c.held
      → record { nodes = c.nodes; entries = c.entries + w + h; variables = c.variables; lookups = c.lookups; commands = c.commands; depth = c.depth; held = false; deep = c.deep; place = c.place } ≡ changed settles w p c
  unfolding changed
  settles-by {h} e =
      let z : c.entries + w + h ≡ c.entries + flagged c.held + w = omega (arith, e) in
      λ i. record { nodes = c.nodes; entries = z i; variables = c.variables; lookups = c.lookups; commands = c.commands; depth = c.depth; held = false; deep = c.deep; place = c.place }

  pub node_by : {q : ℕ} → q ≡ (changed node 0 p c).place
      → record { nodes = c.nodes + 1; entries = c.entries + w; variables = c.variables; lookups = c.lookups; commands = c.commands; depth = c.depth; held = c.held; deep = c.deep || ltb 16 (c.depth + 1); place = q } ≡ changed node w p c
  unfolding changed
  node_by e = λ i. record { nodes = c.nodes + 1; entries = c.entries + w; variables = c.variables; lookups = c.lookups; commands = c.commands; depth = c.depth; held = c.held; deep = c.deep || ltb 16 (c.depth + 1); place = e i }

  pub closes-by : {q : ℕ} → q ≡ c.depth - 1
      → record { nodes = c.nodes; entries = c.entries + w; variables = c.variables; lookups = c.lookups; commands = c.commands; depth = q; held = c.held; deep = c.deep; place = c.place } ≡ changed closes_one w p c
  unfolding changed
  closes-by e = λ i. record { nodes = c.nodes; entries = c.entries + w; variables = c.variables; lookups = c.lookups; commands = c.commands; depth = e i; held = c.held; deep = c.deep; place = c.place }
