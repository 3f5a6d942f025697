-- The words of every abstract plan follow the rows of a plan.
use Prim.Native.Nat.{ℕ, ◌≤◌}
use mathlib.Core.Path.{◌≡◌, refl, ap}
use mathlib.Core.List.Memᴰ
use mathlib.Core.List.{List, [], ◌∷◌, ◌++◌}
use mathlib.Core.Option.{Option}
use native.Mathlib.Omega.{arith}
use borrow.Author.Tests.{ne_eqb}
use lib.ListN.{length}
use Rattle.grammar.specs.Spelling as Spelling
use Rattle.grammar.specs.Spelling.{Token}
use Rattle.grammar.specs.Leads as Leads
use Rattle.grammar.specs.Leads.{name, up_to}
use Rattle.grammar.specs.Table.{Item, lit, sort, pick}
use Rattle.notation.specs.Sayings.{Kind, boolean, integer, float, declares_command, numbers_command, declares_lookup, names, calls, assigns}
use Rattle.notation.specs.Rows.{semicolon, Sort, plan, nodes, command_name, command_number, called_name, target_name, lookup_name, attributes, met, kind_word, ◌↣◌says◌}
use Rattle.notation.specs.Rows as Table
use Rattle.notation.specs.Draft.{Command, Lookup}
use Rattle.notation.specs.Abstract.{Expr, Own, Tree, node, Task, Forest, Abstract, FineOwned, FineConditions, FineName, FineTree, FineTask, FineForest, FineCommands, FineLookups, FineAbstract}
use Rattle.notation.specs.Writing as Writing
use Rattle.notation.specs.Writing.{Word, named, numeral, owned_words, priority_words, condition_words, opening_words, tree_words, task_words, forest_words, command_words, lookup_words, plan_words}
use Rattle.notation.proofs.Goes.{Goes, stop, step, goes-append, by_row}
use Rattle.notation.proofs.Numerals.{numeral-accepted}
use Rattle.notation.proofs.FormulasGo.{expr-goes, ends-go}
use Rattle.notation.proofs.AttributesGo.{owned-goes, priority-goes, conditions-go}

-- ---- nodes
open-root : (x : Token) → FineName x → Goes (sort plan ∷ []) (opening_words x) (sort (attributes []) ∷ [])
unfolding Table.opened Spelling.opened Leads.opened pick opening_words
open-root [] h = step _ refl refl stop
open-root (b ∷ x) h =
    by_row plan (name ↣ lit ":" ∷ lit "{" ∷ sort (attributes []) ∷ [] says names) (b ∷ x) (Memᴰ.tail (Memᴰ.head refl)) h (step _ refl refl (step _ refl refl stop))

open-child : (x : Token) (s : List (Item Sort)) → FineName x → Goes (sort nodes ∷ s) (opening_words x) (sort (attributes []) ∷ sort nodes ∷ s)
unfolding Table.opened Spelling.opened Leads.opened pick opening_words
open-child [] s h = step _ refl refl stop
open-child (b ∷ x) s h =
    by_row nodes (name ↣ lit ":" ∷ lit "{" ∷ sort (attributes []) ∷ sort nodes ∷ [] says names) (b ∷ x) (Memᴰ.tail (Memᴰ.tail (Memᴰ.head refl))) h
    (step _ refl refl (step _ refl refl stop))

-- what a node says of itself, before what it is
told-goes : (os : List Own) (p : ℕ) (cs : List (Option Expr)) (s : List (Item Sort)) → FineOwned os → p ≤ 65535 → length cs ≡ 7 → FineConditions cs
    → (n : List ℕ) × Goes (sort (attributes []) ∷ s) (owned_words os ++ (priority_words p ++ condition_words 0 cs)) (sort (attributes n) ∷ s)
unfolding met
told-goes os p cs s a b c d =
    let k = conditions-go cs 0 (7 ∷ []) s (omega arith) (λ j l m. rw (ne_eqb j 7 (λ z. omega arith)) refl) d in
    (k.0, goes-append (owned-goes os [] s a) (goes-append (priority-goes p s b) k.1))

append-four : (a b c d : List Word) → a ++ (b ++ (c ++ d)) ≡ (a ++ (b ++ c)) ++ d
append-four [] [] c d = refl
append-four [] (x ∷ b) c d = ap (λ l. x ∷ l) (append-four [] b c d)
append-four (x ∷ a) b c d = ap (λ l. x ∷ l) (append-four a b c d)

mutual
  unfolding Table.opened Spelling.opened Leads.opened pick tree_words

  tree-goes : (t : Tree) (s : List (Item Sort)) → FineTree t → Goes (sort nodes ∷ s) (tree_words t) (sort nodes ∷ s)
  tree-goes (node x os p cs t) s h =
      let k = told-goes os p cs (sort nodes ∷ s) h.1 h.2 h.3 h.4 in
      goes-append (open-child x s h.0) (rw (append-four (owned_words os) (priority_words p) (condition_words 0 cs) (task_words t)) (goes-append k.1 (task-goes t k.0 (sort nodes ∷ s) h.5)))

  task-goes : (t : Task) (m : List ℕ) (s : List (Item Sort)) → FineTask t → Goes (sort (attributes m) ∷ s) (task_words t) s
  task-goes (Task.list ts) m s h = step _ refl refl (step _ refl refl (step _ refl refl (forest-goes ts s h)))
  task-goes (Task.command c) m s h =
      step _ refl refl (step _ refl refl (by_row called_name (name ↣ [] says calls) c (Memᴰ.head refl) h
      (step _ refl refl (step _ refl refl (step _ refl refl (step _ refl refl stop))))))
  task-goes (Task.assignment x e) m s h =
      let p = expr-goes e semicolon (lit "}" ∷ s) h.1 in
      step _ refl refl (step _ refl refl (by_row target_name (name ↣ [] says assigns) x (Memᴰ.head refl) h.0
      (step _ refl refl (goes-append p.2 (goes-append (ends-go p.0 (lit "}" ∷ s) p.1) (step _ refl refl stop))))))

  forest-goes : (ts : Forest) (s : List (Item Sort)) → FineForest ts → Goes (sort nodes ∷ s) (forest_words ts) s
  forest-goes Forest.bare s h = step _ refl refl (step _ refl refl stop)
  forest-goes (Forest.also t ts) s h = goes-append (tree-goes t s h.0) (forest-goes ts s h.1)

root-goes : (t : Tree) → FineTree t → Goes (sort plan ∷ []) (tree_words t) []
unfolding tree_words
root-goes (node x os p cs t) h =
    let k = told-goes os p cs [] h.1 h.2 h.3 h.4 in
    goes-append (open-root x h.0) (rw (append-four (owned_words os) (priority_words p) (condition_words 0 cs) (task_words t)) (goes-append k.1 (task-goes t k.0 [] h.5)))

-- ---- declarations
commands-go : (cs : List Command) → FineCommands cs → Goes (sort plan ∷ []) (command_words cs) (sort plan ∷ [])
unfolding Table.opened Spelling.opened Leads.opened pick command_words
commands-go [] h = stop
commands-go (c ∷ cs) h =
    step _ refl refl (by_row command_name (name ↣ [] says declares_command) c.name (Memᴰ.head refl) h.0
    (step _ refl refl (by_row command_number (up_to 65534 ↣ [] says numbers_command) (numeral c.number) (Memᴰ.head refl) (numeral-accepted 65534 c.number h.1 (omega arith))
    (step _ refl refl (commands-go cs h.2)))))

lookups-go : (ls : List Lookup) → FineLookups ls → Goes (sort plan ∷ []) (lookup_words ls) (sort plan ∷ [])
unfolding Table.opened Spelling.opened Leads.opened pick lookup_words
lookups-go [] h = stop
lookups-go (l ∷ ls) h = declared l.kind (lookups-go ls h.1)
  where
    declared : (k : Kind) {ws : List Word} → Goes (sort plan ∷ []) ws (sort plan ∷ [])
        → Goes (sort plan ∷ []) (Writing.silent (kind_word k) ∷ Writing.silent "Lookup" ∷ named (declares_lookup k) l.name ∷ Writing.silent ";" ∷ ws) (sort plan ∷ [])
    declared boolean g = step _ refl refl (step _ refl refl (by_row (lookup_name boolean) (name ↣ [] says declares_lookup boolean) l.name (Memᴰ.head refl) h.0 (step _ refl refl g)))
    declared integer g = step _ refl refl (step _ refl refl (by_row (lookup_name integer) (name ↣ [] says declares_lookup integer) l.name (Memᴰ.head refl) h.0 (step _ refl refl g)))
    declared float g = step _ refl refl (step _ refl refl (by_row (lookup_name float) (name ↣ [] says declares_lookup float) l.name (Memᴰ.head refl) h.0 (step _ refl refl g)))

pub plan-goes : (p : Abstract) → FineAbstract p → Goes (sort plan ∷ []) (plan_words p) []
unfolding plan_words
plan-goes p h = goes-append (commands-go p.commands h.0) (goes-append (lookups-go p.lookups h.1) (root-goes p.root h.2))
