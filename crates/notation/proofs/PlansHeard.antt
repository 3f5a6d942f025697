-- What the words of an abstract plan add to a draft: its nodes, entries and variables.
use Prim.Native.Nat.{ℕ, suc, ◌≤◌}
use mathlib.Core.Path.{◌≡◌, refl, sym, ◌∙◌, ap}
use mathlib.Core.List.{List, [], ◌∷◌, ◌++◌, append_assoc, append-nil}
use mathlib.Core.Option.{Option, none, some}
use native.Mathlib.Omega.{arith}
use lib.ListN.{length, set}
use Rattle.grammar.specs.Spelling.{Token}
use Rattle.notation.specs.Sayings as Sayings
use Rattle.notation.specs.Draft.{Command, Lookup, Variable, Body, Node, Entry, Slot, Draft, with_mentions, with_priority, with_body, with_number, with_commands, with_lookups, blank}
use Rattle.notation.specs.Hearing as Hearing
use Rattle.notation.specs.Hearing.{◌▸◌, at_last, last, no_conditions, parent_in, end_operators, into_slot, on_node}
use Rattle.notation.specs.Abstract.{Expr, Own, Tree, node, Task, Forest, Abstract, FineExpr, FineOwned, FineConditions, FineTree, FineTask, FineForest, FineCommands, FineAbstract, grown, Given, all_given, all_owned, Laid, value_entries, body_of, lay_one, lay_tree, lay_task, lay_forest, lay_plan}
use Rattle.notation.specs.Writing as Writing
use Rattle.notation.specs.Writing.{Word, owned_words, priority_words, condition_words, opening_words, tree_words, task_words, forest_words, command_words, lookup_words, plan_words, expr_words}
use Rattle.notation.proofs.FormulasHeard.{hear_word, hear_words, words_append, expr-heard}
use Rattle.notation.proofs.Numerals.{numeral-value}
use Rattle.notation.proofs.OwnedHeard.{at-last, last-is, owned-heard}

-- ---- a draft between two nodes, or within one
module _ (cs : List Command) (ls : List Lookup) where
  -- no expression is under way
  abbrev pub standing : Laid → ℕ → ℕ → Slot → Draft
  standing s above depth q = record { commands = cs; lookups = ls; nodes = s.nodes; variables = s.variables; entries = s.entries; mentions = []; above = above; depth = depth; slot = q; pending = []; held = [] }

  -- the last node is being told of
  abbrev within : List Node → Node → List Entry → List Variable → ℕ → ℕ → Slot → Draft
  within ns n es vs above depth q = standing (record { nodes = ns ▸ n; entries = es; variables = vs }) above depth q

  abbrev one : Token → ℕ → ℕ → ℕ → List ℕ → Body → Node
  one x parent level p g b = record { name = x; place = 0; parent = parent; level = level; priority = p; given = g; body = b }

  opening-heard : (x : Token) (s : Laid) (a k : ℕ) (q : Slot) → hear_words (opening_words x) (standing s a k q) ≡ within s.nodes (one x a (suc k) 0 no_conditions Body.list) s.entries s.variables a k q
  unfolding opening_words hear_words hear_word Hearing.hear Hearing.mentioning Hearing.next_node
  opening-heard [] s a k q = refl
  opening-heard (b ∷ x) s a k q = refl

  priority-heard : (p : ℕ) (ns : List Node) (n : Node) (es : List Entry) (vs : List Variable) (a k : ℕ) (q : Slot) → p ≤ 65535
      → hear_words (priority_words p) (within ns n es vs a k q) ≡ within ns (with_priority p n) es vs a k q
  unfolding priority_words hear_words hear_word Hearing.hear on_node
  priority-heard p ns n es vs a k q l =
      ap (λ (m : ℕ). standing (record { nodes = at_last (with_priority m) (ns ▸ n); entries = es; variables = vs }) a k q) (numeral-value p (omega arith))
      ∙ ap (λ z. standing (record { nodes = z; entries = es; variables = vs }) a k q) (at-last (with_priority p) ns n)

  -- the end of an expression, after an operand that is settled
  finished : Draft → Draft
  finished d = let e = end_operators 0 d in on_node (into_slot e.slot (last e.entries)) e

  -- an expression, and its end: its entry goes into the slot
  ended-heard : (e : Expr) (ws : List Word) (ns : List Node) (n : Node) (es : List Entry) (vs : List Variable) (a k : ℕ) (q : Slot) → FineExpr e
      → hear_words (expr_words e ++ (Writing.saying Sayings.ends ";" ∷ ws)) (within ns n es vs a k q)
      ≡ hear_words ws (within ns (into_slot q (last (grown (length ns) e es)) n) (grown (length ns) e es) vs a k q)
  unfolding hear_words hear_word finished Hearing.hear end_operators Hearing.ending Hearing.waiting on_node
  ended-heard e ws ns n es vs a k q h =
      words_append (expr_words e) (Writing.saying Sayings.ends ";" ∷ ws) (within ns n es vs a k q)
      ∙ ap (λ z. hear_words ws (with_mentions [] (finished z))) (expr-heard e (within ns n es vs a k q) h)
      ∙ ap (λ (i : ℕ). hear_words ws (standing (record { nodes = at_last (into_slot q (last (grown i e es))) (ns ▸ n); entries = grown i e es; variables = vs }) a k q)) (last-is ns n)
      ∙ ap (λ z. hear_words ws (standing (record { nodes = z; entries = grown (length ns) e es; variables = vs }) a k q)) (at-last (into_slot q (last (grown (length ns) e es))) ns n)

  conditions-heard : (os : List (Option Expr)) (i : ℕ) (ns : List Node) (x : Token) (b v p : ℕ) (g : Given) (vs : List Variable) (a k : ℕ) (q : Slot) → FineConditions os
      → (r : Slot) × (hear_words (condition_words i os) (within ns (one x b v p g.numbers Body.list) g.entries vs a k q)
      ≡ within ns (one x b v p (all_given (length ns) i os g).numbers Body.list) (all_given (length ns) i os g).entries vs a k r)
  unfolding condition_words hear_words hear_word Hearing.hear all_given into_slot
  conditions-heard [] i ns x b v p g vs a k q h = (q, refl)
  conditions-heard (none ∷ os) i ns x b v p g vs a k q h = conditions-heard os (suc i) ns x b v p g vs a k q h
  conditions-heard (some e ∷ os) i ns x b v p g vs a k q h =
      let l : List Entry = grown (length ns) e g.entries in
      let r = conditions-heard os (suc i) ns x b v p (record { entries = l; numbers = set g.numbers i (last l) }) vs a k (Slot.condition i) h.1 in
      (r.0, ended-heard e (condition_words (suc i) os) ns (one x b v p g.numbers Body.list) g.entries vs a k (Slot.condition i) h.0 ∙ r.1)

  -- what a node says of itself, before what it is
  told-heard : (x : Token) (os : List Own) (p : ℕ) (es : List (Option Expr)) (ws : List Word) (s : Laid) (a k : ℕ) (q : Slot) → FineOwned os → p ≤ 65535 → FineConditions es
      → (r : Slot) × (hear_words (opening_words x ++ (owned_words os ++ (priority_words p ++ (condition_words 0 es ++ ws)))) (standing s a k q)
      ≡ hear_words ws (within s.nodes (one x a (suc k) p (all_given (length s.nodes) 0 es (record { entries = s.entries; numbers = no_conditions })).numbers Body.list)
      (all_given (length s.nodes) 0 es (record { entries = s.entries; numbers = no_conditions })).entries (all_owned (length s.nodes) os s.variables) a k r))
  told-heard x os p es ws s a k q f l c =
      let n : Node = one x a (suc k) 0 no_conditions Body.list in
      let vs : List Variable = all_owned (length s.nodes) os s.variables in
      let r = conditions-heard es 0 s.nodes x a (suc k) p (record { entries = s.entries; numbers = no_conditions }) vs a k q c in (
        r.0,
        words_append (opening_words x) (owned_words os ++ (priority_words p ++ (condition_words 0 es ++ ws))) (standing s a k q)
            ∙ ap (hear_words (owned_words os ++ (priority_words p ++ (condition_words 0 es ++ ws)))) (opening-heard x s a k q)
            ∙ words_append (owned_words os) (priority_words p ++ (condition_words 0 es ++ ws)) (within s.nodes n s.entries s.variables a k q)
            ∙ ap (hear_words (priority_words p ++ (condition_words 0 es ++ ws))) (owned-heard os (within s.nodes n s.entries s.variables a k q) f)
            ∙ ap (λ (i : ℕ). hear_words (priority_words p ++ (condition_words 0 es ++ ws)) (within s.nodes n s.entries (all_owned i os s.variables) a k q)) (last-is s.nodes n)
            ∙ words_append (priority_words p) (condition_words 0 es ++ ws) (within s.nodes n s.entries vs a k q)
            ∙ ap (hear_words (condition_words 0 es ++ ws)) (priority-heard p s.nodes n s.entries vs a k q l)
            ∙ words_append (condition_words 0 es) ws (within s.nodes (with_priority p n) s.entries vs a k q)
            ∙ ap (hear_words ws) r.1,
      )

-- ---- nodes are only added
pub parent-stays : (ns : List Node) (n : Node) (more : List Node) → parent_in ((ns ▸ n) ++ more) (length ns) ≡ n.parent
unfolding parent_in ◌▸◌
parent-stays [] n more = refl
parent-stays (m ∷ ns) n more = parent-stays ns n more

abbrev Extends : List Node → List Node → Type 0
Extends a b = (more : List Node) × (b ≡ a ++ more)

extends-on : (a b c : List Node) → Extends a b → Extends b c → Extends a c
extends-on a b c x y = (x.0 ++ y.0, y.1 ∙ ap (λ l. l ++ y.0) x.1 ∙ append_assoc a x.0 y.0)

mutual
  unfolding lay_tree lay_one ◌▸◌

  tree-extends : (t : Tree) (a v : ℕ) (s : Laid) → Extends s.nodes (lay_tree t a v s).nodes
  tree-extends (node x os p cs t) a v s = extends-on s.nodes (lay_one a v x os p cs t s).nodes _ (_ ∷ [], refl) (task-extends t (length s.nodes) (suc v) (lay_one a v x os p cs t s))

  task-extends : (t : Task) (h v : ℕ) (s : Laid) → Extends s.nodes (lay_task t h v s).nodes
  task-extends (Task.list ts) h v s = forest-extends ts h v s
  task-extends (Task.command c) h v s = ([], sym (append-nil s.nodes))
  task-extends (Task.assignment x e) h v s = ([], sym (append-nil s.nodes))

  forest-extends : (ts : Forest) (h v : ℕ) (s : Laid) → Extends s.nodes (lay_forest ts h v s).nodes
  forest-extends Forest.bare h v s = ([], sym (append-nil s.nodes))
  forest-extends (Forest.also t ts) h v s = extends-on s.nodes (lay_tree t h v s).nodes _ (tree-extends t h v s) (forest-extends ts h v (lay_tree t h v s))

-- ---- nodes
module _ (cs : List Command) (ls : List Lookup) where
  mutual
    unfolding tree_words lay_tree lay_one hear_words hear_word Hearing.hear Hearing.mentioning on_node value_entries body_of into_slot

    tree-heard : (t : Tree) (s : Laid) (a k : ℕ) (q : Slot) → FineTree t → (r : Slot) × (hear_words (tree_words t) (standing cs ls s a k q) ≡ standing cs ls (lay_tree t a (suc k) s) a k r)
    tree-heard (node x os p es t) s a k q h =
        let told = told-heard cs ls x os p es (task_words t) s a k q h.1 h.2 h.4 in
        let g : Given = all_given (length s.nodes) 0 es (record { entries = s.entries; numbers = no_conditions }) in
        let r = task-heard t s.nodes x a (suc k) p g.numbers g.entries (all_owned (length s.nodes) os s.variables) k told.0 h.5 in
        (r.0, told.1 ∙ r.1)

    task-heard : (t : Task) (ns : List Node) (x : Token) (a v p : ℕ) (g : List ℕ) (es : List Entry) (vs : List Variable) (k : ℕ) (q : Slot) → FineTask t
        → (r : Slot) × (hear_words (task_words t) (within cs ls ns (one cs ls x a v p g Body.list) es vs a k q)
        ≡ standing cs ls (lay_task t (length ns) (suc (suc k))
        (record { nodes = ns ▸ one cs ls x a v p g (body_of t (value_entries (length ns) t es)); entries = value_entries (length ns) t es; variables = vs })) a k r)
    task-heard (Task.list ts) ns x a v p g es vs k q h =
        let s : Laid = record { nodes = ns ▸ one cs ls x a v p g Body.list; entries = es; variables = vs } in
        let f = forest-heard ts s (length ns) k q h in
        let more = forest-extends ts (length ns) (suc (suc k)) s in (
          f.0,
          ap (λ (i : ℕ). hear_words (forest_words ts) (standing cs ls s i (suc k) q)) (last-is ns (one cs ls x a v p g Body.list)) ∙ f.1
              ∙ ap (λ (m : ℕ). standing cs ls (lay_forest ts (length ns) (suc (suc k)) s) m k f.0) (ap (λ l. parent_in l (length ns)) more.1 ∙ parent-stays ns (one cs ls x a v p g Body.list) more.0),
        )
    task-heard (Task.command c) ns x a v p g es vs k q h =
        (q, ap (λ z. standing cs ls (record { nodes = z; entries = es; variables = vs }) a k q) (at-last (with_body (Body.command c)) ns (one cs ls x a v p g Body.list)))
    task-heard (Task.assignment y e) ns x a v p g es vs k q h =
        let n : Node = one cs ls x a v p g Body.list in
        let ws : List Word = expr_words e ++ (Writing.saying Sayings.ends ";" ∷ (Writing.silent "}" ∷ [])) in (
          Slot.value,
          ap (λ z. hear_words ws (standing cs ls (record { nodes = z; entries = es; variables = vs }) a k Slot.value)) (at-last (with_body (Body.assignment y 0)) ns n)
              ∙ ended-heard cs ls e (Writing.silent "}" ∷ []) ns (with_body (Body.assignment y 0) n) es vs a k Slot.value h.1,
        )

    forest-heard : (ts : Forest) (s : Laid) (i k : ℕ) (q : Slot) → FineForest ts
        → (r : Slot) × (hear_words (forest_words ts) (standing cs ls s i (suc k) q)
        ≡ standing cs ls (lay_forest ts i (suc (suc k)) s) (parent_in (lay_forest ts i (suc (suc k)) s).nodes i) k r)
    forest-heard Forest.bare s i k q h = (q, ap (λ (m : ℕ). standing cs ls s (parent_in s.nodes i) m q) (omega arith))
    forest-heard (Forest.also t ts) s i k q h =
        let f = tree-heard t s i (suc k) q h.0 in
        let r = forest-heard ts (lay_tree t i (suc (suc k)) s) i k f.0 h.1 in
        (r.0, words_append (tree_words t) (forest_words ts) (standing cs ls s i (suc k) q) ∙ ap (hear_words (forest_words ts)) f.1 ∙ r.1)

-- ---- declarations
commands-heard : (cs had : List Command) (d : Draft) → FineCommands cs → hear_words (command_words cs) (with_mentions [] (with_commands had d)) ≡ with_mentions [] (with_commands (had ++ cs) d)
unfolding command_words hear_words hear_word Hearing.hear Hearing.mentioning
commands-heard [] had d h = ap (λ l. with_mentions [] (with_commands l d)) (sym (append-nil had))
commands-heard (c ∷ cs) had d h =
    ap (λ (n : ℕ). hear_words (command_words cs) (with_mentions [] (with_commands (at_last (with_number n) (had ▸ record { name = c.name; number = 0 })) d))) (numeral-value c.number (omega (arith, h.1)))
    ∙ ap (λ l. hear_words (command_words cs) (with_mentions [] (with_commands l d))) (at-last (with_number c.number) had (record { name = c.name; number = 0 }))
    ∙ commands-heard cs (had ▸ c) d h.2 ∙ ap (λ l. with_mentions [] (with_commands l d)) (unfold ◌▸◌ in append_assoc had (c ∷ []) cs)

lookups-heard : (ls had : List Lookup) (d : Draft) → hear_words (lookup_words ls) (with_mentions [] (with_lookups had d)) ≡ with_mentions [] (with_lookups (had ++ ls) d)
unfolding lookup_words hear_words hear_word Hearing.hear Hearing.mentioning
lookups-heard [] had d = ap (λ l. with_mentions [] (with_lookups l d)) (sym (append-nil had))
lookups-heard (l ∷ ls) had d = lookups-heard ls (had ▸ l) d ∙ ap (λ l. with_mentions [] (with_lookups l d)) (unfold ◌▸◌ in append_assoc had (l ∷ []) ls)

pub plan-heard : (p : Abstract) → FineAbstract p → (q : Slot) × (hear_words (plan_words p) blank ≡ standing p.commands p.lookups (lay_plan p) 65535 0 q)
unfolding plan_words lay_plan
plan-heard p h =
    let r = tree-heard p.commands p.lookups p.root (record { nodes = []; entries = []; variables = [] }) 65535 0 Slot.value h.2 in (
      r.0,
      words_append (command_words p.commands) (lookup_words p.lookups ++ tree_words p.root) blank
          ∙ ap (hear_words (lookup_words p.lookups ++ tree_words p.root)) (commands-heard p.commands [] blank h.0)
          ∙ words_append (lookup_words p.lookups) (tree_words p.root) (with_commands p.commands blank)
          ∙ ap (hear_words (tree_words p.root)) (lookups-heard p.lookups [] (with_commands p.commands blank)) ∙ r.1,
    )
