-- A name that is held is settled by the next token that speaks, or goes on as a path: the turns of a text's sayings.
use mathlib.Core.Path.{◌≡◌, refl, sym, subst}
use mathlib.Core.Bool.{Bool, true, false}
use mathlib.Core.List.{[], ◌∷◌}
use Rattle.grammar.specs.Table.{Said}
use Rattle.notation.specs.Sayings.{Saying, silence, declares_command, numbers_command, declares_lookup, names, begins, opens_list, closes_list, calls, assigns, conditions, ranks, declares_variable, initial_truth, initial_whole, initial_decimal, initial_bits, truth, whole, decimal, bits, unknown, reads, mentions, descends, asks, negates, operates, parenthesis, closes, ends}
use Rattle.notation.specs.Phrases as Phrases
use Rattle.notation.specs.Phrases.{Sayings, Leaf, Path, Operand, Chain, Expression, Initial, Opening, Attributes, Nodes, Plan}

-- a token holds a name, goes on with a path, settles what is held, or does none of these
pub data Turn : Type 0 where
  holds goes settles other : Turn

unfoldable pub turn : Saying → Turn
turn silence = other
turn declares_command = other
turn numbers_command = other
turn (declares_lookup k) = other
turn names = other
turn begins = other
turn opens_list = other
turn closes_list = other
turn calls = other
turn assigns = other
turn (conditions k) = other
turn ranks = other
turn (declares_variable k) = other
turn (initial_truth b) = other
turn (initial_whole b) = other
turn (initial_decimal b) = other
turn (initial_bits b) = other
turn (truth b) = other
turn (whole b) = other
turn (decimal b) = other
turn (bits b) = other
turn (unknown k) = other
turn reads = other
turn mentions = holds
turn descends = goes
turn (asks w n k) = settles
turn negates = other
turn (operates o) = settles
turn parenthesis = other
turn closes = settles
turn ends = settles

-- with a name held (true) or none (false), a turn is in place and leaves a name held or none
abbrev pub After : Bool → Turn → (Bool → Type 0) → Type 0
After false holds P = P true
After false goes P = ⊥
After false settles P = P false
After false other P = P false
After true holds P = ⊥
After true goes P = P true
After true settles P = P false
After true other P = ⊥

abbrev pub Polite : Sayings → Bool → Type 0
Polite [] h = h ≡ false
Polite (w ∷ l) h = After h (turn w.what) (Polite l)

-- a token by what it says
by : (w : Said Saying) (x : Saying) (l : Sayings) (h : Bool) → w.what ≡ x → After h (turn x) (Polite l) → Polite (w ∷ l) h
by w x l h e p = subst (λ y. After h (turn y) (Polite l)) (sym e) p

leaf-polite : (x : Saying) → Leaf x → (l : Sayings) → Polite l false → After false (turn x) (Polite l)
unfolding turn
leaf-polite x (Leaf.is-truth b) l p = p
leaf-polite x (Leaf.is_whole b) l p = p
leaf-polite x (Leaf.is-decimal b) l p = p
leaf-polite x (Leaf.is-bits b) l p = p
leaf-polite x (Leaf.is-unknown k) l p = p
leaf-polite x Leaf.is-lookup l p = p

path-polite : {l k : Sayings} → Path l k → Polite k false → Polite l true
unfolding turn
path-polite (Path.asked {w = w} {k = k} a n c e) p = by w (asks a n c) k true e p
path-polite (Path.part {w = w} {l = l} e q) p = by w descends l true e (path-polite q p)

mutual
  unfolding turn

  operand-polite : {l k : Sayings} → Operand l k → Polite k true → Polite k false → Polite l false
  operand-polite (Operand.leaf {w = w} {k = k} x) s p = leaf-polite w.what x k p
  operand-polite (Operand.variable {w = w} {k = k} e) s p = by w mentions k false e s
  operand-polite (Operand.path {w = w} {l = l} e q) s p = by w mentions l false e (path-polite q p)
  operand-polite (Operand.not {w = w} {l = l} e q) s p = by w negates l false e (operand-polite q s p)
  operand-polite (Operand.group {w = w} {c = c} {l = l} {k = k} e q f) s p = by w parenthesis l false e (chain-polite q (by c closes k true f p) (by c closes k false f p))

  chain-polite : {l k : Sayings} → Chain l k → Polite k true → Polite k false → Polite l false
  chain-polite (Chain.one q) s p = operand-polite q s p
  chain-polite (Chain.more {w = w} {m = m} o q e c) s p = let r = chain-polite c s p in operand-polite q (by w (operates o) m true e r) (by w (operates o) m false e r)

expression-polite : {l k : Sayings} → Expression l k → Polite k false → Polite l false
unfolding turn
expression-polite (Expression.ended {w = w} {k = k} c e) p = chain-polite c (by w ends k true e p) (by w ends k false e p)

initial-polite : (x : Saying) → Initial x → (l : Sayings) → Polite l false → After false (turn x) (Polite l)
unfolding turn
initial-polite x (Initial.is-truth b) l p = p
initial-polite x (Initial.is_whole b) l p = p
initial-polite x (Initial.is-decimal b) l p = p
initial-polite x (Initial.is-bits b) l p = p

opening-polite : (x : Saying) → Opening x → (l : Sayings) → Polite l false → After false (turn x) (Polite l)
unfolding turn
opening-polite x Opening.named l p = p
opening-polite x Opening.unnamed l p = p

mutual
  unfolding turn

  node-polite : {l k : Sayings} → Phrases.Node l k → Polite k false → Polite l false
  node-polite (Phrases.Node.node {w = w} {l = l} o a) p = opening-polite w.what o l (attributes-polite a p)

  attributes-polite : {l k : Sayings} → Attributes l k → Polite k false → Polite l false
  attributes-polite (Attributes.condition {w = w} {l = l} i e x a) p = by w (conditions i) l false e (expression-polite x (attributes-polite a p))
  attributes-polite (Attributes.rank {w = w} {l = l} e a) p = by w ranks l false e (attributes-polite a p)
  attributes-polite (Attributes.variable {w = w} {l = l} k e a) p = by w (declares_variable k) l false e (attributes-polite a p)
  attributes-polite (Attributes.initial {w = w} {l = l} i a) p = initial-polite w.what i l (attributes-polite a p)
  attributes-polite (Attributes.list {w = w} {l = l} e n) p = by w opens_list l false e (nodes-polite n p)
  attributes-polite (Attributes.command {w = w} {k = k} e) p = by w calls k false e p
  attributes-polite (Attributes.assignment {w = w} {l = l} e x) p = by w assigns l false e (expression-polite x p)

  nodes-polite : {l k : Sayings} → Nodes l k → Polite k false → Polite l false
  nodes-polite (Nodes.closed {w = w} {k = k} e) p = by w closes_list k false e p
  nodes-polite (Nodes.also n ns) p = node-polite n (nodes-polite ns p)

pub plan-polite : {l : Sayings} → Plan l → Polite l false
unfolding turn
plan-polite (Plan.root n) = node-polite n refl
plan-polite (Plan.lookup {w = w} {l = l} k e p) = by w (declares_lookup k) l false e (plan-polite p)
plan-polite (Plan.command {w = w} {v = v} {l = l} e f p) = by w declares_command (v ∷ l) false e (by v numbers_command l false f (plan-polite p))
