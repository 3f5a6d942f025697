-- What a node says leaves the declarations of commands and lookups as they are.
use Prim.Native.Nat.{◌≤◌}
use mathlib.Core.Path.{◌≡◌, refl, ◌∙◌}
use mathlib.Core.Bool.{Bool, true, false}
use mathlib.Core.List.{List, [], ◌∷◌}
use native.Mathlib.Omega.{arith}
use Rattle.grammar.specs.Spelling.{Token, Placed}
use Rattle.grammar.specs.Table.{Said}
use Rattle.notation.specs.Sayings.{boolean, integer, float, What, status, outcome, failure, Saying, silence, declares_command, numbers_command, declares_lookup, names, begins, opens_list, closes_list, calls, assigns, conditions, ranks, declares_variable, initial_truth, initial_whole, initial_decimal, initial_bits, truth, whole, decimal, bits, unknown, reads, mentions, descends, asks, negates, operates, parenthesis, closes, ends}
use Rattle.notation.specs.Phrases as Phrases
use Rattle.notation.specs.Phrases.{Sayings, Leaf, Path, Operand, Chain, Expression, Initial, Opening, Node, Attributes, Nodes}
use Rattle.notation.specs.Draft.{about, Draft, with_held}
use Rattle.notation.specs.Hearing as Hearing
use Rattle.notation.specs.Hearing.{◌▸◌, here, settled, settle_name, mention_path, all_bytes, negated, adding, hear, hear_all}
use Rattle.build.specs.Flow as Flow
use Rattle.build.specs.Flow.{code_of, of_question, of_operator}
use Rattle.build.proofs.Numbers.{operator-range}

abbrev pub Same : Draft → Draft → Type 0
Same d e = (e.commands ≡ d.commands) × (e.lookups ≡ d.lookups)

also : (d e f : Draft) → Same d e → Same e f → Same d f
also d e f h k = (k.0 ∙ h.0, k.1 ∙ h.1)

settled_same : (d : Draft) (ts : List Placed) → Same d (settle_name d ts)
unfolding settle_name Hearing.mentioning adding
settled_same d [] = (refl, refl)
settled_same d (t ∷ ts) = (refl, refl)

path-same : (q : List Token) (ts : List Placed) (d : Draft) → Same d (mention_path q ts d)
unfolding mention_path Hearing.mentioning
path-same q [] d = (refl, refl)
path-same q (t ∷ ts) d = path-same (q ▸ t.bytes) ts _

negated-same : (n : Bool) (d : Draft) → Same d (negated n d)
unfolding negated adding
negated-same true d = (refl, refl)
negated-same false d = (refl, refl)

-- the sayings of a node have numbers from 6 on
hear-same : (x : Saying) → 6 ≤ code_of x → (t : Placed) (d : Draft) → Same d (hear x t d)
unfolding Flow.opened hear Hearing.mentioning Hearing.on_node Hearing.on_variable Hearing.next_node adding Hearing.end_operators settled
hear-same silence h t d = absurd (omega arith)
hear-same declares_command h t d = absurd (omega arith)
hear-same numbers_command h t d = absurd (omega arith)
hear-same (declares_lookup boolean) h t d = absurd (omega arith)
hear-same (declares_lookup integer) h t d = absurd (omega arith)
hear-same (declares_lookup float) h t d = absurd (omega arith)
hear-same names h t d = (refl, refl)
hear-same begins h t d = (refl, refl)
hear-same opens_list h t d = (refl, refl)
hear-same closes_list h t d = (refl, refl)
hear-same calls h t d = (refl, refl)
hear-same assigns h t d = (refl, refl)
hear-same (conditions k) h t d = (refl, refl)
hear-same ranks h t d = (refl, refl)
hear-same (declares_variable k) h t d = (refl, refl)
hear-same (initial_truth b) h t d = (refl, refl)
hear-same (initial_whole b) h t d = (refl, refl)
hear-same (initial_decimal b) h t d = (refl, refl)
hear-same (initial_bits b) h t d = (refl, refl)
hear-same (truth b) h t d = (refl, refl)
hear-same (whole b) h t d = (refl, refl)
hear-same (decimal b) h t d = (refl, refl)
hear-same (bits b) h t d = (refl, refl)
hear-same (unknown k) h t d = (refl, refl)
hear-same reads h t d = (refl, refl)
hear-same mentions h t d = (refl, refl)
hear-same descends h t d = (refl, refl)
hear-same (asks w n k) h t d =
    let e = mention_path [] d.held (with_held [] d) in
    let f = adding (about w (here d) (all_bytes d.held) k) e in
    also d e (negated n f) (path-same [] d.held (with_held [] d)) (negated-same n f)
hear-same negates h t d = (refl, refl)
hear-same (operates o) h t d = settled_same d d.held
hear-same parenthesis h t d = (refl, refl)
hear-same closes h t d = settled_same d d.held
hear-same ends h t d = settled_same d d.held

pub record Keeps (l : Sayings) : Type 0 where
  pub each : (d : Draft) → Same d (hear_all l d)

first : {w : Said Saying} {l : Sayings} (x : Saying) → w.what ≡ x → 6 ≤ code_of x → Keeps l → Keeps (w ∷ l)
unfolding hear_all
first {w = w} {l = l} x e h k =
    record { each = λ d. let f = hear w.what w.token d in also d f (hear_all l f) (hear-same w.what (rw e h) w.token d) (k.each f) }

leaf-late : (x : Saying) → Leaf x → 6 ≤ code_of x
unfolding code_of
leaf-late _ (Phrases.Leaf.is-truth b) = omega arith
leaf-late _ (Phrases.Leaf.is_whole b) = omega arith
leaf-late _ (Phrases.Leaf.is-decimal b) = omega arith
leaf-late _ (Phrases.Leaf.is-bits b) = omega arith
leaf-late _ (Phrases.Leaf.is-unknown k) = omega arith
leaf-late _ Phrases.Leaf.is-lookup = omega arith

initial-late : (x : Saying) → Initial x → 6 ≤ code_of x
unfolding code_of
initial-late _ (Phrases.Initial.is-truth b) = omega arith
initial-late _ (Phrases.Initial.is_whole b) = omega arith
initial-late _ (Phrases.Initial.is-decimal b) = omega arith
initial-late _ (Phrases.Initial.is-bits b) = omega arith

pub opening-late : (x : Saying) → Opening x → 6 ≤ code_of x
unfolding code_of
opening-late _ Phrases.Opening.named = omega arith
opening-late _ Phrases.Opening.unnamed = omega arith

question-late : (w : What) (n : Bool) → 6 ≤ of_question w n
unfolding of_question
question-late status true = omega arith
question-late status false = omega arith
question-late outcome true = omega arith
question-late outcome false = omega arith
question-late failure true = omega arith
question-late failure false = omega arith

path-keeps : {l k : Sayings} → Path l k → Keeps k → Keeps l
unfolding code_of
path-keeps (Phrases.Path.asked a n c e) h = first _ e (omega (arith, question-late a n)) h
path-keeps (Phrases.Path.part e p) h = first _ e (omega arith) (path-keeps p h)

mutual
  unfolding code_of

  operand-keeps : {l k : Sayings} → Operand l k → Keeps k → Keeps l
  operand-keeps (Phrases.Operand.leaf f) h = first _ refl (leaf-late _ f) h
  operand-keeps (Phrases.Operand.variable e) h = first _ e (omega arith) h
  operand-keeps (Phrases.Operand.path e p) h = first _ e (omega arith) (path-keeps p h)
  operand-keeps (Phrases.Operand.not e p) h = first _ e (omega arith) (operand-keeps p h)
  operand-keeps (Phrases.Operand.group e p f) h = first _ e (omega arith) (chain-keeps p (first _ f (omega arith) h))

  chain-keeps : {l k : Sayings} → Chain l k → Keeps k → Keeps l
  chain-keeps (Phrases.Chain.one p) h = operand-keeps p h
  chain-keeps (Phrases.Chain.more o p e q) h = operand-keeps p (first _ e (omega (arith, operator-range o)) (chain-keeps q h))

expression-keeps : {l k : Sayings} → Expression l k → Keeps k → Keeps l
unfolding code_of
expression-keeps (Phrases.Expression.ended p e) h = chain-keeps p (first _ e (omega arith) h)

mutual
  unfolding code_of

  pub node-keeps : {l k : Sayings} → Node l k → Keeps k → Keeps l
  node-keeps (Phrases.Node.node o a) h = first _ refl (opening-late _ o) (attributes-keep a h)

  attributes-keep : {l k : Sayings} → Attributes l k → Keeps k → Keeps l
  attributes-keep (Phrases.Attributes.condition i e p a) h = first _ e (omega arith) (expression-keeps p (attributes-keep a h))
  attributes-keep (Phrases.Attributes.rank e a) h = first _ e (omega arith) (attributes-keep a h)
  attributes-keep (Phrases.Attributes.variable k e a) h = first _ e (omega arith) (attributes-keep a h)
  attributes-keep (Phrases.Attributes.initial i a) h = first _ refl (initial-late _ i) (attributes-keep a h)
  attributes-keep (Phrases.Attributes.list e n) h = first _ e (omega arith) (nodes-keep n h)
  attributes-keep (Phrases.Attributes.command e) h = first _ e (omega arith) h
  attributes-keep (Phrases.Attributes.assignment e p) h = first _ e (omega arith) (expression-keeps p h)

  nodes-keep : {l k : Sayings} → Nodes l k → Keeps k → Keeps l
  nodes-keep (Phrases.Nodes.closed e) h = first _ e (omega arith) h
  nodes-keep (Phrases.Nodes.also n m) h = node-keeps n (nodes-keep m h)
