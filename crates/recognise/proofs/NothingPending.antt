-- Nothing is pending at the end of an accepted text: each operator has ended with its expression.
use Prim.Native.Nat.{ℕ, suc}
use mathlib.Core.Path.{◌≡◌, refl, ◌∙◌, sym, ap}
use mathlib.Core.Bool.{Bool, true, false, cond}
use mathlib.Core.List.{List, [], ◌∷◌}
use mathlib.Core.Option.{some}
use native.Mathlib.Omega.{arith}
use lib.Dec.{leb}
use borrow.Author.Tests.{le-leb}
use Rattle.grammar.specs.Spelling.{Token, Placed}
use Rattle.grammar.specs.Table.{Said}
use Rattle.notation.specs.Sayings.{Kind, What, Operator, Saying, declares_command, numbers_command, declares_lookup, opens_list, closes_list, calls, assigns, conditions, ranks, declares_variable, mentions, descends, asks, negates, operates, parenthesis, closes, ends}
use Rattle.notation.specs.Phrases as Phrases
use Rattle.notation.specs.Phrases.{Sayings, Says, Leaf, Path, Operand, Chain, Expression, Initial, Opening, Node, Attributes, Nodes, Plan}
use Rattle.notation.specs.Draft.{Draft, blank, Pending, prefix, paren, infix', with_held}
use Rattle.notation.specs.Hearing as Hearing
use Rattle.notation.specs.Hearing.{◌▸◌, hear, hear_all, adding, end_operators, on_node, draft_of, waiting, strength, strength_of_not, settled, settle_name, mention_path, negated}
use Rattle.notation.specs.Reading.{plan_says}
use Rattle.notation.proofs.Spoken.{hear-spoken}
use Rattle.notation.proofs.Phrased.{plans-phrased}

-- open parentheses among what is pending
parens : List Pending → ℕ
parens [] = 0
parens (prefix ∷ ps) = parens ps
parens (paren ∷ ps) = suc (parens ps)
parens (infix' o a ∷ ps) = parens ps

waiting-parens : (k : ℕ) (ps : List Pending) → parens (waiting k ps) ≡ parens ps
unfolding parens waiting
waiting-parens k [] = refl
waiting-parens k (paren ∷ ps) = refl
waiting-parens k (prefix ∷ ps) = go (leb k strength_of_not) (waiting-parens k ps)
  where
    go : (b : Bool) → parens (waiting k ps) ≡ parens ps → parens (cond b (waiting k ps) (prefix ∷ ps)) ≡ parens ps
    go true h = h
    go false h = refl
waiting-parens k (infix' o a ∷ ps) = go (leb k (strength o)) (waiting-parens k ps)
  where
    go : (b : Bool) → parens (waiting k ps) ≡ parens ps → parens (cond b (waiting k ps) (infix' o a ∷ ps)) ≡ parens ps
    go true h = h
    go false h = refl

all-ended : (ps : List Pending) → parens ps ≡ 0 → waiting 0 ps ≡ []
unfolding parens waiting
all-ended [] h = refl
all-ended (paren ∷ ps) h = absurd (omega arith)
all-ended (prefix ∷ ps) h = all-ended ps h
all-ended (infix' o a ∷ ps) h = rw (le-leb 0 (strength o) (omega arith)) (all-ended ps h)

closed : (ps : List Pending) (n : ℕ) → parens ps ≡ suc n → parens (elim (waiting 0 ps) as (λ x. List Pending) [ [] ↦ [] | q ∷ qs ↦ qs ]) ≡ n
unfolding parens waiting
closed [] n h = absurd (omega arith)
closed (paren ∷ ps) n h = omega arith
closed (prefix ∷ ps) n h = closed ps n h
closed (infix' o a ∷ ps) n h = rw (le-leb 0 (strength o) (omega arith)) (closed ps n h)

settled-pending : (d : Draft) → (settled d).pending ≡ d.pending
unfolding Hearing.opened
settled-pending d = go d.held
  where
    go : (h : List Placed) → (settle_name d h).pending ≡ d.pending
    go [] = refl
    go (t ∷ ts) = refl

path-pending : (q : List Token) (ts : List Placed) (d : Draft) → (mention_path q ts d).pending ≡ d.pending
unfolding Hearing.opened
path-pending q [] d = refl
path-pending q (t ∷ ts) d = path-pending (q ▸ t.bytes) ts _

-- a token that leaves what is pending as it is
calm : (w : Said Saying) (x : Saying) → Says w x → ((t : Placed) (d : Draft) → (hear x t d).pending ≡ d.pending) → (d : Draft) → (hear w.what w.token d).pending ≡ d.pending
calm w x s f d = ap (λ (y : Saying). (hear y w.token d).pending) s ∙ f w.token d

negated-pending : (n : Bool) (d : Draft) → (negated n d).pending ≡ d.pending
unfolding Hearing.opened
negated-pending true d = refl
negated-pending false d = refl

leaf-pending : (x : Saying) → Leaf x → (t : Placed) (d : Draft) → (hear x t d).pending ≡ d.pending
unfolding Hearing.opened
leaf-pending x (Phrases.Leaf.is-truth b) t d = refl
leaf-pending x (Phrases.Leaf.is_whole b) t d = refl
leaf-pending x (Phrases.Leaf.is-decimal b) t d = refl
leaf-pending x (Phrases.Leaf.is-bits b) t d = refl
leaf-pending x (Phrases.Leaf.is-unknown k) t d = refl
leaf-pending x Phrases.Leaf.is-lookup t d = refl

asks-pending : (a : What) (b : Bool) (c : ℕ) (t : Placed) (d : Draft) → (hear (asks a b c) t d).pending ≡ d.pending
unfolding hear adding
asks-pending a b c t d = negated-pending b _ ∙ path-pending [] d.held (with_held [] d)

mentions-pending : (t : Placed) (d : Draft) → (hear mentions t d).pending ≡ d.pending
unfolding hear
mentions-pending t d = refl

descends-pending : (t : Placed) (d : Draft) → (hear descends t d).pending ≡ d.pending
unfolding hear
descends-pending t d = refl

-- tokens that change it
negates-parens : (t : Placed) (d : Draft) → parens (hear negates t d).pending ≡ parens d.pending
unfolding hear parens
negates-parens t d = refl

opens-parens : (t : Placed) (d : Draft) → parens (hear parenthesis t d).pending ≡ suc (parens d.pending)
unfolding hear parens
opens-parens t d = refl

operates-parens : (o : Operator) (t : Placed) (d : Draft) → parens (hear (operates o) t d).pending ≡ parens d.pending
unfolding hear parens end_operators
operates-parens o t d = waiting-parens (strength o) (settled d).pending ∙ ap parens (settled-pending d)

closes-parens : (t : Placed) (d : Draft) (n : ℕ) → parens d.pending ≡ suc n → parens (hear closes t d).pending ≡ n
unfolding hear end_operators
closes-parens t d n h = closed (settled d).pending n (ap parens (settled-pending d) ∙ h)

ends-clear : (t : Placed) (d : Draft) → parens d.pending ≡ 0 → (hear ends t d).pending ≡ []
unfolding hear end_operators on_node
ends-clear t d h = all-ended (settled d).pending (ap parens (settled-pending d) ∙ h)

-- from l to k the draft goes on to one of which P holds
record Through (P : List Pending → Type 0) (l k : Sayings) (d : Draft) : Type 0 where
  draft : Draft
  heard : hear_all l d ≡ hear_all k draft
  holds : P draft.pending

abbrev Count : ℕ → List Pending → Type 0
Count n ps = parens ps ≡ n

abbrev Clear : List Pending → Type 0
Clear ps = ps ≡ []

-- one token, and what comes after it
token : {P : List Pending → Type 0} {k : Sayings} (w : Said Saying) (d : Draft) → P (hear w.what w.token d).pending → Through P (w ∷ k) k d
unfolding hear_all
token w d h = record { draft = hear w.what w.token d; heard = refl; holds = h }

first : {P : List Pending → Type 0} {l k : Sayings} (w : Said Saying) (d : Draft) → Through P l k (hear w.what w.token d) → Through P (w ∷ l) k d
unfolding hear_all
first w d t = record { draft = t.draft; heard = t.heard; holds = t.holds }

then : {P Q : List Pending → Type 0} {l m k : Sayings} {d : Draft} (t : Through P l m d) → Through Q m k t.draft → Through Q l k d
then t r = record { draft = r.draft; heard = t.heard ∙ r.heard; holds = r.holds }

count_same : (n : ℕ) {p q : List Pending} → p ≡ q → parens q ≡ n → parens p ≡ n
count_same n e h = ap parens e ∙ h

path : {l k : Sayings} → Path l k → (n : ℕ) (d : Draft) → parens d.pending ≡ n → Through (Count n) l k d
path (Phrases.asked {w} a b c s) n d h = token w d (count_same n (calm w _ s (asks-pending a b c) d) h)
path (Phrases.part {w} s p) n d h = first w d (path p n _ (count_same n (calm w _ s descends-pending d) h))

mutual
  operand : {l k : Sayings} → Operand l k → (n : ℕ) (d : Draft) → parens d.pending ≡ n → Through (Count n) l k d
  operand (Phrases.leaf {w} x) n d h = token w d (count_same n (leaf-pending w.what x w.token d) h)
  operand (Phrases.Operand.variable {w} s) n d h = token w d (count_same n (calm w _ s mentions-pending d) h)
  operand (Phrases.path {w} s p) n d h = first w d (path p n _ (count_same n (calm w _ s mentions-pending d) h))
  operand (Phrases.not {w} s o) n d h = first w d (operand o n _ (ap (λ (y : Saying). parens (hear y w.token d).pending) s ∙ negates-parens w.token d ∙ h))
  operand (Phrases.group {w} {c} s x e) n d h =
      let t = chain x (suc n) _ (ap (λ (y : Saying). parens (hear y w.token d).pending) s ∙ opens-parens w.token d ∙ ap suc h) in
      first w d (then t (token c t.draft (ap (λ (y : Saying). parens (hear y c.token t.draft).pending) e ∙ closes-parens c.token t.draft n t.holds)))

  chain : {l k : Sayings} → Chain l k → (n : ℕ) (d : Draft) → parens d.pending ≡ n → Through (Count n) l k d
  chain (Phrases.one o) n d h = operand o n d h
  chain (Phrases.more {w} o x s c) n d h =
      let t = operand x n d h in
      then t (first w t.draft (chain c n _ (ap (λ (y : Saying). parens (hear y w.token t.draft).pending) s ∙ operates-parens o w.token t.draft ∙ t.holds)))

expression : {l k : Sayings} → Expression l k → (d : Draft) → d.pending ≡ [] → Through Clear l k d
unfolding parens
expression (Phrases.ended {w} c s) d h =
    let t = chain c 0 d (ap parens h) in
    then t (token w t.draft (ap (λ (y : Saying). (hear y w.token t.draft).pending) s ∙ ends-clear w.token t.draft t.holds))

-- tokens outside expressions
opening-pending : (x : Saying) → Opening x → (t : Placed) (d : Draft) → (hear x t d).pending ≡ d.pending
unfolding Hearing.opened
opening-pending x Phrases.named t d = refl
opening-pending x Phrases.unnamed t d = refl

initial-pending : (x : Saying) → Initial x → (t : Placed) (d : Draft) → (hear x t d).pending ≡ d.pending
unfolding Hearing.opened
initial-pending x (Phrases.Initial.is-truth b) t d = refl
initial-pending x (Phrases.Initial.is_whole b) t d = refl
initial-pending x (Phrases.Initial.is-decimal b) t d = refl
initial-pending x (Phrases.Initial.is-bits b) t d = refl

conditions-pending : (i : ℕ) (t : Placed) (d : Draft) → (hear (conditions i) t d).pending ≡ d.pending
unfolding Hearing.opened
conditions-pending i t d = refl

ranks-pending : (t : Placed) (d : Draft) → (hear ranks t d).pending ≡ d.pending
unfolding Hearing.opened
ranks-pending t d = refl

variable-pending : (k : Kind) (t : Placed) (d : Draft) → (hear (declares_variable k) t d).pending ≡ d.pending
unfolding Hearing.opened
variable-pending k t d = refl

list-pending : (t : Placed) (d : Draft) → (hear opens_list t d).pending ≡ d.pending
unfolding Hearing.opened
list-pending t d = refl

command-pending : (t : Placed) (d : Draft) → (hear calls t d).pending ≡ d.pending
unfolding Hearing.opened
command-pending t d = refl

target-pending : (t : Placed) (d : Draft) → (hear assigns t d).pending ≡ d.pending
unfolding Hearing.opened
target-pending t d = refl

closing-pending : (t : Placed) (d : Draft) → (hear closes_list t d).pending ≡ d.pending
unfolding Hearing.opened
closing-pending t d = refl

lookup-pending : (k : Kind) (t : Placed) (d : Draft) → (hear (declares_lookup k) t d).pending ≡ d.pending
unfolding Hearing.opened
lookup-pending k t d = refl

declared-pending : (t : Placed) (d : Draft) → (hear declares_command t d).pending ≡ d.pending
unfolding Hearing.opened
declared-pending t d = refl

numbered-pending : (t : Placed) (d : Draft) → (hear numbers_command t d).pending ≡ d.pending
unfolding Hearing.opened
numbered-pending t d = refl

mutual
  node : {l k : Sayings} → Node l k → (d : Draft) → d.pending ≡ [] → Through Clear l k d
  node (Phrases.node {w} o a) d h = first w d (attributes a _ (opening-pending w.what o w.token d ∙ h))

  attributes : {l k : Sayings} → Attributes l k → (d : Draft) → d.pending ≡ [] → Through Clear l k d
  attributes (Phrases.Attributes.condition {w} i s e a) d h =
      let t = expression e _ (calm w _ s (conditions-pending i) d ∙ h) in
      first w d (then t (attributes a t.draft t.holds))
  attributes (Phrases.rank {w} s a) d h = first w d (attributes a _ (calm w _ s ranks-pending d ∙ h))
  attributes (Phrases.Attributes.variable {w} k s a) d h = first w d (attributes a _ (calm w _ s (variable-pending k) d ∙ h))
  attributes (Phrases.initial {w} x a) d h = first w d (attributes a _ (initial-pending w.what x w.token d ∙ h))
  attributes (Phrases.Attributes.list {w} s n) d h = first w d (nodes n _ (calm w _ s list-pending d ∙ h))
  attributes (Phrases.Attributes.command {w} s) d h = token w d (calm w _ s command-pending d ∙ h)
  attributes (Phrases.Attributes.assignment {w} s e) d h = first w d (expression e _ (calm w _ s target-pending d ∙ h))

  nodes : {l k : Sayings} → Nodes l k → (d : Draft) → d.pending ≡ [] → Through Clear l k d
  nodes (Phrases.closed {w} s) d h = token w d (calm w _ s closing-pending d ∙ h)
  nodes (Phrases.also n ns) d h =
      let t = node n d h in
      then t (nodes ns t.draft t.holds)

plan-pending : {l : Sayings} → Plan l → (d : Draft) → d.pending ≡ [] → (hear_all l d).pending ≡ []
unfolding hear_all
plan-pending (Phrases.root n) d h = let t = node n d h in ap (λ (x : Draft). x.pending) t.heard ∙ t.holds
plan-pending (Phrases.Plan.lookup {w} k s p) d h = plan-pending p _ (calm w _ s (lookup-pending k) d ∙ h)
plan-pending (Phrases.Plan.command {w} {v} s r p) d h = plan-pending p _ (calm v _ r numbered-pending _ ∙ (calm w _ s declared-pending d ∙ h))

pub nothing-pending : (u : List ℕ) (l : List (Said Saying)) → plan_says u ≡ some l → (draft_of l).pending ≡ []
unfolding draft_of
nothing-pending u l e = ap (λ (x : Draft). x.pending) (sym (hear-spoken l blank)) ∙ plan-pending (plans-phrased u l e) blank refl
