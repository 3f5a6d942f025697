-- The sayings of an accepted text are orderly.
use Prim.Native.Nat.{ℕ, suc}
use mathlib.Core.Path.{◌≡◌, refl}
use mathlib.Core.Bool.{false}
use mathlib.Core.List.{List, ◌∷◌}
use mathlib.Core.Option.{some}
use Rattle.grammar.specs.Table.{Said}
use Rattle.notation.specs.Sayings.{Saying}
use Rattle.notation.specs.Spoken.{is_silent, spoken}
use Rattle.notation.specs.Phrases as Phrases
use Rattle.notation.specs.Phrases.{Sayings, Leaf, Path, Operand, Chain, Expression, Initial, Opening, Node, Attributes, Nodes, Plan}
use Rattle.notation.specs.Reading.{plan_says}
use Rattle.notation.proofs.Phrased.{plans-phrased}
use Rattle.names.specs.Roles.{role_of}
use Rattle.names.specs.Order.{Standing, declaring, within, holding, between, declares, stays, node_begins, list_opens, list_shuts, name_held, path_goes, path_ends, settles, after, Orderly, over, onward}

-- the first of the sayings may stand at s, and leads to t
record First (x : Saying) (s t : Standing) : Type 0 where
  sound : is_silent x ≡ false
  leads : after (role_of x) s ≡ some t

first : {w : Said Saying} {l : Sayings} {s t : Standing} (x : Saying) → w.what ≡ x → First x s t → Orderly t l → Orderly s (w ∷ l)
first {w = w} {s = s} {t = t} x e h o = onward {s = s} {t = t} {w = w} (rw e h.sound) (rw e h.leads) o

leaf-goes : {x : Saying} (n : ℕ) → Leaf x → First x (within n) (within n)
unfolding is_silent role_of after stays
leaf-goes n (Phrases.Leaf.is-truth b) = record { sound = refl; leads = refl }
leaf-goes n (Phrases.Leaf.is_whole b) = record { sound = refl; leads = refl }
leaf-goes n (Phrases.Leaf.is-decimal b) = record { sound = refl; leads = refl }
leaf-goes n (Phrases.Leaf.is-bits b) = record { sound = refl; leads = refl }
leaf-goes n (Phrases.Leaf.is-unknown k) = record { sound = refl; leads = refl }
leaf-goes n Phrases.Leaf.is-lookup = record { sound = refl; leads = refl }

initial-goes : {x : Saying} (n : ℕ) → Initial x → First x (within n) (within n)
unfolding is_silent role_of after stays
initial-goes n (Phrases.Initial.is-truth b) = record { sound = refl; leads = refl }
initial-goes n (Phrases.Initial.is_whole b) = record { sound = refl; leads = refl }
initial-goes n (Phrases.Initial.is-decimal b) = record { sound = refl; leads = refl }
initial-goes n (Phrases.Initial.is-bits b) = record { sound = refl; leads = refl }

-- what follows an operand may stand with a name held or without
abbrev Both : ℕ → Sayings → Type 0
Both n l = Orderly (within n) l × Orderly (holding n) l

path-goes : {l k : Sayings} (n : ℕ) → Path l k → Orderly (within n) k → Orderly (holding n) l
unfolding is_silent role_of after path_goes path_ends
path-goes n (Phrases.Path.asked a m c e) o = first _ e record { sound = refl; leads = refl } o
path-goes n (Phrases.Path.part e p) o = first _ e record { sound = refl; leads = refl } (path-goes n p o)

mutual
  unfolding is_silent role_of after name_held stays settles

  operand-goes : {l k : Sayings} (n : ℕ) → Operand l k → Both n k → Orderly (within n) l
  operand-goes n (Phrases.Operand.leaf f) o = first _ refl (leaf-goes n f) o.0
  operand-goes n (Phrases.Operand.variable e) o = first _ e record { sound = refl; leads = refl } o.1
  operand-goes n (Phrases.Operand.path e p) o = first _ e record { sound = refl; leads = refl } (path-goes n p o.0)
  operand-goes n (Phrases.Operand.not e p) o = first _ e record { sound = refl; leads = refl } (operand-goes n p o)
  operand-goes n (Phrases.Operand.group e p f) o = first _ e record { sound = refl; leads = refl } (chain-goes n p (first _ f record { sound = refl; leads = refl } o.0, first _ f record { sound = refl; leads = refl } o.0))

  chain-goes : {l k : Sayings} (n : ℕ) → Chain l k → Both n k → Orderly (within n) l
  chain-goes n (Phrases.Chain.one p) o = operand-goes n p o
  chain-goes n (Phrases.Chain.more a p e q) o = operand-goes n p (first _ e record { sound = refl; leads = refl } (chain-goes n q o), first _ e record { sound = refl; leads = refl } (chain-goes n q o))

expression-goes : {l k : Sayings} (n : ℕ) → Expression l k → Orderly (within n) k → Orderly (within n) l
unfolding is_silent role_of after settles
expression-goes n (Phrases.Expression.ended p e) o = chain-goes n p (first _ e record { sound = refl; leads = refl } o, first _ e record { sound = refl; leads = refl } o)

root-goes : {x : Saying} → Opening x → First x declaring (within 0)
unfolding is_silent role_of after node_begins
root-goes Phrases.Opening.named = record { sound = refl; leads = refl }
root-goes Phrases.Opening.unnamed = record { sound = refl; leads = refl }

opening-goes : {x : Saying} (n : ℕ) → Opening x → First x (within (suc n)) (within (suc n)) × First x (between (suc n)) (within (suc n))
unfolding is_silent role_of after node_begins
opening-goes n Phrases.Opening.named = (record { sound = refl; leads = refl }, record { sound = refl; leads = refl })
opening-goes n Phrases.Opening.unnamed = (record { sound = refl; leads = refl }, record { sound = refl; leads = refl })

-- what follows a node
abbrev Either : ℕ → Sayings → Type 0
Either n l = Orderly (within n) l × Orderly (between n) l

mutual
  unfolding is_silent role_of after stays list_opens list_shuts

  node-goes : {l k : Sayings} (n : ℕ) → Node l k → Either (suc n) k → Either (suc n) l
  node-goes n (Phrases.Node.node f p) o = (first _ refl (opening-goes n f).0 (attributes-go (suc n) p o), first _ refl (opening-goes n f).1 (attributes-go (suc n) p o))

  attributes-go : {l k : Sayings} (n : ℕ) → Attributes l k → Either n k → Orderly (within n) l
  attributes-go n (Phrases.Attributes.condition i e p q) o = first _ e record { sound = refl; leads = refl } (expression-goes n p (attributes-go n q o))
  attributes-go n (Phrases.Attributes.rank e p) o = first _ e record { sound = refl; leads = refl } (attributes-go n p o)
  attributes-go n (Phrases.Attributes.variable a e p) o = first _ e record { sound = refl; leads = refl } (attributes-go n p o)
  attributes-go n (Phrases.Attributes.initial f p) o = first _ refl (initial-goes n f) (attributes-go n p o)
  attributes-go n (Phrases.Attributes.list e p) o = first _ e record { sound = refl; leads = refl } (nodes-go n p o).1
  attributes-go n (Phrases.Attributes.command e) o = first _ e record { sound = refl; leads = refl } o.0
  attributes-go n (Phrases.Attributes.assignment e p) o = first _ e record { sound = refl; leads = refl } (expression-goes n p o.0)

  nodes-go : {l k : Sayings} (n : ℕ) → Nodes l k → Either n k → Either (suc n) l
  nodes-go n (Phrases.Nodes.closed e) o = (first _ e record { sound = refl; leads = refl } o.1, first _ e record { sound = refl; leads = refl } o.1)
  nodes-go n (Phrases.Nodes.also p q) o = node-goes n p (nodes-go n q o)

plan-goes : {l : Sayings} → Plan l → Orderly declaring l
unfolding is_silent role_of after declares
plan-goes (Phrases.Plan.root (Phrases.Node.node f p)) = first _ refl (root-goes f) (attributes-go 0 p (over, over))
plan-goes (Phrases.Plan.lookup a e p) = first _ e record { sound = refl; leads = refl } (plan-goes p)
plan-goes (Phrases.Plan.command e f p) = first _ e record { sound = refl; leads = refl } (first _ f record { sound = refl; leads = refl } (plan-goes p))

pub plans-orderly : (u : List ℕ) (l : List (Said Saying)) → plan_says u ≡ some l → Orderly declaring (spoken l)
plans-orderly u l e = plan-goes (plans-phrased u l e)
