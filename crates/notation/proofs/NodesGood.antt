-- Nodes whose conditions and value are each the last entry of an expression of the node.
use Prim.Native.Nat.{ℕ, zero, suc, ◌+◌, ◌≤◌, ◌<◌}
use mathlib.Core.Path.{◌≡◌, refl, ap}
use mathlib.Core.Logic.{◌⊎◌, inl, inr}
use mathlib.Core.List.{List, [], ◌∷◌, ◌++◌}
use native.Mathlib.Omega.{arith}
use lib.ListN.{length, get_or, set, length-append, get_or-append}
use Rattle.notation.specs.Draft.{Entry, Node, Body}
use Rattle.notation.specs.Hearing.{◌▸◌, at_last, last}
use Rattle.notation.proofs.Parts.{no_entry, Fine}

-- entry c is the last of an expression of node i
pub record Scoped (es : List Entry) (i c : ℕ) : Type 0 where
  pub begin : ℕ
  pub low : begin ≤ c
  pub high : c < length es
  pub fine : (j : ℕ) → begin ≤ j → j ≤ c → Fine begin i j (get_or es j no_entry)

abbrev pub GivenGood : List Entry → ℕ → List ℕ → Type 0
GivenGood es i [] = Unit {0}
GivenGood es i (c ∷ cs) = ((c ≡ 65535) ⊎ Scoped es i c) × GivenGood es i cs

abbrev pub ValueGood : List Entry → ℕ → Body → Type 0
ValueGood es i Body.list = Unit {0}
ValueGood es i (Body.command c) = Unit {0}
ValueGood es i (Body.assignment x v) = Scoped es i v

abbrev pub NodesGood : List Entry → ℕ → List Node → Type 0
NodesGood es i [] = Unit {0}
NodesGood es i (n ∷ ns) = GivenGood es i n.given × ValueGood es i n.body × NodesGood es (suc i) ns

-- ---- more entries
pub scoped-on : (es more : List Entry) (i c : ℕ) → Scoped es i c → Scoped (es ++ more) i c
scoped-on es more i c s = record {
  begin = s.begin;
  low = s.low;
  high = omega (arith, s.high, length-append es more);
  fine = λ j l m. rw (get_or-append es more no_entry j (omega (arith, s.high))) (s.fine j l m);
}

pub given-on : (es more : List Entry) (i : ℕ) (g : List ℕ) → GivenGood es i g → GivenGood (es ++ more) i g
given-on es more i [] h = tt
given-on es more i (c ∷ g) h = (go h.0, given-on es more i g h.1)
  where
    go : (c ≡ 65535) ⊎ Scoped es i c → (c ≡ 65535) ⊎ Scoped (es ++ more) i c
    go (inl e) = inl e
    go (inr s) = inr (scoped-on es more i c s)

pub value_on : (es more : List Entry) (i : ℕ) (b : Body) → ValueGood es i b → ValueGood (es ++ more) i b
value_on es more i Body.list h = tt
value_on es more i (Body.command c) h = tt
value_on es more i (Body.assignment x v) h = scoped-on es more i v h

pub nodes-on : (es more : List Entry) (i : ℕ) (ns : List Node) → NodesGood es i ns → NodesGood (es ++ more) i ns
nodes-on es more i [] h = tt
nodes-on es more i (n ∷ ns) h = (given-on es more i n.given h.0, value_on es more i n.body h.1, nodes-on es more (suc i) ns h.2)

-- ---- one more node, or the last one changed
pub nodes-add : (es : List Entry) (i : ℕ) (ns : List Node) (n : Node) → ((j : ℕ) → GivenGood es j n.given × ValueGood es j n.body) → NodesGood es i ns → NodesGood es i (ns ▸ n)
unfolding ◌▸◌
nodes-add es i [] n f h = ((f i).0, (f i).1, tt)
nodes-add es i (m ∷ ns) n f h = (h.0, h.1, nodes-add es (suc i) ns n f h.2)

pub nodes-last : (es : List Entry) (f : Node → Node) (i : ℕ) (ns : List Node)
    → ((j : ℕ) (n : Node) → j ≡ i + last ns → GivenGood es j n.given → ValueGood es j n.body → GivenGood es j (f n).given × ValueGood es j (f n).body)
    → NodesGood es i ns → NodesGood es i (at_last f ns)
unfolding at_last last
nodes-last es f i [] k h = tt
nodes-last es f i (n ∷ []) k h = let x = k i n (omega arith) h.0 h.1 in (x.0, x.1, tt)
nodes-last es f i (n ∷ (m ∷ ns)) k h = (h.0, h.1, nodes-last es f (suc i) (m ∷ ns) (λ j x e. k j x (omega arith)) h.2)

pub last-twice : (f g : Node → Node) (ns : List Node) → at_last f (at_last g ns) ≡ at_last (λ n. f (g n)) ns
unfolding at_last
last-twice f g [] = refl
last-twice f g (n ∷ []) = refl
last-twice f g (n ∷ (m ∷ [])) = refl
last-twice f g (n ∷ (m ∷ (x ∷ ns))) = ap (λ z. n ∷ z) (last-twice f g (m ∷ (x ∷ ns)))

pub length_last : (f : Node → Node) (ns : List Node) → length (at_last f ns) ≡ length ns
unfolding at_last
length_last f [] = refl
length_last f (n ∷ []) = refl
length_last f (n ∷ (m ∷ ns)) = ap suc (length_last f (m ∷ ns))

pub set-good : (es : List Entry) (i : ℕ) (g : List ℕ) (k v : ℕ) → Scoped es i v → GivenGood es i g → GivenGood es i (set g k v)
set-good es i [] k v s h = tt
set-good es i (c ∷ g) zero v s h = (inr s, h.1)
set-good es i (c ∷ g) (suc k) v s h = (h.0, set-good es i g k v s h.1)
