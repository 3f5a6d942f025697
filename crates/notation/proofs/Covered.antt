-- What is mentioned stays mentioned, and a parent stays a number of a node, whatever is added to a draft.
use Prim.Native.Nat.{ℕ, zero, suc, ◌+◌, ◌≤◌}
use mathlib.Core.Path.{◌≡◌, refl, sym, ◌∙◌, ap, subst}
use mathlib.Core.Logic.{◌⊎◌, inl, inr}
use mathlib.Core.Bool.{Bool, true, false, cond}
use mathlib.Core.List.Memᴰ
use mathlib.Core.List.{List, [], ◌∷◌, ◌++◌, Memᴰ}
use native.Mathlib.Omega.{arith}
use lib.ListN.{length, length-append}
use lib.Dec.{leb}
use Rattle.grammar.specs.Spelling.{Token}
use Rattle.notation.specs.Sayings.{Operator, disjunction, conjunction, equal, unequal, less, at_most, greater, at_least, plus, minus, times}
use Rattle.notation.specs.Draft.{Entry, Mention, Mentioned, Pending, Node, Body}
use Rattle.notation.specs.Hearing.{◌▸◌, at_last, last, strength, strength_of_not, made, ending, parent_in}

-- the use of variable x by node n is mentioned
abbrev pub Covers : List Mentioned → ℕ → Token → Type 0
Covers ms n x = (p : ℕ) × Memᴰ (record { mention = Mention.use_of_variable n x; place = p }) ms

abbrev pub EntryCovered : List Mentioned → Entry → Type 0
EntryCovered ms (Entry.constant k c) = Unit {0}
EntryCovered ms (Entry.unknown_of k) = Unit {0}
EntryCovered ms (Entry.variable n x) = Covers ms n x
EntryCovered ms (Entry.lookup x) = Unit {0}
EntryCovered ms (Entry.about w n xs k) = Unit {0}
EntryCovered ms (Entry.negation a) = Unit {0}
EntryCovered ms (Entry.two o a b) = Unit {0}

abbrev pub EntriesCovered : List Mentioned → List Entry → Type 0
EntriesCovered ms [] = Unit {0}
EntriesCovered ms (e ∷ es) = EntryCovered ms e × EntriesCovered ms es

abbrev pub BodyCovered : List Mentioned → ℕ → Body → Type 0
BodyCovered ms i Body.list = Unit {0}
BodyCovered ms i (Body.command c) = Unit {0}
BodyCovered ms i (Body.assignment x v) = Covers ms i x

abbrev pub BodiesCovered : List Mentioned → ℕ → List Node → Type 0
BodiesCovered ms i [] = Unit {0}
BodiesCovered ms i (n ∷ ns) = BodyCovered ms i n.body × BodiesCovered ms (suc i) ns

abbrev pub Bounded : ℕ → ℕ → Type 0
Bounded n x = (x ≡ 65535) ⊎ (x ≤ n)

abbrev pub ParentsIn : ℕ → List Node → Type 0
ParentsIn k [] = Unit {0}
ParentsIn k (n ∷ ns) = Bounded k n.parent × ParentsIn k ns

-- a draft's mentions, entries, nodes and open list
pub record Steady (ms : List Mentioned) (es : List Entry) (ns : List Node) (above : ℕ) : Type 0 where
  pub entries : EntriesCovered ms es
  pub bodies : BodiesCovered ms 0 ns
  pub parents : ParentsIn (length ns) ns
  pub within : Bounded (length ns) above

-- ---- more mentions
pub entry-on : (ms more : List Mentioned) (e : Entry) → EntryCovered ms e → EntryCovered (ms ++ more) e
entry-on ms more (Entry.constant k c) h = tt
entry-on ms more (Entry.unknown_of k) h = tt
entry-on ms more (Entry.variable n x) h = (h.0, Memᴰ.append_left more h.1)
entry-on ms more (Entry.lookup x) h = tt
entry-on ms more (Entry.about w n xs k) h = tt
entry-on ms more (Entry.negation a) h = tt
entry-on ms more (Entry.two o a b) h = tt

pub entries-on : (ms more : List Mentioned) (es : List Entry) → EntriesCovered ms es → EntriesCovered (ms ++ more) es
entries-on ms more [] h = tt
entries-on ms more (e ∷ es) h = (entry-on ms more e h.0, entries-on ms more es h.1)

pub body-on : (ms more : List Mentioned) (i : ℕ) (b : Body) → BodyCovered ms i b → BodyCovered (ms ++ more) i b
body-on ms more i Body.list h = tt
body-on ms more i (Body.command c) h = tt
body-on ms more i (Body.assignment x v) h = (h.0, Memᴰ.append_left more h.1)

pub bodies-on : (ms more : List Mentioned) (i : ℕ) (ns : List Node) → BodiesCovered ms i ns → BodiesCovered (ms ++ more) i ns
bodies-on ms more i [] h = tt
bodies-on ms more i (n ∷ ns) h = (body-on ms more i n.body h.0, bodies-on ms more (suc i) ns h.1)

pub steady-on : (ms more : List Mentioned) (es : List Entry) (ns : List Node) (a : ℕ) → Steady ms es ns a → Steady (ms ++ more) es ns a
steady-on ms more es ns a s = record { entries = entries-on ms more es s.entries; bodies = bodies-on ms more 0 ns s.bodies; parents = s.parents; within = s.within }

-- ---- more entries
pub entries-add : (ms : List Mentioned) (es more : List Entry) → EntriesCovered ms es → EntriesCovered ms more → EntriesCovered ms (es ++ more)
entries-add ms [] more h k = k
entries-add ms (e ∷ es) more h k = (h.0, entries-add ms es more h.1 k)

pub steady-add : (ms : List Mentioned) (es more : List Entry) (ns : List Node) (a : ℕ) → EntriesCovered ms more → Steady ms es ns a → Steady ms (es ++ more) ns a
steady-add ms es more ns a h s = record { entries = entries-add ms es more s.entries h; bodies = s.bodies; parents = s.parents; within = s.within }

pub made_covered : (ms : List Mentioned) (o : Operator) (a b n : ℕ) → EntriesCovered ms (made o a b n)
unfolding made
made_covered ms disjunction a b n = (tt, tt)
made_covered ms conjunction a b n = (tt, tt)
made_covered ms equal a b n = (tt, tt)
made_covered ms unequal a b n = (tt, (tt, tt))
made_covered ms less a b n = (tt, tt)
made_covered ms at_most a b n = (tt, tt)
made_covered ms greater a b n = (tt, tt)
made_covered ms at_least a b n = (tt, tt)
made_covered ms plus a b n = (tt, tt)
made_covered ms minus a b n = (tt, tt)
made_covered ms times a b n = (tt, tt)

pub ending-covered : (ms : List Mentioned) (k : ℕ) (ps : List Pending) (es : List Entry) → EntriesCovered ms es → EntriesCovered ms (ending k ps es)
unfolding ending ◌▸◌
ending-covered ms k [] es h = h
ending-covered ms k (Pending.paren ∷ ps) es h = h
ending-covered ms k (Pending.prefix ∷ ps) es h = go (leb k strength_of_not) (ending-covered ms k ps (es ▸ Entry.negation (last es)) (entries-add ms es _ h (tt, tt)))
  where
    go : (t : Bool) → EntriesCovered ms (ending k ps (es ▸ Entry.negation (last es))) → EntriesCovered ms (cond t (ending k ps (es ▸ Entry.negation (last es))) es)
    go true r = r
    go false r = h
ending-covered ms k (Pending.infix' o a ∷ ps) es h =
    go (leb k (strength o)) (ending-covered ms k ps (es ++ made o a (last es) (length es)) (entries-add ms es _ h (made_covered ms o a (last es) (length es))))
  where
    go : (t : Bool) → EntriesCovered ms (ending k ps (es ++ made o a (last es) (length es))) → EntriesCovered ms (cond t (ending k ps (es ++ made o a (last es) (length es))) es)
    go true r = r
    go false r = h

pub steady-ending : (ms : List Mentioned) (k : ℕ) (ps : List Pending) (es : List Entry) (ns : List Node) (a : ℕ) → Steady ms es ns a → Steady ms (ending k ps es) ns a
steady-ending ms k ps es ns a s = record { entries = ending-covered ms k ps es s.entries; bodies = s.bodies; parents = s.parents; within = s.within }

-- ---- nodes
pub bounded-on : (n m x : ℕ) → n ≤ m → Bounded n x → Bounded m x
bounded-on n m x l (inl e) = inl e
bounded-on n m x l (inr h) = inr (omega arith)

pub parents-on : (n m : ℕ) (ns : List Node) → n ≤ m → ParentsIn n ns → ParentsIn m ns
parents-on n m [] l h = tt
parents-on n m (x ∷ ns) l h = (bounded-on n m x.parent l h.0, parents-on n m ns l h.1)

pub parents-add : (k : ℕ) (ns : List Node) (n : Node) → Bounded k n.parent → ParentsIn k ns → ParentsIn k (ns ▸ n)
unfolding ◌▸◌
parents-add k [] n b h = (b, tt)
parents-add k (x ∷ ns) n b h = (h.0, parents-add k ns n b h.1)

pub bodies-add : (ms : List Mentioned) (i : ℕ) (ns : List Node) (n : Node) → ((j : ℕ) → BodyCovered ms j n.body) → BodiesCovered ms i ns → BodiesCovered ms i (ns ▸ n)
unfolding ◌▸◌
bodies-add ms i [] n f h = (f i, tt)
bodies-add ms i (x ∷ ns) n f h = (h.0, bodies-add ms (suc i) ns n f h.1)

pub length_more : (ns : List Node) (n : Node) → length (ns ▸ n) ≡ suc (length ns)
unfolding ◌▸◌
length_more ns n = length-append ns (n ∷ []) ∙ omega arith

pub steady-node : (ms : List Mentioned) (es : List Entry) (ns : List Node) (a : ℕ) (n : Node) → n.parent ≡ a → n.body ≡ Body.list → Steady ms es ns a → Steady ms es (ns ▸ n) a
steady-node ms es ns a n e b s =
    let l : length ns ≤ length (ns ▸ n) = omega (arith, length_more ns n) in
    record {
      entries = s.entries;
      bodies = bodies-add ms 0 ns n (λ j. rw b tt) s.bodies;
      parents = parents-add _ ns n (subst (Bounded (length (ns ▸ n))) (sym e) (bounded-on (length ns) (length (ns ▸ n)) a l s.within)) (parents-on _ _ ns l s.parents);
      within = bounded-on _ _ a l s.within;
    }

pub parents-last : (k : ℕ) (f : Node → Node) → ((n : Node) → (f n).parent ≡ n.parent) → (ns : List Node) → ParentsIn k ns → ParentsIn k (at_last f ns)
unfolding at_last
parents-last k f p [] h = tt
parents-last k f p (n ∷ []) h = (rw (p n) h.0, tt)
parents-last k f p (n ∷ (m ∷ ns)) h = (h.0, parents-last k f p (m ∷ ns) h.1)

pub bodies-last : (ms : List Mentioned) (f : Node → Node) (i : ℕ) (ns : List Node)
    → ((j : ℕ) (n : Node) → j ≡ i + last ns → BodyCovered ms j n.body → BodyCovered ms j (f n).body) → BodiesCovered ms i ns → BodiesCovered ms i (at_last f ns)
unfolding at_last last
bodies-last ms f i [] k h = tt
bodies-last ms f i (n ∷ []) k h = (k i n (omega arith) h.0, tt)
bodies-last ms f i (n ∷ (m ∷ ns)) k h = (h.0, bodies-last ms f (suc i) (m ∷ ns) (λ j x e. k j x (omega arith)) h.1)

pub length_last : (f : Node → Node) (ns : List Node) → length (at_last f ns) ≡ length ns
unfolding at_last
length_last f [] = refl
length_last f (n ∷ []) = refl
length_last f (n ∷ (m ∷ ns)) = ap suc (length_last f (m ∷ ns))

pub steady-last : (ms : List Mentioned) (es : List Entry) (ns : List Node) (a : ℕ) (f : Node → Node) → ((n : Node) → (f n).parent ≡ n.parent)
    → ((j : ℕ) (n : Node) → j ≡ last ns → BodyCovered ms j n.body → BodyCovered ms j (f n).body) → Steady ms es ns a → Steady ms es (at_last f ns) a
steady-last ms es ns a f p k s = record {
  entries = s.entries;
  bodies = bodies-last ms f 0 ns (λ j n e. k j n (omega (arith, e))) s.bodies;
  parents = rw (length_last f ns) (parents-last (length ns) f p ns s.parents);
  within = rw (length_last f ns) s.within;
}

pub parent-bounded : (k : ℕ) (ns : List Node) (i : ℕ) → ParentsIn k ns → Bounded k (parent_in ns i)
unfolding parent_in
parent-bounded k [] i h = inl refl
parent-bounded k (n ∷ ns) zero h = h.0
parent-bounded k (n ∷ ns) (suc i) h = parent-bounded k ns i h.1
