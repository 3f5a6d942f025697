-- What holds of each of a list, of the one with a number.
use Prim.Native.Nat.{ℕ, zero, suc, ◌+◌, ◌<◌}
use mathlib.Core.Path.{◌≡◌, refl}
use mathlib.Core.Logic.{◌⊎◌, inl}
use mathlib.Core.List.{List, [], ◌∷◌}
use native.Mathlib.Omega.{arith}
use native.Mathlib.Nat.{add-zero}
use lib.ListN.{length, get_or}
use Rattle.notation.specs.Draft.{Node, Entry, Mentioned}
use Rattle.notation.specs.Hearing.{parent_in}
use Rattle.notation.proofs.Parts.{no_entry}
use Rattle.notation.proofs.NodesGood.{Scoped, GivenGood, ValueGood, NodesGood}
use Rattle.notation.proofs.Covered.{EntryCovered, EntriesCovered, BodyCovered, BodiesCovered, Bounded, ParentsIn}
use Rattle.notation.proofs.Seven.{Seven}
use Rattle.notation.proofs.Fields.{no_node}

pub seven_at : (ns : List Node) (i : ℕ) → Seven ns → i < length ns → length (get_or ns i no_node).given ≡ 7
seven_at [] i h l = absurd (omega arith)
seven_at (n ∷ ns) zero h l = h.0
seven_at (n ∷ ns) (suc i) h l = seven_at ns i h.1 (omega arith)

pub nodes-at : (es : List Entry) (k : ℕ) (ns : List Node) (i : ℕ) → NodesGood es k ns → i < length ns
    → GivenGood es (k + i) (get_or ns i no_node).given × ValueGood es (k + i) (get_or ns i no_node).body
nodes-at es k [] i h l = absurd (omega arith)
nodes-at es k (n ∷ ns) zero h l = rw (add-zero k) (h.0, h.1)
nodes-at es k (n ∷ ns) (suc i) h l = let e : k + suc i ≡ suc k + i = omega arith in rw e (nodes-at es (suc k) ns i h.2 (omega arith))

pub bodies-at : (ms : List Mentioned) (k : ℕ) (ns : List Node) (i : ℕ) → BodiesCovered ms k ns → i < length ns → BodyCovered ms (k + i) (get_or ns i no_node).body
bodies-at ms k [] i h l = absurd (omega arith)
bodies-at ms k (n ∷ ns) zero h l = rw (add-zero k) h.0
bodies-at ms k (n ∷ ns) (suc i) h l = let e : k + suc i ≡ suc k + i = omega arith in rw e (bodies-at ms (suc k) ns i h.1 (omega arith))

pub parents-at : (k : ℕ) (ns : List Node) (i : ℕ) → ParentsIn k ns → Bounded k (get_or ns i no_node).parent
parents-at k [] i h = inl refl
parents-at k (n ∷ ns) zero h = h.0
parents-at k (n ∷ ns) (suc i) h = parents-at k ns i h.1

pub parent-at : (ns : List Node) (i : ℕ) → (get_or ns i no_node).parent ≡ parent_in ns i
unfolding parent_in
parent-at [] i = refl
parent-at (n ∷ ns) zero = refl
parent-at (n ∷ ns) (suc i) = parent-at ns i

pub entries_at : (ms : List Mentioned) (es : List Entry) (e : ℕ) → EntriesCovered ms es → e < length es → EntryCovered ms (get_or es e no_entry)
entries_at ms [] e h l = absurd (omega arith)
entries_at ms (x ∷ es) zero h l = h.0
entries_at ms (x ∷ es) (suc e) h l = entries_at ms es e h.1 (omega arith)

pub given-at : (es : List Entry) (i : ℕ) (g : List ℕ) (k : ℕ) → GivenGood es i g → k < length g → (get_or g k 0 ≡ 65535) ⊎ Scoped es i (get_or g k 0)
given-at es i [] k h l = absurd (omega arith)
given-at es i (c ∷ g) zero h l = h.0
given-at es i (c ∷ g) (suc k) h l = given-at es i g k h.1 (omega arith)
