-- The walk in node order, a visit at a time: settled, it is the definition's next state.
use Prim.Native.Nat.{ℕ, zero, suc, ◌+◌, ◌≤◌, ◌<◌}
use mathlib.Core.Path.{◌≡◌, refl, sym, ap, ◌∙◌}
use mathlib.Core.Logic.{⊎_elim}
use native.Mathlib.Omega.{arith}
use native.Mathlib.Numerals.{add-one}
use lib.Dec.{ltb}
use borrow.Author.Tests.{lt-ltb, le-ltb}
use Rattle.plexil.specs.declared.State.{State}
use Rattle.plexil.specs.Lists.{when◌then◌else◌, count_from}
use Rattle.plexil.specs.Image.{Image, node_count}
use Rattle.plexil.specs.Micro.{step}
use Rattle.plexil.specs.Order.{Carry, carry_nothing, visit, walk, walk_to, settle, count, NamesOnce}
use Rattle.plexil.specs.Promises.{IsAdmitted, Sized}
use Rattle.plexil.proofs.ListLaws.{same?, if-true, if-false}
use Rattle.plexil.proofs.Visit.{Lengths, visit-lengths}
use Rattle.plexil.proofs.Walk.{count-nil, count_same, count-other, start-lengths}
use Rattle.plexil.proofs.AnyOrder.{Fits, fits, any-order-of}

pub walk_to-zero : (p : Image) (s : State) (c : Carry) → walk_to p s c 0 ≡ c
unfolding walk_to
walk_to-zero p s c = refl

pub walk_to-next : (p : Image) (s : State) (c : Carry) (n : ℕ) → walk_to p s c (n + 1) ≡ visit p s (walk_to p s c n) n
unfolding walk_to
walk_to-next p s c n = ap (walk_to p s c) (add-one n)

pub walk_to-lengths : (p : Image) (s : State) → Sized s → (n : ℕ) → Lengths (walk_to p s (carry_nothing s) n)
unfolding walk_to
walk_to-lengths p s z zero = start-lengths p s z
walk_to-lengths p s z (suc n) = visit-lengths p s (walk_to p s (carry_nothing s) n) n (walk_to-lengths p s z n)

-- ---- it is the walk over 0, 1, .. n - 1
walk_from : (p : Image) (s : State) (c : Carry) (n i : ℕ) → walk p s (count_from i (λ k. k) n) (walk_to p s c i) ≡ walk_to p s c (i + n)
unfolding walk count_from walk_to
walk_from p s c zero i = let e : i ≡ i + 0 = omega arith in ap (walk_to p s c) e
walk_from p s c (suc n) i = let e : suc i + n ≡ i + suc n = omega arith in walk_from p s c n (suc i) ∙ ap (walk_to p s c) e

pub walk-in-order : (p : Image) (s : State) (c : Carry) (n : ℕ) → walk p s (count_from 0 (λ k. k) n) c ≡ walk_to p s c n
unfolding walk_to
walk-in-order p s c n = let e : 0 + n ≡ n = omega arith in walk_from p s c n 0 ∙ ap (walk_to p s c) e

-- ---- which names each node once
count-before : (n i j : ℕ) → j < i → count j (count_from i (λ k. k) n) ≡ 0
unfolding count_from
count-before zero i j b = count-nil j
count-before (suc n) i j b = count-other i j _ (λ e. omega arith) ∙ count-before n (suc i) j (omega arith)

count-from : (n i j : ℕ) → i ≤ j → count j (count_from i (λ k. k) n) ≡ (when ltb j (i + n) then 1 else 0)
unfolding count_from
count-from zero i j b = count-nil j ∙ sym (if-false _ 1 0 (le-ltb j (i + 0) (omega arith)))
count-from (suc n) i j b =
    ⊎_elim
    (λ (e : j ≡ i). rw e (count_same i _ ∙ ap suc (count-before n (suc i) i (omega arith)) ∙ sym (if-true _ 1 0 (lt-ltb i (i + suc n) (omega arith)))))
    (λ apart. count-other i j _ apart ∙ count-from n (suc i) j (omega arith) ∙ ap (λ (m : ℕ). when ltb j m then 1 else 0) (omega arith))
    (same? j i)

pub node-order-once : (p : Image) → NamesOnce p (count_from 0 (λ k. k) (node_count p))
unfolding NamesOnce
node-order-once p j = count-from (node_count p) 0 j (omega arith) ∙ ap (λ (n : ℕ). when ltb j n then 1 else 0) (omega arith)

-- ---- settled
pub node-order-of : (p : Image) (s : State) → Fits p → Sized s → settle p s (walk_to p s (carry_nothing s) (node_count p)) ≡ step p s
node-order-of p s ok z =
    ap (settle p s) (sym (walk-in-order p s (carry_nothing s) (node_count p)))
    ∙ any-order-of p s ok z (count_from 0 (λ k. k) (node_count p)) (node-order-once p)

pub node-order : (p : Image) (s : State) → IsAdmitted p → Sized s → settle p s (walk_to p s (carry_nothing s) (node_count p)) ≡ step p s
node-order p s a z = node-order-of p s (fits p a) z
