-- The words of what a node says of itself follow the rows.
use Prim.Native.Nat.{ℕ, zero, suc, ◌+◌, ◌-◌, ◌≤◌, ◌<◌}
use mathlib.Core.Path.{◌≡◌, refl}
use mathlib.Core.Bool.{Bool, true, false}
use mathlib.Core.List.Memᴰ
use mathlib.Core.List.{List, [], ◌∷◌, Memᴰ}
use mathlib.Core.Option.{Option, none, some}
use native.Mathlib.Omega.{arith}
use borrow.Author.Tests.{leb-true, ltb-true, ltb-false, ne_eqb}
use lib.ListN.{length}
use lib.Dec.{ltb}
use Rattle.grammar.specs.Spelling as Spelling
use Rattle.grammar.specs.Leads as Leads
use Rattle.grammar.specs.Leads.{the, name, up_to}
use Rattle.grammar.specs.Table.{Item, lit, sort, Row, pick}
use Rattle.notation.specs.Sayings.{Kind, boolean, integer, float, Saying, ranks, declares_variable, initial_truth, initial_whole, initial_bits}
use Rattle.notation.specs.Rows.{semicolon, Sort, priority, negated_integer, attributes, variables, initial, value, initial_pattern, met, once, condition, rows, kind_word, ◌↣◌says◌}
use Rattle.notation.specs.Rows as Table
use Rattle.notation.specs.Abstract.{Expr, Own, is_constant, FineOwned, FineInitial, FineConditions}
use Rattle.notation.specs.Writing as Writing
use Rattle.notation.specs.Writing.{Word, named, numeral, constant_words, initial_words, owned_words, priority_words, condition_word, condition_words}
use Rattle.notation.proofs.Goes.{Goes, stop, step, goes-append, by_row}
use Rattle.notation.proofs.Numerals.{numeral-accepted}
use Rattle.notation.proofs.OperandsGo.{finite-low, finite-high}
use Rattle.notation.proofs.FormulasGo.{expr-goes, ends-go}

-- ---- variables
pub value-goes : (k : Kind) (w : ℕ) (s : List (Item Sort)) → is_constant k w ≡ true
    → Goes (sort (value k) ∷ s) (constant_words initial_truth initial_whole initial_bits k w) (lit ";" ∷ sort (variables k) ∷ s)
unfolding Table.opened Spelling.opened Leads.opened pick constant_words
value-goes boolean zero s e = step _ refl refl stop
value-goes boolean (suc n) s e = step _ refl refl stop
value-goes integer n s e = go (ltb n 9223372036854775808) refl
  where
    high : n ≤ 18446744073709551615
    high = unfold is_constant in leb-true n 18446744073709551615 e

    go : (b : Bool) → ltb n 9223372036854775808 ≡ b
        → Goes (sort (value integer) ∷ s) (elim b as (λ _. List Word) [ true ↦ named (initial_whole false) (numeral n) ∷ [] | false ↦ Writing.silent "-" ∷ named (initial_whole true) (numeral (18446744073709551616 - n)) ∷ [] ])
        (lit ";" ∷ sort (variables integer) ∷ s)
    go true l =
        let h = ltb-true n 9223372036854775808 l in
        by_row (value integer) (up_to 9223372036854775807 ↣ lit ";" ∷ sort (variables integer) ∷ [] says initial_whole false) (numeral n)
        (Memᴰ.tail (Memᴰ.head refl)) (numeral-accepted 9223372036854775807 n (omega arith) (omega arith)) stop
    go false l =
        let h = ltb-false n 9223372036854775808 l in
        step _ refl refl
        (by_row negated_integer (up_to 9223372036854775808 ↣ lit ";" ∷ sort (variables integer) ∷ [] says initial_whole true) (numeral (18446744073709551616 - n))
        (Memᴰ.head refl) (numeral-accepted 9223372036854775808 (18446744073709551616 - n) (omega arith) (omega arith)) stop)
value-goes float n s e = go (ltb n 9223372036854775808) refl
  where
    inner : (g : Bool) (m : ℕ) → m ≤ 9218868437227405311
        → Goes (lit "(" ∷ sort (initial_pattern g) ∷ lit ")" ∷ lit ";" ∷ sort (variables float) ∷ s) (Writing.silent "(" ∷ named (initial_bits g) (numeral m) ∷ Writing.silent ")" ∷ []) (lit ";" ∷ sort (variables float) ∷ s)
    inner g m h =
        step _ refl refl
        (by_row (initial_pattern g) (up_to 9218868437227405311 ↣ [] says initial_bits g) (numeral m) (Memᴰ.head refl) (numeral-accepted 9218868437227405311 m h (omega arith)) (step _ refl refl stop))

    go : (b : Bool) → ltb n 9223372036854775808 ≡ b
        → Goes (sort (value float) ∷ s) (elim b as (λ _. List Word) [
          | true ↦ Writing.silent "RealBits" ∷ Writing.silent "(" ∷ named (initial_bits false) (numeral n) ∷ Writing.silent ")" ∷ []
          | false ↦ Writing.silent "-" ∷ Writing.silent "RealBits" ∷ Writing.silent "(" ∷ named (initial_bits true) (numeral (n - 9223372036854775808)) ∷ Writing.silent ")" ∷ []
        ]) (lit ";" ∷ sort (variables float) ∷ s)
    go true l = step _ refl refl (inner false n (finite-low n e l))
    go false l = step _ refl refl (step _ refl refl (inner true (n - 9223372036854775808) (finite-high n e l)))

pub initial-goes : (k : Kind) (o : Option ℕ) (s : List (Item Sort)) → FineInitial k o → Goes (sort (initial k) ∷ s) (initial_words k o) (sort (variables k) ∷ s)
unfolding Table.opened Spelling.opened Leads.opened pick initial_words
initial-goes k none s h = step _ refl refl stop
initial-goes k (some w) s h = step _ refl refl (goes-append (value-goes k w s h) (step _ refl refl stop))

pub owned-goes : (os : List Own) (m : List ℕ) (s : List (Item Sort)) → FineOwned os → Goes (sort (attributes m) ∷ s) (owned_words os) (sort (attributes m) ∷ s)
unfolding Table.opened Spelling.opened Leads.opened pick owned_words
owned-goes [] m s h = stop
owned-goes (o ∷ os) m s h = block o.kind (goes-append (initial-goes o.kind o.initial (sort (attributes m) ∷ s) h.1) (step _ refl refl (owned-goes os m s h.2)))
  where
    block : (k : Kind) {ws : List Word} {s' : List (Item Sort)} → Goes (sort (initial k) ∷ sort (attributes m) ∷ s) ws s'
        → Goes (sort (attributes m) ∷ s) (Writing.silent (kind_word k) ∷ Writing.silent ":" ∷ Writing.silent "{" ∷ named (declares_variable k) o.name ∷ ws) s'
    block boolean g = step _ refl refl (step _ refl refl (step _ refl refl (by_row (variables boolean) (name ↣ sort (initial boolean) ∷ [] says declares_variable boolean) o.name (Memᴰ.tail (Memᴰ.head refl)) h.0 g)))
    block integer g = step _ refl refl (step _ refl refl (step _ refl refl (by_row (variables integer) (name ↣ sort (initial integer) ∷ [] says declares_variable integer) o.name (Memᴰ.tail (Memᴰ.head refl)) h.0 g)))
    block float g = step _ refl refl (step _ refl refl (step _ refl refl (by_row (variables float) (name ↣ sort (initial float) ∷ [] says declares_variable float) o.name (Memᴰ.tail (Memᴰ.head refl)) h.0 g)))

-- ---- the priority and the conditions
pub priority-goes : (p : ℕ) (s : List (Item Sort)) → p ≤ 65535 → Goes (sort (attributes []) ∷ s) (priority_words p) (sort (attributes (7 ∷ [])) ∷ s)
unfolding Table.opened Spelling.opened Leads.opened pick priority_words
priority-goes p s h =
    step _ refl refl (step _ refl refl (by_row priority (up_to 65535 ↣ [] says ranks) (numeral p) (Memᴰ.head refl) (numeral-accepted 65535 p h (omega arith)) (step _ refl refl stop)))

-- the conditions from number i on are still to come
abbrev pub Fresh : ℕ → List ℕ → Type 0
Fresh i m = (j : ℕ) → i ≤ j → j < 7 → met j m ≡ false

pub fresh-next : (i : ℕ) (m : List ℕ) → Fresh i m → Fresh (suc i) (i ∷ m)
unfolding met
fresh-next i m f j l h = rw (ne_eqb j i (λ z. omega arith)) (f j (omega arith) h)

pub in-once : (m : List ℕ) (n : ℕ) (r : Row Sort Saying) → met n m ≡ false → Memᴰ r (once m n r)
unfolding once
in-once m n r e = rw e (Memᴰ.head refl)

abbrev pub nth : List ℕ → ℕ → Row Sort Saying
nth m i = condition m i (condition_word i)

pub condition-in : (i : ℕ) (m : List ℕ) → i < 7 → met i m ≡ false → Memᴰ (nth m i) (rows (attributes m))
unfolding rows condition_word
condition-in i m l e =
    Memᴰ.tail (Memᴰ.tail (Memᴰ.tail (Memᴰ.tail (Memᴰ.tail (Memᴰ.tail (go i l e))))))
  where
    go : (i : ℕ) → i < 7 → met i m ≡ false → Memᴰ (nth m i) (Table.onces m)
    go zero l e = Memᴰ.append_left _ (in-once m 0 (nth m 0) e)
    go (suc zero) l e = Memᴰ.append_right (once m 0 (nth m 0)) (Memᴰ.append_left _ (in-once m 1 (nth m 1) e))
    go (suc (suc zero)) l e = Memᴰ.append_right (once m 0 (nth m 0)) (Memᴰ.append_right (once m 1 (nth m 1)) (Memᴰ.append_left _ (in-once m 2 (nth m 2) e)))
    go (suc (suc (suc zero))) l e =
        Memᴰ.append_right (once m 0 (nth m 0)) (Memᴰ.append_right (once m 1 (nth m 1)) (Memᴰ.append_right (once m 2 (nth m 2)) (Memᴰ.append_left _ (in-once m 3 (nth m 3) e))))
    go (suc (suc (suc (suc zero)))) l e =
        Memᴰ.append_right (once m 0 (nth m 0)) (Memᴰ.append_right (once m 1 (nth m 1)) (Memᴰ.append_right (once m 2 (nth m 2)) (Memᴰ.append_right (once m 3 (nth m 3))
        (Memᴰ.append_left _ (in-once m 4 (nth m 4) e)))))
    go (suc (suc (suc (suc (suc zero))))) l e =
        Memᴰ.append_right (once m 0 (nth m 0)) (Memᴰ.append_right (once m 1 (nth m 1)) (Memᴰ.append_right (once m 2 (nth m 2)) (Memᴰ.append_right (once m 3 (nth m 3))
        (Memᴰ.append_right (once m 4 (nth m 4)) (Memᴰ.append_left _ (in-once m 5 (nth m 5) e))))))
    go (suc (suc (suc (suc (suc (suc zero)))))) l e =
        Memᴰ.append_right (once m 0 (nth m 0)) (Memᴰ.append_right (once m 1 (nth m 1)) (Memᴰ.append_right (once m 2 (nth m 2)) (Memᴰ.append_right (once m 3 (nth m 3))
        (Memᴰ.append_right (once m 4 (nth m 4)) (Memᴰ.append_right (once m 5 (nth m 5)) (Memᴰ.append_left _ (in-once m 6 (nth m 6) e)))))))
    go (suc (suc (suc (suc (suc (suc (suc k))))))) l e = absurd (omega arith)

pub condition-accepted : (i : ℕ) → Leads.accepts Table.reserved (the (condition_word i)) (Leads.bytes (condition_word i)) ≡ true
unfolding condition_word Spelling.opened Leads.opened
condition-accepted zero = refl
condition-accepted (suc zero) = refl
condition-accepted (suc (suc zero)) = refl
condition-accepted (suc (suc (suc zero))) = refl
condition-accepted (suc (suc (suc (suc zero)))) = refl
condition-accepted (suc (suc (suc (suc (suc zero))))) = refl
condition-accepted (suc (suc (suc (suc (suc (suc k)))))) = refl

pub conditions-go : (cs : List (Option Expr)) (i : ℕ) (m : List ℕ) (s : List (Item Sort)) → i + length cs ≡ 7 → Fresh i m → FineConditions cs
    → (n : List ℕ) × Goes (sort (attributes m) ∷ s) (condition_words i cs) (sort (attributes n) ∷ s)
unfolding condition_words Spelling.opened Leads.opened pick
conditions-go [] i m s l f h = (m, stop)
conditions-go (none ∷ cs) i m s l f h = conditions-go cs (suc i) m s (omega arith) (λ j k. f j (omega arith)) h
conditions-go (some e ∷ cs) i m s l f h =
    let p = expr-goes e semicolon (sort (attributes (i ∷ m)) ∷ s) h.0 in
    let q = conditions-go cs (suc i) (i ∷ m) s (omega arith) (fresh-next i m f) h.1 in (
      q.0,
      by_row (attributes m) (nth m i) (Leads.bytes (condition_word i)) (condition-in i m (omega arith) (f i (omega arith) (omega arith))) (condition-accepted i)
          (step _ refl refl (goes-append p.2 (goes-append (ends-go p.0 (sort (attributes (i ∷ m)) ∷ s) p.1) q.1))),
    )
