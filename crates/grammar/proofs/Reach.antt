-- `reach` is the length of the longest prefix that some text of the grammar begins with.
use Prim.Native.Nat.{ℕ, zero, suc, ◌≤◌}
use native.Mathlib.Omega.{arith}
use lib.ListN.{length, take}
use mathlib.Core.Path.{◌≡◌, refl, sym, subst}
use mathlib.Core.Bool.{Bool, true, false}
use mathlib.Core.List.{List, [], ◌∷◌, ◌++◌}
use Rattle.grammar.specs.Grammar.{Grammar, Each}
use Rattle.grammar.specs.Spelling.{Token, given}
use Rattle.grammar.specs.Text.{BeginsText, Config, start, next, reads, Accepted, Hopes, alive, alive_at, reach}
use Rattle.grammar.proofs.Living.{AllFine, run-fine}
use Rattle.grammar.proofs.Parts.{Good, good-feed}
use Rattle.grammar.proofs.Texts.{accepted-ends, reads-append}
use Rattle.grammar.proofs.Alive.{alive-ends, ends-alive, reads-fine, good-reads, Some-end, text-alive}

suc-le : {m n : ℕ} → m ≤ n → suc m ≤ suc n
suc-le h = omega arith

module _ (G : Grammar Token) where
  module _ (hope : G.Symbol → Token → Bool) (H : Hopes G hope) where
    abbrev Safe : Config G → Type 0
    Safe c = AllFine G H.productive c.ahead × Good c.part

    safe-next : (c : Config G) (b : ℕ) → Safe c → Safe (next G c b)
    unfolding next
    safe-next c b k = (run-fine G H.productive c.ahead (given c.part b) k.0, good-feed c.part b k.1)

    -- what is alive was alive
    alive-before : (c : Config G) (v : List ℕ) → Safe c → alive_at G hope (reads G c v) ≡ true → alive_at G hope c ≡ true
    unfolding alive_at Some-end
    alive-before c v k h =
        let d = reads G c v in
        let e = alive-ends G hope H d.ahead d.part (reads-fine G hope H c v k.0) (good-reads G c v k.1) h in
        let a = (accepted-ends G d.ahead d.part (e.0)).1 (e.1) in
        ends-alive G hope H c.ahead c.part (v ++ e.0)
        ((accepted-ends G c.ahead c.part (v ++ e.0)).0 (subst (Accepted G) (sym (reads-append G c v (e.0))) a))

    -- the machine is alive after as many bytes as it reaches, and after no more
    reach-alive : (c : Config G) (u : List ℕ) → alive_at G hope c ≡ true → alive_at G hope (reads G c (take (reach G hope c u) u)) ≡ true
    unfolding reach reads
    reach-alive c [] h = h
    reach-alive c (b ∷ u) h = go (alive_at G hope (next G c b)) refl (reach-alive (next G c b) u)
      where
        go : (k : Bool) → alive_at G hope (next G c b) ≡ k
            → (alive_at G hope (next G c b) ≡ true → alive_at G hope (reads G (next G c b) (take (reach G hope (next G c b) u) u)) ≡ true)
            → alive_at G hope (reads G c (take (reach G hope c (b ∷ u)) (b ∷ u))) ≡ true
        go true e f = rw e (f e)
        go false e f = rw e h

    reach-most : (c : Config G) (u : List ℕ) (n : ℕ) → Safe c → n ≤ length u → alive_at G hope (reads G c (take n u)) ≡ true → n ≤ reach G hope c u
    unfolding reach reads
    reach-most c u zero k l h = omega arith
    reach-most c [] (suc n) k l h = absurd (omega arith)
    reach-most c (b ∷ u) (suc n) k l h =
        let s = safe-next c b k in
        rw (alive-before (next G c b) (take n u) s h) (suc-le (reach-most (next G c b) u n s (omega arith) h))

    -- the longest prefix that some text of the grammar begins with
    pub reach-longest : (s : List G.Symbol) (u : List ℕ) → Each G H.productive.Fine s
        → BeginsText G s (take (reach G hope (start G s) u) u) × ((n : ℕ) → n ≤ length u → BeginsText G s (take n u) → n ≤ reach G hope (start G s) u)
    unfolding alive_at start alive
    reach-longest s u fine = (
      (text-alive G hope H s (take (reach G hope (start G s) u) u) fine).0 (reach-alive (start G s) u refl),
      (λ n l b. reach-most (start G s) u n (fine, tt) l ((text-alive G hope H s (take n u) fine).1 b)),
    )
