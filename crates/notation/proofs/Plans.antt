-- The texts of the notation: accepted exactly, read uniquely, and how far any other text is the beginning of one.
use Prim.Native.Nat.{ℕ, zero, suc, ◌≤◌}
use mathlib.Core.Path.{◌≡◌, refl, ap}
use mathlib.Core.Bool.{Bool, true, false, cond}
use mathlib.Core.List.{List, [], ◌∷◌, append-nil}
use native.Mathlib.Omega.{arith}
use lib.ListN.{length, take}
use Rattle.grammar.specs.Grammar.{Grammar}
use Rattle.grammar.specs.Spelling.{Token}
use Rattle.grammar.specs.Text.{BeginsText, Config, next, alive_at, start, reach}
use Rattle.grammar.specs.Table.{sort, grammar, hope_of}
use Rattle.grammar.proofs.Texts.{text-unique}
use Rattle.grammar.proofs.Says.{says-exactly}
use Rattle.grammar.proofs.Table.{table-reach}
use Rattle.notation.specs.Rows.{plan, notation}
use Rattle.notation.specs.Reading.{plan_says, text_reach}
use Rattle.notation.specs.Promises.{BeginsPlan, PlansExactly, PlansUnique, PlansViable, PlansWhole}
use Rattle.notation.proofs.Tests.{free, sure, grown}

pub plans-exactly : PlansExactly
unfolding plan_says
plans-exactly u = says-exactly notation (sort plan ∷ []) u

pub plans-unique : PlansUnique
plans-unique u x y = text-unique (grammar notation) (sort plan ∷ []) u x y

reach-within : (G : Grammar Token) (hope : G.Symbol → Token → Bool) (c : Config G) (u : List ℕ) → reach G hope c u ≤ length u
unfolding reach
reach-within G hope c [] = omega arith
reach-within G hope c (b ∷ u) = go (alive_at G hope (next G c b)) (reach-within G hope (next G c b) u)
  where
    go : (k : Bool) → reach G hope (next G c b) u ≤ length u → cond k (suc (reach G hope (next G c b) u)) zero ≤ suc (length u)
    go true h = omega arith
    go false h = omega arith

pub plans-viable : PlansViable
unfolding text_reach
plans-viable u =
    let h = table-reach notation free sure 8 grown plan u in
    (reach-within (grammar notation) (hope_of notation) (start (grammar notation) (sort plan ∷ [])) u, h.0, h.1)

take_all : (u : List ℕ) → take (length u) u ≡ u
take_all [] = refl
take_all (b ∷ u) = ap (λ l. b ∷ l) (take_all u)

pub plans-whole : PlansWhole
unfolding BeginsText
plans-whole u x =
    let h = plans-viable u in
    let b : BeginsPlan (take (length u) u) = rw (take_all u) ([], rw (append-nil u) x) in
    omega (arith, h.0, h.2 (length u) (omega arith) b)
