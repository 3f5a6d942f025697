-- The number of what a cursor has heard is the number of that saying.
use Prim.Native.Nat.{ℕ, ◌≤◌, ◌<◌}
use mathlib.Core.Path.{◌≡◌, refl, sym, ◌∙◌, ap}
use mathlib.Core.Bool.{Bool, true, false}
use mathlib.Core.List.{List}
use native.Mathlib.Omega.{arith}
use lib.Dec.{eqb, ltb}
use borrow.Author.Tests.{eqb-true, ltb-true, ltb-false}
use Rattle.plexil.specs.Lists.{all_below}
use Rattle.plexil.proofs.ListLaws.{all_below-at}
use Rattle.grammar.specs.Table.{Said}
use Rattle.notation.specs.Sayings.{Saying}
use Rattle.recognise.specs.declared.Cursor.{Cursor}
use Rattle.recognise.specs.Codes as Codes
use Rattle.recognise.specs.Codes.{say_of}
use Rattle.recognise.specs.Hears.{Heard}
use Rattle.build.specs.Flow as Flow
use Rattle.build.specs.Flow.{code_of}

right : ℕ → Bool
right n = eqb (code_of (say_of n)) n

all-right : all_below 94 right ≡ true
unfolding all_below right Codes.opened Flow.opened
all-right = refl

code-say : (n : ℕ) → n < 94 → code_of (say_of n) ≡ n
code-say n h = eqb-true (code_of (say_of n)) n (unfold right in all_below-at 94 right all-right n h)

silent-over : code_of (say_of 94) ≡ 0
unfolding Codes.opened Flow.opened
silent-over = refl

-- a saying other than silence
pub heard-code : (u : List ℕ) (c : Cursor) (w : Said Saying) → Heard u c w → c.says ≤ 94 → 0 < code_of w.what → c.says ≡ code_of w.what
heard-code u c w h k n = go (ltb c.says 94) refl
  where
    go : (b : Bool) → ltb c.says 94 ≡ b → c.says ≡ code_of w.what
    go true e = sym (code-say c.says (ltb-true c.says 94 e)) ∙ ap code_of h.what
    go false e =
        let m : c.says ≡ 94 = omega (arith, ltb-false c.says 94 e) in
        let z : code_of w.what ≡ 0 = ap code_of (sym h.what) ∙ ap (λ x. code_of (say_of x)) m ∙ silent-over in
        absurd (omega arith)
