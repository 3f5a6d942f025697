-- No writer was met, or the tie decides.
use Prim.Native.Nat.{ℕ}
use mathlib.Core.Path.{refl, sym, ap, ◌∙◌}
use lib.Dec.{eqb, ltb}
use borrow.Author.Tests.{le-ltb}
use native.Mathlib.Omega.{arith}
use Rattle.plexil.proofs.ListLaws.{every-stop, every-cons, every_one}
use Rattle.plexil.proofs.TestLaws.{lt_yes}
use Rattle.settle.proofs.variables.written.Goals as goal

pub returns-then-get_or-gt0 : goal.returns-then-get_or-gt0
returns-then-get_or-gt0 c = ap (λ (x : ℕ). eqb x 0) c.get_or-then-get_or-gt0.ensures ∙ sym (every-cons _ _ (lt_yes {x = 0} refl c.get_or.ensures c.if-get_or-gt0.true) ∙ every_one _)

pub returns-else-get_or-gt0 : goal.returns-else-get_or-gt0
returns-else-get_or-gt0 c = le-ltb 0 _ (omega arith) ∙ sym (every-stop _ _ (sym (ap (ltb 0) c.get_or.ensures) ∙ le-ltb 0 _ (omega arith)))
