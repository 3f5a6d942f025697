-- The variable's leader is another node, or the tie decides.
use mathlib.Core.Path.{refl, sym, ap, ◌∙◌}
use Prim.Native.Nat.{ℕ}
use lib.Dec.{eqb}
use borrow.Author.Tests.{ne_eqb}
use Rattle.plexil.proofs.ListLaws.{every-stop, every-cons, every_one}
use Rattle.plexil.proofs.TestLaws.{eq_yes, eq_no}
use Rattle.settle.proofs.Laws.{leads-by}
use Rattle.settle.proofs.losers.leads.Goals as goal

pub returns-then-get_or-i : goal.returns-then-get_or-i
returns-then-get_or-i c = λ k h g. ap (λ (x : ℕ). eqb x 0) c.get_or-then-get_or-i.ensures
    ∙ sym (leads-by _ k _ _ _ _ c.what-v.ensures h g ∙ (every-cons _ _ (eq_yes c.get_or.ensures refl c.if-get_or-i.true) ∙ every_one _))

pub returns-else-get_or-i : goal.returns-else-get_or-i
returns-else-get_or-i c = λ k h g. ne_eqb _ _ c.if-get_or-i.false
    ∙ sym (leads-by _ k _ _ _ _ c.what-v.ensures h g ∙ every-stop _ _ (eq_no c.get_or.ensures refl c.if-get_or-i.false))
