-- `names::Tables::first_row` meets its contract. The invariant: what is sought is the first among the rows that are left.
use Rattle.names.proofs.GoingUp.{small-nowhere, small_at, none-is, some-is}
use mathlib.Core.Path.{ap, sym, ◌∙◌}
use native.Mathlib.Omega.{arith}
use Rattle.notation.specs.Names.{find_from}
use Rattle.recognise.specs.Hears.{piece}
use Rattle.names.specs.Answers.{found_of}
use Rattle.names.specs.Tables.{row_at}
use Rattle.names.proofs.RowLaws.{find-hit, find-miss, rows_on, fair-on, rows-over, row_zero, outside}
use Rattle.names.proofs.table.Tables.first_row.Goals as goal

pub loop-i-init : goal.loop-i-init
loop-i-init c = (omega arith, λ f. row_zero _ _ _ _ _ _ _ f)

pub returns-in_err-name : goal.returns-in_err-name
returns-in_err-name c = (λ f. let z = fair-on _ _ _ _ _ _ c.loop-i-test.true (c.loop-i.invariant.1 f).0 in absurd (outside (rw c.in_err-name.was at c.get.ensures).lookup.0 z.0 z.1), rw c.from_residual.ensures (omega arith))

pub returns-then-is_called : goal.returns-then-is_called
unfolding row_at piece
returns-then-is_called c = (λ f. some-is _ ∙ ap found_of (sym ((c.loop-i.invariant.1 f).1 ∙ ap (find_from _ _) (rows_on _ _ _ _ _ _ _ c.loop-i-test.true) ∙ find-hit _ _ _ _ (sym (rw (rw c.in_ok-name.was at c.get.ensures).lookup.0.2 at c.is_called.ensures) ∙ c.if-is_called.true))), small_at _ (some-is _) (omega (arith, c.loop-i-test.true, c.requires)))

pub loop-i-preserved : goal.loop-i-preserved
unfolding row_at piece
loop-i-preserved c = (omega arith, λ f. ((fair-on _ _ _ _ _ _ c.loop-i-test.true (c.loop-i.invariant.1 f).0).2, (c.loop-i.invariant.1 f).1 ∙ ap (find_from _ _) (rows_on _ _ _ _ _ _ _ c.loop-i-test.true) ∙ find-miss _ _ _ _ (sym (rw (rw c.in_ok-name.was at c.get.ensures).lookup.0.2 at c.is_called.ensures) ∙ c.if-is_called.false)))

pub returns : goal.returns
returns c = (λ f. none-is ∙ ap found_of (sym ((c.loop-i.invariant.1 f).1 ∙ rows-over _ _ _ _ _ _ _ _ c.loop-i.invariant.0 c.loop-i-test.false)), small-nowhere none-is)
