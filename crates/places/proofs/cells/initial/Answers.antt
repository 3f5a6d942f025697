-- The known flag decides between the record's value and Unknown.
use mathlib.Core.Path.{sym, ◌∙◌, ap₂}
use borrow.Author.Tests.{eq-eqb, ne_eqb}
use Rattle.plexil.proofs.ListLaws.{if-true, if-false}
use Rattle.plexil.specs.Places.{known_cell, initial}
use Rattle.places.proofs.cells.initial.Goals as goal

pub returns-then-var_known-eq1 : goal.returns-then-var_known-eq1
unfolding initial
returns-then-var_known-eq1 c = c.known_cell.ensures ∙ (ap₂ known_cell c.var_kind.ensures c.initial_bits.ensures ∙ sym (if-true _ _ _ (eq-eqb _ _ (sym c.var_known.ensures ∙ c.if-var_known-eq1.true))))

pub returns : goal.returns
unfolding initial
returns c = sym (if-false _ _ _ (ne_eqb _ _ (λ e. c.if-var_known-eq1.false (c.var_known.ensures ∙ e))))
