-- `names::in_text::is_called` meets its contract: by its tests.
use borrow.Author.Tests.{eq-eqb, ne_eqb}
use mathlib.Core.Path.{◌∙◌}
use Rattle.recognise.specs.Hears.{piece}
use Rattle.names.specs.Seek.{is_called}
use Rattle.names.proofs.in_text.is_called.Goals as goal

pub returns-then-owner-m : goal.returns-then-owner-m
unfolding is_called piece
returns-then-owner-m c = simp (ne_eqb _ _ c.if-owner-m.true)

pub returns : goal.returns
unfolding is_called piece
returns c = c.same.ensures ∙ simp (eq-eqb _ _ c.if-owner-m.false)
