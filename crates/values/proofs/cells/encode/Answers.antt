-- A Real's bits, where it is finite.
use Rattle.std.proofs.Common.{sym, ◌∙◌}
use Rattle.plexil.proofs.ListLaws.{if-true, if-false}
use Rattle.arithmetic.proofs.Finite.{no_nan}
use Rattle.plexil.specs.Values.{encode}
use Rattle.values.proofs.cells.encode.Goals as goal

pub float_to_bits-result : goal.float_to_bits-result
float_to_bits-result c = no_nan _ (sym c.is_finite.ensures ∙ c.if-is_finite.true)

pub returns-in-Real : goal.returns-in-Real
unfolding encode
returns-in-Real c = rw c.in-Real.is (sym (if-true _ _ _ (sym c.is_finite.ensures ∙ c.if-is_finite.true)))

pub returns-in_default : goal.returns-in_default
unfolding encode
returns-in_default c = rw c.in-Real.is (sym (if-false _ _ _ (sym c.is_finite.ensures ∙ c.if-is_finite.false)))
