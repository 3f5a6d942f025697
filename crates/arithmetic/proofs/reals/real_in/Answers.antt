-- A result that is not finite is Unknown.
use mathlib.Core.Path.{sym, ◌∙◌}
use Rattle.arithmetic.proofs.Finite.{real-yes, real-no}
use Rattle.arithmetic.proofs.reals.real_in.Goals as goal

pub returns-then-is_finite : goal.returns-then-is_finite
returns-then-is_finite c = real-yes _ (sym c.is_finite.ensures ∙ c.if-is_finite.true)

pub returns-else-is_finite : goal.returns-else-is_finite
returns-else-is_finite c = real-no _ (sym c.is_finite.ensures ∙ c.if-is_finite.false)
