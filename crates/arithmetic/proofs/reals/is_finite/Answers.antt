-- std's word is the definition's.
use Rattle.std.proofs.Common.{◌∙◌}
use Rattle.arithmetic.proofs.Finite.{as-defined}
use Rattle.arithmetic.proofs.reals.is_finite.Goals as goal

pub returns : goal.returns
returns c = c.is_finite.ensures.value ∙ as-defined _
