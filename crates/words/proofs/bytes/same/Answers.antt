use Rattle.std.proofs.Common.{◌∙◌}
use Rattle.words.proofs.Alike.{pointwise-same}
use Rattle.words.proofs.bytes.same.Goals as goal

pub returns : goal.returns
returns c = c.eq.ensures ∙ pointwise-same _ _
