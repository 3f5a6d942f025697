use Rattle.std.proofs.Common.{arith}
use Rattle.words.proofs.SignedLaws.{signed-plus, signed-negated}
use Rattle.words.proofs.numbers.signed.Goals as goal

pub returns-then-negative : goal.returns-then-negative
returns-then-negative c = signed-negated _ _ _ c.if-negative.true (omega arith) (omega (arith, c.wrapping_neg.type_inv)) c.wrapping_neg.ensures

pub returns-else-negative : goal.returns-else-negative
returns-else-negative c = signed-plus _ _ c.if-negative.false
