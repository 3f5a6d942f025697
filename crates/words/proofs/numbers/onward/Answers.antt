use Rattle.std.proofs.Common.{arith}
use Rattle.words.proofs.CappedLaws.{capped-min}
use Rattle.words.proofs.numbers.onward.Goals as goal

pub returns : goal.returns
returns c = let m = c.saturating_mul.ensures in let a = c.saturating_add.ensures in let s = c.saturating_sub-digit.ensures in capped-min c.min.ensures (λ h. omega (arith, m, a, s, h)) (λ h. omega (arith, m, a, s, h))
