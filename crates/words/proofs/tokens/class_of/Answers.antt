-- `words::class_of` meets its contract. Assumes nothing.
use Rattle.std.proofs.Common.{arith}
use Rattle.words.proofs.ClassLaws.{class-literal, class-other}
use Rattle.words.proofs.tokens.class_of.Goals as goal

pub returns-then-k-lt67 : goal.returns-then-k-lt67
returns-then-k-lt67 c = search (class-literal, arith)

pub returns : goal.returns
returns c = search (class-other, arith)
