-- The first i bytes are alike, and no blanks.
use Rattle.std.proofs.Common.{arith}
use Rattle.words.proofs.BlankLaws.{common-blank, common-stop, common-next, common-end}
use Rattle.words.proofs.prefixes.common.Goals as goal

pub returns-then-words-i-eq32 : goal.returns-then-words-i-eq32
returns-then-words-i-eq32 c = search (common-blank, arith)

pub returns-then-words-i : goal.returns-then-words-i
returns-then-words-i c = search (common-stop, arith)

pub loop-i-preserved : goal.loop-i-preserved
loop-i-preserved c = search (common-next, arith)

pub returns : goal.returns
returns c = common-end _ _ _ c.loop-i.invariant (omega arith) (omega arith)
