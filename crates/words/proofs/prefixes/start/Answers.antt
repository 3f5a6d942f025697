-- Before place i there are all blanks but `left` of k.
use Rattle.std.proofs.Common.{arith}
use Rattle.words.proofs.BlankLaws.{skipped-done, skipped-blank, skipped-other, skipped-end}
use Rattle.words.proofs.prefixes.start.Goals as goal
use Rattle.words.proofs.prefixes.start.Goals.{then-words-i-eq32, else-words-i-eq32}

pub returns-then-left-eq0 : goal.returns-then-left-eq0
returns-then-left-eq0 c = skipped-done _ _ _ _ c.loop-i.invariant c.if-left-eq0.true

pub loop-i-preserved : goal.loop-i-preserved
loop-i-preserved c = elim c.if-words-i-eq32.branch [ then-words-i-eq32 w ↦ rw w.left-is (search (skipped-blank, arith)) | else-words-i-eq32 w ↦ rw w.left-is (search (skipped-other, arith)) ]

pub returns : goal.returns
returns c = skipped-end _ _ _ _ c.loop-i.invariant (omega arith)
