-- The digits so far are read.
use Rattle.std.proofs.Common.{arith}
use Rattle.words.proofs.CappedLaws.{numbered-start, numbered-digit, numbered-point, numbered-end}
use Rattle.words.proofs.numbers.all_digits.Goals as goal
use Rattle.words.proofs.numbers.all_digits.Goals.{then-b-ne46, else-b-ne46}

pub loop-b-init : goal.loop-b-init
loop-b-init c = numbered-start _

pub loop-b-preserved : goal.loop-b-preserved
loop-b-preserved c = elim c.if-b-ne46.branch [ then-b-ne46 w ↦ rw w.n-is (search (numbered-digit, arith)) | else-b-ne46 w ↦ rw w.n-is (search (numbered-point, arith)) ]

pub returns : goal.returns
returns c = numbered-end _ _ _ c.loop-b.invariant (omega arith)
