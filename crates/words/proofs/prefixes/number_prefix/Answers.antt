-- The first i bytes are digits, and write n.
use Rattle.std.proofs.Common.{arith}
use Rattle.words.proofs.RunLaws.{bounded-all, bounded-stop, bounded-past, bounded-next}
use Rattle.words.proofs.prefixes.number_prefix.Goals as goal

pub returns-then-not-is_digit : goal.returns-then-not-is_digit
returns-then-not-is_digit c = search (bounded-stop, arith)

pub returns-then-bound-n : goal.returns-then-bound-n
returns-then-bound-n c = search (bounded-past, arith)

pub loop-i-preserved : goal.loop-i-preserved
loop-i-preserved c = search (bounded-next, arith)

pub returns : goal.returns
returns c = let z = bounded-all _ _ _ _ c.loop-i.invariant (omega arith) in omega arith
