-- A line is a run of bytes; the byte after it is passed too, where there is one.
use native.Mathlib.Omega.{arith}
use Rattle.std.proofs.Common.{rules}
use Rattle.scan.proofs.NextLaws.{in_line, line-ends, line-past}
use Rattle.scan.proofs.comments.skip_line.Goals as goal

pub returns-then-end-text : goal.returns-then-end-text
returns-then-end-text c = line-ends _ _ _ (c.run_end-end.ensures in_line (record { told = λ b r h p. search rules })) c.requires (omega arith)

pub returns-else-end-text : goal.returns-else-end-text
returns-else-end-text c = line-past _ _ _ (c.run_end-end.ensures in_line (record { told = λ b r h p. search rules })) c.requires (omega arith)
