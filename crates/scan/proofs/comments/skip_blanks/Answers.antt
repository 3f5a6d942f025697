-- A run of blanks is passed.
use Rattle.std.proofs.Common.{rules}
use Rattle.grammar.specs.Spelling.{is_blank}
use Rattle.scan.proofs.NextLaws.{past-blanks}
use Rattle.scan.proofs.comments.skip_blanks.Goals as goal

pub returns : goal.returns
returns c = past-blanks _ _ _ (c.run_end.ensures is_blank (record { told = λ b r h p. search rules }))
