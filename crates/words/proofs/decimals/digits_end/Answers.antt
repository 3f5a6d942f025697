-- A run of digits in the bytes up to k more.
use Rattle.std.proofs.Common.{arith, rules}
use Rattle.grammar.specs.Spelling.{is_digit}
use Rattle.words.proofs.DecimalLaws.{run-within}
use Rattle.words.proofs.decimals.digits_end.Goals as goal

pub returns : goal.returns
returns c = let p = c.run_end.ensures is_digit (record { told = λ b r h p. search rules }) in run-within _ _ _ _ _ (omega (arith, c.min-end.ensures, c.saturating_add.ensures, c.well_formed.0.0)) p
