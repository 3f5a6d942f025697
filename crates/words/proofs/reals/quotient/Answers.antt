-- `words::quotient` meets its contract. Assumes nothing.
use Rattle.std.proofs.Common.{◌∙◌, ap₂, arith}
use lib.Ieee.{binary64, div}
use Rattle.words.proofs.Division.{quotient-rounds}
use Rattle.words.proofs.reals.quotient.Goals as goal

pub returns : goal.returns
returns c = ap₂ (div binary64) c.nearest_u64_to_f64.ensures c.nearest_u64_to_f64-2.ensures
    ∙ quotient-rounds binary64 c.args.m c.args.d (omega arith) (omega arith) (omega arith)
