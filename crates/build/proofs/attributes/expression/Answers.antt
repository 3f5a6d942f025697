-- `build::attributes::expression` meets its contract.
use Rattle.build.proofs.AttributeLaws.{expressed}
use Rattle.build.proofs.attributes.expression.Goals as goal

pub returns : goal.returns
returns c = expressed _ _ _ _ _ _ _ _ _ _ c.boolean.ensures
