-- `build::attributes::initial` meets its contract.
use mathlib.Core.Path.{refl}
use native.Mathlib.Omega.{arith}
use Rattle.build.proofs.AttributeViews.{initial-code}
use Rattle.build.proofs.AttributeLaws.{begun}
use Rattle.build.proofs.attributes.initial.Goals as goal

pub returns-then-says-gt30 : goal.returns-then-says-gt30
returns-then-says-gt30 c w d heard code x = absurd (omega (arith, initial-code w.what x))

pub returns : goal.returns
returns c = begun _ _ _ _ refl c.word.ensures
