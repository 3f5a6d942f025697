use mathlib.Core.Path.{◌∙◌}
use native.Mathlib.Omega.{arith}
use Rattle.build.proofs.LiteralLaws.{leaf-range, kinds-are}
use Rattle.build.proofs.literals.kind.Goals as goal

pub returns : goal.returns
returns c x l e h = c.row.ensures.inside (omega (arith, leaf-range x l)) ∙ kinds-are x l _ e h
