use mathlib.Core.Path.{sym, ◌∙◌}
use native.Mathlib.Omega.{arith}
use Rattle.recognise.specs.Hears.{piece}
use Rattle.build.proofs.PathLaws.{lost, below}
use Rattle.build.proofs.paths.part.Goals as goal

pub returns-in_err-above : goal.returns-in_err-above
returns-in_err-above c = rw c.from_residual-in_err-above.ensures (λ d f k l e. lost d f _ (sym c.in_err-above.was ∙ e), omega arith)

pub returns : goal.returns
unfolding piece
returns c = (λ d f k l e. below _ d _ _ f _ (sym c.in_ok-above.was ∙ e) (rw (rw c.in_ok-name.was at c.get.ensures).lookup.0.2 at c.child_of.ensures.0 k.said k.accepted k.ready) k.draft, c.child_of.ensures.1)
