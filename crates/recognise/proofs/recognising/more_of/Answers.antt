-- Where a token of the class can come, the more of the two.
use mathlib.Core.Path.{sym, ◌∙◌}
use Rattle.recognise.proofs.ViableLaws.{more-none, more-some}
use Rattle.recognise.proofs.recognising.more_of.Goals as goal

pub returns-in-Some : goal.returns-in-Some
returns-in-Some c = c.max.ensures ∙ more-some _ _ _ _ (sym c.in-Some.is ∙ c.step.ensures) c.viable.ensures

pub returns-in-None : goal.returns-in-None
returns-in-None c = more-none _ _ _ _ (sym c.in-None.is ∙ c.step.ensures)
