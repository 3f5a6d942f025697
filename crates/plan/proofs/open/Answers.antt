-- The view beside the check's verdict: the reply of the check, taken apart. It is written out so that another contract is refused at the part that differs.
use Rattle.std.proofs.Common.{ap}
use Rattle.plexil.specs.declared.Checked.{Checked}
use Rattle.plan.proofs.open.Goals as goal

pub returns : goal.returns
returns c = ap (λ (x : Checked). record { plan = record { image = c.args.image; counts = x.counts }; verdict = x.verdict }) c.check-c.ensures
