-- The table has what the entry asks.
use mathlib.Core.Path.{sym, ◌∙◌}
use native.Mathlib.Omega.{arith}
use Rattle.admit.proofs.OwnerLaws.{few-entries}
use Rattle.admit.proofs.reach.Reach.may_read.Goals as goal

pub bounds-self-e : goal.bounds-self-e
bounds-self-e c = omega (arith, few-entries _ c.args.self.now.ordered)

pub returns : goal.returns
returns c = c.allowed.ensures ∙ sym (c.args.self.now.owned.asks _ c.requires.e_bound _ c.requires.i_bound)
