-- The table is filled entry after entry.
use native.Mathlib.Omega.{arith}
use Rattle.admit.proofs.OwnerLaws.{few-entries, owned-next}
use Rattle.admit.proofs.reach.all_owners.Goals as goal

pub bounds-owners-e : goal.bounds-owners-e
bounds-owners-e c = omega (arith, few-entries _ c.requires, c.expr_count-e-end.ensures, c.loop-e-test.true)

pub loop-e-preserved : goal.loop-e-preserved
loop-e-preserved c = owned-next _ _ _ _ c.loop-e.invariant (omega (arith, few-entries _ c.requires, c.expr_count-e-end.ensures, c.loop-e-test.true)) c.asked-o.ensures.asked c.asked-o.ensures.asks
