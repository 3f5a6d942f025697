-- Each array is the definition's.
use mathlib.Core.Path.{refl}
use Rattle.plexil.specs.Carried.{carry_in}
use Rattle.plexil.specs.Order.{settle}
use Rattle.settle.proofs.settled.settle.Goals as goal

pub returns : goal.returns
unfolding settle
returns c = let k = carry_in c.args.carry.now in λ t. record {
  status = c.args.carry.now.status;
  outcome = (c.settle_places.ensures c.args.s.now k refl refl refl refl refl).0 t;
  failure = (c.settle_places.ensures c.args.s.now k refl refl refl refl refl).1 t;
  mark = c.args.carry.now.mark;
  vartags = (c.settle_vars.ensures c.args.s.now k refl refl refl refl refl refl refl refl).0 t;
  varbits = (c.settle_vars.ensures c.args.s.now k refl refl refl refl refl refl refl refl).1 t;
  looktags = c.args.s.now.looktags;
  lookbits = c.args.s.now.lookbits;
}
