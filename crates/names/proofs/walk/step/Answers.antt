-- `names::walk::step` meets its contract: by its tests.
use native.Mathlib.Omega.{arith}
use Rattle.names.specs.Walking.{heard_of}
use mathlib.Core.Logic.{inl, inr}
use Rattle.names.proofs.Walks.{stopped, walked}
use Rattle.names.proofs.walk.step.Goals as goal

pub returns-then-at-before : goal.returns-then-at-before
returns-then-at-before c = stopped _ _ _ _ c.next-d.result c.next-d.ensures (inl c.if-at-before.true)

pub returns-then-says-eq94 : goal.returns-then-says-eq94
returns-then-says-eq94 c = stopped _ _ _ _ c.next-d.result c.next-d.ensures (inr c.if-says-eq94.true)

pub returns : goal.returns
unfolding heard_of
returns c = rw (c.depth_after.ensures, c.nodes_after.ensures, c.keep.ensures, c.owner_of-owner.ensures, c.end_of-to.ensures, c.role_of-role.ensures)
    (walked _ _ _ _ c.next-d.result c.next-d.ensures c.if-at-before.false c.if-says-eq94.false c.requires (omega (arith, c.next-d.type_inv)))
