-- The move's place is put, what it sends is noted, and its write is met.
use mathlib.Core.Path.{refl, ap}
use native.Mathlib.Omega.{arith}
use Prim.Native.Nat.{ℕ, ◌+◌}
use lib.ListN.{set}
use Rattle.plexil.proofs.Admitted.{few-nodes}
use Rattle.visit.proofs.CarryLaws.{sent_is, applied, visit-writes, visit-passes, target_below, written_is}
use Rattle.visit.proofs.visit_node.Goals as goal

pub move_of-m-requires : goal.move_of-m-requires
move_of-m-requires c = record { finished_value = c.requires.3; resting_value = c.requires.4 }

pub put_place-requires : goal.put_place-requires
put_place-requires c = omega (arith, few-nodes _ c.requires.0, c.requires.2)

pub bounds-sent-k : goal.bounds-sent-k
bounds-sent-k c = omega (arith, few-nodes _ c.requires.0, c.requires.2)

pub meet_writer-requires : goal.meet_writer-requires
meet_writer-requires c = target_below _ _ _ c.move_of-m.ensures c.requires.0 c.requires.2 c.writes-w.ensures c.if-w.true c.what.ensures

pub returns-then-w : goal.returns-then-w
returns-then-w c = (
  applied _ _ _ c.move_of-m.ensures c.applies.ensures,
  visit-writes _ _ _ c.move_of-m.ensures c.place_by-r.ensures c.writes-w.ensures _ c.put_place.ensures c.if-w.true c.what.ensures (ap (λ (k : ℕ). k + 1) c.priority.ensures) (written_is _ _ _ c.value_field.ensures c.value_of-v.ensures c.encode.ensures) c.meet_writer.ensures,
  ap (set c.args.sent.now c.args.i) (sent_is _ _ _ c.move_of-m.ensures (c.sent_by.ensures _ refl)),
)

pub returns : goal.returns
returns c = (
  applied _ _ _ c.move_of-m.ensures c.applies-2.ensures,
  visit-passes _ _ _ c.move_of-m.ensures c.place_by-r.ensures c.writes-w.ensures _ c.put_place.ensures c.if-w.false,
  ap (set c.args.sent.now c.args.i) (sent_is _ _ _ c.move_of-m.ensures (c.sent_by.ensures _ refl)),
)
