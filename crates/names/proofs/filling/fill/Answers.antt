-- `names::filling::fill` meets its contract. The invariant: the rows of each sort are what has been told of it.
use mathlib.Core.Path.{refl, sym}
use native.Mathlib.Omega.{arith}
use lib.ListN.{length-set}
use Rattle.names.specs.Tables.{more_of}
use Rattle.recognise.proofs.Tapes.{tape-kept}
use Rattle.names.proofs.Halfway.{all_told, newly, halfway-start, onwards}
use Rattle.names.proofs.OneRow.{nothing-rowed, roomy-more, sort-within, filled_on, filled-same, overfull, not-whole}
use Rattle.names.proofs.filling.fill.Goals as goal

pub loop-next-init : goal.loop-next-init
loop-next-init c = (
  c.start-w.ensures.bounded,
  record { commands = omega arith; lookups = omega arith; variables = omega arith; nodes = omega arith },
  refl,
  λ l x y z a k. (x, y, z, k, halfway-start _ _ _ c.start-w.result c.start-w.ensures refl l a k (nothing-rowed _ _ _ _)),
)

pub step-requires : goal.step-requires
step-requires c = c.loop-next.invariant.0

pub returns : goal.returns
returns c = λ l x y z a k. record { ready = record { tabled = λ e. (all_told _ _ _ _ l a (c.loop-next.invariant.3 l x y z a k).3 c.in_default.ensures (c.loop-next.invariant.3 l x y z a k).4).1; tape = (c.loop-next.invariant.3 l x y z a k).3 }; within = λ h. c.loop-next.invariant.2 }

pub returns-then-n-room_of : goal.returns-then-n-room_of
returns-then-n-room_of c = λ l x y z a k. record { ready = record { tabled = λ e. absurd (not-whole e); tape = (c.loop-next.invariant.3 l x y z a k).3 }; within = λ h. absurd (overfull (newly _ _ _ _ l a (c.loop-next.invariant.3 l x y z a k).3 c.in-Some.ensures (c.loop-next.invariant.3 l x y z a k).4) c.sort_of-sort.result c.if-sort-lt4.true (sym c.sort_of-sort.ensures) (rw (c.room_of.ensures, c.count_of-n.ensures) at c.if-n-room_of.true) h) }

pub overflow_add-base_of : goal.overflow_add-base_of
overflow_add-base_of c = omega (arith, sort-within c.sort_of-sort.result c.if-sort-lt4.true, c.base_of.ensures, c.count_of-n.ensures, c.room_of.ensures, c.if-n-room_of.false)

pub put-requires : goal.put-requires
put-requires c = omega (arith, sort-within c.sort_of-sort.result c.if-sort-lt4.true, c.base_of.ensures, c.count_of-n.ensures, c.room_of.ensures, c.if-n-room_of.false)

pub one_more-t-requires : goal.one_more-t-requires
one_more-t-requires c = c.loop-next.invariant.1

pub loop-next-smaller-then-sort-lt4 : goal.loop-next-smaller-then-sort-lt4
loop-next-smaller-then-sort-lt4 c = omega (arith, c.in-Some.ensures.onward, c.loop-next.invariant.0.place)

pub loop-next-preserved-then-sort-lt4 : goal.loop-next-preserved-then-sort-lt4
unfolding more_of
loop-next-preserved-then-sort-lt4 c = (
  c.in-Some.ensures.bounded,
  rw c.one_more-t.ensures (roomy-more _ c.sort_of-sort.result c.if-sort-lt4.true c.loop-next.invariant.1 (rw (c.count_of-n.ensures, c.room_of.ensures) at c.if-n-room_of.false)),
  rw c.one_more-t.ensures c.loop-next.invariant.2,
  λ l x y z a k.
      let i = c.loop-next.invariant.3 l x y z a k in
      let n = newly _ _ _ _ l a (c.loop-next.invariant.3 l x y z a k).3 c.in-Some.ensures (c.loop-next.invariant.3 l x y z a k).4 in (
        rw (c.put.ensures.0, length-set) i.0,
        rw (c.put.ensures.1, length-set) i.1,
        rw (c.put.ensures.2, length-set) i.2,
        rw c.put.ensures.2 (tape-kept _ _ _ _ (omega (arith, sort-within c.sort_of-sort.result c.if-sort-lt4.true, c.base_of.ensures, c.count_of-n.ensures, c.room_of.ensures, c.if-n-room_of.false)) i.3),
        rw (c.put.ensures.0, c.put.ensures.1, c.put.ensures.2, c.one_more-t.ensures, c.base_of.ensures, c.count_of-n.ensures)
            (onwards n (filled_on n c.sort_of-sort.result c.if-sort-lt4.true (sym c.sort_of-sort.ensures) i.0 i.1 i.2 (rw (c.count_of-n.ensures, c.room_of.ensures) at c.if-n-room_of.false) c.in-Some.ensures.ordered c.in-Some.ensures.within)),
      ),
)

pub loop-next-smaller : goal.loop-next-smaller
loop-next-smaller c = omega (arith, c.in-Some.ensures.onward, c.loop-next.invariant.0.place)

pub loop-next-preserved : goal.loop-next-preserved
loop-next-preserved c = (
  c.in-Some.ensures.bounded,
  c.loop-next.invariant.1,
  c.loop-next.invariant.2,
  λ l x y z a k.
      let i = c.loop-next.invariant.3 l x y z a k in
      let n = newly _ _ _ _ l a (c.loop-next.invariant.3 l x y z a k).3 c.in-Some.ensures (c.loop-next.invariant.3 l x y z a k).4 in
      (i.0, i.1, i.2, i.3, onwards n (filled-same n (rw c.sort_of-sort.ensures at c.if-sort-lt4.false))),
)
