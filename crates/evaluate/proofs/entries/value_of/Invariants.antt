-- The loops' invariant: what is pending makes the entry's value of what goes on (`Standing`). The measure: the turns that are left at most.
use Prim.Native.Nat.{◌+◌, ◌-◌, ◌≤◌}
use Rattle.plexil.specs.Lent.{seen_lent}
use Rattle.plexil.specs.Expressions.{eval_of}
use Rattle.evaluate.specs.Pending.{turns_of, pending_turns}
use Rattle.evaluate.proofs.Standing.{Standing}
use Rattle.evaluate.proofs.entries.value_of.Given as goal

abbrev pub invariant-down : goal.invariant-down
invariant-down l = Standing l.image (seen_lent l.seen) l.e l.pending l.n (eval_of l.image (seen_lent l.seen) (12 - l.n) l.entry)

abbrev pub decreases-down : goal.decreases-down
decreases-down l = turns_of (12 - l.n) + pending_turns l.n l.pending (12 - l.n)

abbrev pub invariant-up : goal.invariant-up
invariant-up l =
    Standing l.image (seen_lent l.seen) l.e l.pending l.n l.v
    × (pending_turns l.n l.pending (12 - l.n) ≤ pending_turns l.initial.n l.initial.pending (12 - l.initial.n))

abbrev pub decreases-up : goal.decreases-up
decreases-up l = pending_turns l.n l.pending (12 - l.n)
