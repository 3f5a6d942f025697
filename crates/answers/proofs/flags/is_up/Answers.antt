-- A flag, and down past the end.
use lib.ListN.{get_or-eq_default}
use borrow.Author.Rules.{rules}
use Rattle.answers.specs.Changes.{up}
use Rattle.answers.proofs.flags.is_up.Goals as goal

pub bounds-flags-k : goal.bounds-flags-k
unfolding up
bounds-flags-k c = search rules

pub returns-then-k-flags : goal.returns-then-k-flags
unfolding up
returns-then-k-flags c = search rules

pub returns : goal.returns
unfolding up
returns c = rw (get_or-eq_default c.args.flags.now 0 c.if-k-flags.false)
