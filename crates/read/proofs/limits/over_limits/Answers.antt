-- Each count by itself.
use mathlib.Core.Path.{ap, sym}
use mathlib.Core.Bool.{not}
use borrow.Author.Tests.{le-leb, lt-leb}
use Rattle.plexil.proofs.TestLaws.{one-fails, and-then, and_last}
use Rattle.read.specs.Limits.{fits}
use Rattle.read.proofs.limits.over_limits.Goals as goal

pub returns-then-seen-gt256 : goal.returns-then-seen-gt256
unfolding fits
returns-then-seen-gt256 c = ap not (one-fails _ 0 (lt-leb _ _ c.if-seen-gt256.true))

pub returns-then-seen-gt2048 : goal.returns-then-seen-gt2048
unfolding fits
returns-then-seen-gt2048 c = ap not (one-fails _ 1 (lt-leb _ _ c.if-seen-gt2048.true))

pub returns-then-seen-gt128 : goal.returns-then-seen-gt128
unfolding fits
returns-then-seen-gt128 c = ap not (one-fails _ 2 (lt-leb _ _ c.if-seen-gt128.true))

pub returns-then-seen-gt64 : goal.returns-then-seen-gt64
unfolding fits
returns-then-seen-gt64 c = ap not (one-fails _ 3 (lt-leb _ _ c.if-seen-gt64.true))

pub returns : goal.returns
unfolding fits
returns c = ap not (and-then _ (le-leb _ _ c.if-seen-gt256.false) (and-then _ (le-leb _ _ c.if-seen-gt2048.false) (and-then _ (le-leb _ _ c.if-seen-gt128.false) (and_last (sym (le-leb _ _ c.if-seen-gt64.false))))))
