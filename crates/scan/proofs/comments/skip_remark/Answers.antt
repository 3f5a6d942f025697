-- `scan::skip_remark` meets its contract: in the comment at `i`, after '*' or not, what comes next is what comes next at `at`.
use native.Mathlib.Omega.{arith}
use mathlib.Core.Path.{◌≡◌, refl, ◌∙◌}
use lib.ListN.{length}
use Rattle.scan.specs.Reply.{passed_to, place_of}
use Rattle.scan.proofs.NextLaws.{remark-past, remark-on, remark-ends}
use Rattle.scan.proofs.comments.skip_remark.Goals as goal

pub loop-i-init : goal.loop-i-init
loop-i-init c = (omega arith, c.requires, refl)

pub returns-then-starred-b : goal.returns-then-starred-b
unfolding passed_to place_of
returns-then-starred-b c = let u = c.args.text.now in
    record {
      low = omega arith;
      high = omega arith;
      same = c.loop-i.invariant.2 ∙ remark-ends u c.loop-i.i (omega arith) c.loop-i.starred c.if-starred-b.true;
    }

pub loop-i-smaller : goal.loop-i-smaller
loop-i-smaller c = omega arith

pub loop-i-preserved : goal.loop-i-preserved
loop-i-preserved c = let u = c.args.text.now in
    (omega arith, omega arith, c.loop-i.invariant.2 ∙ remark-on u c.loop-i.i (omega arith) c.loop-i.starred c.if-starred-b.false)

pub returns : goal.returns
unfolding passed_to place_of
returns c = let u = c.args.text.now in
    let e : c.loop-i.i ≡ length u = omega arith in
    record {
      low = omega arith;
      high = omega arith;
      same = c.loop-i.invariant.2 ∙ remark-past u c.loop-i.i c.loop-i.starred (omega arith) ∙ rw e refl;
    }
