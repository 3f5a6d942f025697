-- 40 and 41 by what the look over the text found, and then the names.
use mathlib.Core.Path.{◌≡◌}
use Rattle.std.proofs.lemmas.Result.{err_from_is_err_and}
use native.Mathlib.Omega.{arith}
use borrow.Author.Tests.{not-true, not-false}
use Rattle.read.specs.Survey.{reply_by}
use Rattle.read.proofs.Stages.{refused-not, text-refused, level-refused, names-next, seen_as}
use Rattle.read.proofs.surveying.survey.Goals as goal

pub returns-then-not-seen : goal.returns-then-not-seen
returns-then-not-seen c x y z = (text-refused _ _ _ c.recognise-seen.ensures.0 _ (not-true _ c.if-not-seen.true) c.refused.ensures, refused-not _ _ _ c.refused.ensures (omega arith))

pub returns-then-seen : goal.returns-then-seen
returns-then-seen c x y z = (level-refused _ _ _ c.recognise-seen.ensures.0 _ (not-false _ c.if-not-seen.false) c.if-seen.true c.refused-then-seen.ensures, refused-not _ _ _ c.refused-then-seen.ensures (omega arith))

pub returns-in_err-made : goal.returns-in_err-made
unfolding reply_by
returns-in_err-made c x y z =
    let p = err_from_is_err_and c.from_residual.result c.from_residual.ensures.1 in
    let q : p.0 ≡ c.in_err-made.field-0.0 = p.2 in
    let looked = c.recognise-seen.ensures in
    let tape = looked.1 z in
    let filled = c.fill-told.ensures in
    let n = rw c.in_err-made.was at c.named.ensures in
    rw (p.1, q) (names-next _ _ _ looked.0 _ (not-false _ c.if-not-seen.false) c.if-seen.false (λ l a e. n.0 l a e (filled l x y tape.0 a tape.1).ready), n.1)

pub returns : goal.returns
unfolding reply_by
returns c x y z = let looked = c.recognise-seen.ensures in
    let tape = looked.1 z in
    let filled = c.fill-told.ensures in
    record {
      reply = names-next _ _ _ looked.0 _ (not-false _ c.if-not-seen.false) c.if-seen.false
          (λ l a q. (rw c.in_ok-made.was at c.named.ensures.0) l a q (filled l x y tape.0 a tape.1).ready);
      found = λ l a. (seen_as _ _ looked.0 l a, filled l x y tape.0 a tape.1);
    }
