-- 42, 3 and 43, each by what its pass found.
use mathlib.Core.Path.{refl, sym, ◌∙◌}
use native.Mathlib.Omega.{arith}
use Rattle.notation.specs.Hearing.{draft_of}
use Rattle.read.specs.Survey.{reply_by}
use Rattle.read.proofs.Stages.{refused-not, limits-kept, limits-passed, name-refused, count-refused, room-refused, all-passed}
use Rattle.read.proofs.surveying.named.Goals as goal

pub returns-in-Some : goal.returns-in-Some
unfolding reply_by
returns-in-Some c = (λ l a q t. name-refused (draft_of l) _ _ q _ _ (sym c.in-Some.is ∙ c.bad_name.ensures l a t) c.refused.ensures, refused-not _ _ _ c.refused.ensures (omega arith))

pub returns-then-over_limits : goal.returns-then-over_limits
unfolding reply_by
returns-then-over_limits c = (λ l a q t. count-refused (draft_of l) _ _ q _ (sym c.in_default.is ∙ c.bad_name.ensures l a t) (limits-passed _ _ c.over_limits.ensures c.if-over_limits.true) c.refused-then-over_limits.ensures, refused-not _ _ _ c.refused-then-over_limits.ensures (omega arith))

pub length_of-n-requires : goal.length_of-n-requires
length_of-n-requires c = limits-kept _ _ c.over_limits.ensures c.if-over_limits.false

pub returns-then-room-n : goal.returns-then-room-n
unfolding reply_by
returns-then-room-n c = (λ l a q t. room-refused (draft_of l) _ _ q _ (sym c.in_default.is ∙ c.bad_name.ensures l a t) (limits-kept _ _ c.over_limits.ensures c.if-over_limits.false) _ c.length_of-n.ensures c.if-room-n.true c.refused-then-room-n.ensures, refused-not _ _ _ c.refused-then-room-n.ensures (omega arith))

pub returns : goal.returns
unfolding reply_by
returns c = (λ l a q t. all-passed (draft_of l) _ _ q _ (sym c.in_default.is ∙ c.bad_name.ensures l a t) (limits-kept _ _ c.over_limits.ensures c.if-over_limits.false) _ c.length_of-n.ensures (omega arith) refl, tt)
