-- 30, then 31.
use mathlib.Core.Path.{sym, ◌∙◌}
use borrow.Author.Tests.{lt-ltb, le-ltb}
use Rattle.turns.proofs.ReplyLaws.{test-state, test-place, test-passed}
use Rattle.turns.proofs.tested.test_admitted.Goals as goal

pub returns-then-not-good_kept : goal.returns-then-not-good_kept
returns-then-not-good_kept c = test-state _ _ _ _ _ (sym c.good_kept.ensures ∙ c.if-not-good_kept.true)

pub returns-then-end-start : goal.returns-then-end-start
returns-then-end-start c = test-place _ _ _ _ _ (sym c.good_kept.ensures ∙ c.if-not-good_kept.false) (lt-ltb _ _ c.if-end-start.true)

pub returns : goal.returns
returns c = test-passed _ _ _ _ _ (sym c.good_kept.ensures ∙ c.if-not-good_kept.false) (le-ltb _ _ c.if-end-start.false)
