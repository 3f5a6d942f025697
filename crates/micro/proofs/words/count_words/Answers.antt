-- The count is that of the words of the nodes below i.
use mathlib.Core.Path.{◌≡◌, refl, ap, ◌∙◌}
use Rattle.micro.proofs.WordLaws.{sent_words, count_none, count-one}
use borrow.Author.Rules.{rules}
use Prim.Native.Nat.{ℕ}
use native.Mathlib.Omega.{arith}
use lib.ListN.{length}
use Rattle.plexil.specs.Micro.{words_from}
use Rattle.micro.proofs.words.count_words.Goals as goal
use Rattle.micro.proofs.words.count_words.Goals.{else-sent-i-ne0, then-sent-i-ne0}

pub loop-i-init : goal.loop-i-init
unfolding words_from
loop-i-init c = (search rules, refl)

pub loop-i-preserved : goal.loop-i-preserved
loop-i-preserved c = (
  elim c.if-sent-i-ne0.branch [ then-sent-i-ne0 w ↦ rw w.count-is (omega arith) | else-sent-i-ne0 w ↦ rw w.count-is (omega arith) ],
  elim c.if-sent-i-ne0.branch [ then-sent-i-ne0 w ↦ rw w.count-is (count-one c.args.sent.now c.loop-i.i refl w.if-sent-i-ne0.true c.loop-i.invariant.1) | else-sent-i-ne0 w ↦ rw w.count-is (count_none c.args.sent.now c.loop-i.i refl w.if-sent-i-ne0.false c.loop-i.invariant.1) ],
)

pub returns : goal.returns
returns c = let e : c.loop-i.i ≡ c.args.n = omega arith in
    c.loop-i.invariant.1 ∙ ap (λ (k : ℕ). length (sent_words c.args.sent.now k)) e
