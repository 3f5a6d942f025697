-- The list's part begins with the words of the nodes below i.
use mathlib.Core.Path.{◌≡◌, refl, sym, ap, ◌∙◌}
use lib.ListN.{length-set}
use Rattle.micro.proofs.WordLaws.{sent_words, count_none, count-one, list-none, list-one, has_room}
use Prim.Native.Nat.{ℕ}
use native.Mathlib.Omega.{arith}
use Rattle.plexil.specs.Lists.{put}
use Rattle.plexil.specs.Micro.{words_from}
use Rattle.plexil.proofs.PutLaws.{put-none}
use Rattle.micro.proofs.words.put_words.Goals as goal
use Rattle.micro.proofs.words.put_words.Goals.{else-w-ne0, then-w-ne0}

pub loop-i-init : goal.loop-i-init
unfolding words_from
loop-i-init c = (refl, sym (put-none _ 0), refl)

pub offset_bounds-list-at : goal.offset_bounds-list-at
offset_bounds-list-at c = let h = has_room c.args.sent.now c.loop-i.i refl c.if-w-ne0.true _ c.loop-i-test.true _ c.requires.1 in omega (arith, c.loop-i.invariant.0, c.ranges)

pub bounds-list-at : goal.bounds-list-at
bounds-list-at c = let h = has_room c.args.sent.now c.loop-i.i refl c.if-w-ne0.true _ c.loop-i-test.true _ c.requires.1 in omega (arith, c.loop-i.invariant.0, c.loop-i.invariant.2)

pub overflow_add-at : goal.overflow_add-at
overflow_add-at c = let h = has_room c.args.sent.now c.loop-i.i refl c.if-w-ne0.true _ c.loop-i-test.true _ c.requires.1 in omega (arith, c.loop-i.invariant.0, c.ranges)

pub loop-i-preserved : goal.loop-i-preserved
loop-i-preserved c = (
  elim c.if-w-ne0.branch [ then-w-ne0 w ↦ rw w.at-is (count-one c.args.sent.now c.loop-i.i refl w.if-w-ne0.true c.loop-i.invariant.0) | else-w-ne0 w ↦ rw w.at-is (count_none c.args.sent.now c.loop-i.i refl w.if-w-ne0.false c.loop-i.invariant.0) ],
  elim c.if-w-ne0.branch [
    | then-w-ne0 w ↦ let h = has_room c.args.sent.now c.loop-i.i refl w.if-w-ne0.true _ c.loop-i-test.true _ c.requires.1 in
        rw w.list-is (list-one c.args.sent.now c.loop-i.i refl _ w.word.ensures _ _ _ c.loop-i.invariant.0 (omega (arith, c.loop-i.invariant.0)) c.loop-i.invariant.1)
    | else-w-ne0 w ↦ rw w.list-is (list-none c.args.sent.now c.loop-i.i refl w.if-w-ne0.false _ _ c.loop-i.invariant.1)
  ],
  elim c.if-w-ne0.branch [ then-w-ne0 w ↦ rw w.list-is (simp length-set c.loop-i.invariant.2) | else-w-ne0 w ↦ rw w.list-is c.loop-i.invariant.2 ],
)

pub returns : goal.returns
returns c = let e : c.loop-i.i ≡ c.args.n = omega arith in
    c.loop-i.invariant.1 ∙ ap (λ (k : ℕ). put c.args.list.now 0 (sent_words c.args.sent.now k)) e
