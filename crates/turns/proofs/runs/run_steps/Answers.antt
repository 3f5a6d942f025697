-- After each round what is left of the run goes on from here.
use native.Mathlib.Omega.{arith}
use lib.ListN.{length}
use mathlib.Core.Path.{refl, sym, ap, ◌∙◌}
use Rattle.plexil.specs.Micro.{quiet}
use Rattle.plexil.specs.Quiescence.{at_quiet, spent, no_room}
use Rattle.plexil.specs.Replies.{end_answer, phase_after}
use Rattle.turns.proofs.RunLaws.{going-quiet-last, going-spent-last, ended-quiet, ended-crowded, ended-done, back-same, going_start, going-quiet, going-crowded, going_on, reply-of}
use Rattle.turns.proofs.runs.run_steps.Goals as goal

pub loop-steps-init : goal.loop-steps-init
loop-steps-init c = going_start _ _ _ _ _ c.requires.1 c.requires.2

pub slice_bounds-step-count : goal.slice_bounds-step-count
slice_bounds-step-count c = omega (arith, c.loop-steps.invariant.room, c.loop-steps.invariant.long)

pub slice_bounds-step-start : goal.slice_bounds-step-start
slice_bounds-step-start c = omega (arith, c.loop-steps.invariant.room, c.loop-steps.invariant.long)

pub slice_bounds-step-end : goal.slice_bounds-step-end
slice_bounds-step-end c = omega (arith, c.loop-steps.invariant.room, c.loop-steps.invariant.long)

pub step-requires : goal.step-requires
step-requires c = (c.requires.0, c.loop-steps.invariant.kept)

pub shape_of-list-in-Quiet : goal.shape_of-list-in-Quiet
shape_of-list-in-Quiet c = let e = ended-quiet _ _ _ c.step.ensures.0 c.step.ensures.1 c.in-Quiet.is in ap length (back-same _ _ c.loop-steps.invariant.room e.1) ∙ c.loop-steps.invariant.long

pub returns-in-Quiet : goal.returns-in-Quiet
unfolding end_answer phase_after
returns-in-Quiet c = let e = ended-quiet _ _ _ c.step.ensures.0 c.step.ensures.1 c.in-Quiet.is in reply-of _ at_quiet (going-quiet _ _ _ _ _ c.loop-steps.invariant e.0) c.ended.ensures (back-same _ _ c.loop-steps.invariant.room e.1)

pub shape_of-list-in-NoRoom : goal.shape_of-list-in-NoRoom
shape_of-list-in-NoRoom c = let e = ended-crowded _ _ _ c.step.ensures.0 c.step.ensures.1 c.in-NoRoom.is in ap length (back-same _ _ c.loop-steps.invariant.room e.2) ∙ c.loop-steps.invariant.long

pub returns-in-NoRoom : goal.returns-in-NoRoom
unfolding end_answer phase_after
returns-in-NoRoom c = let e = ended-crowded _ _ _ c.step.ensures.0 c.step.ensures.1 c.in-NoRoom.is in reply-of _ no_room (going-crowded _ _ _ _ _ c.loop-steps.invariant c.loop-steps-test.true e.0 e.1) c.ended-in-NoRoom.ensures (back-same _ _ c.loop-steps.invariant.room e.2)

pub overflow_add-next : goal.overflow_add-next
overflow_add-next c = let e = ended-done _ _ _ c.step.ensures.0 c.step.ensures.1 c.in-Done.is in let g = going_on _ _ _ _ _ c.loop-steps.invariant c.requires.0 c.loop-steps-test.true e.0 e.1 e.2 e.3 e.4 in omega (arith, g.room, g.long)

pub loop-steps-preserved : goal.loop-steps-preserved
loop-steps-preserved c = let e = ended-done _ _ _ c.step.ensures.0 c.step.ensures.1 c.in-Done.is in going_on _ _ _ _ _ c.loop-steps.invariant c.requires.0 c.loop-steps-test.true e.0 e.1 e.2 e.3 e.4

pub is_quiet-requires : goal.is_quiet-requires
is_quiet-requires c = c.requires.0

pub shape_of-list-then-is_quiet : goal.shape_of-list-then-is_quiet
shape_of-list-then-is_quiet c = c.loop-steps.invariant.long

pub returns-then-is_quiet : goal.returns-then-is_quiet
unfolding end_answer phase_after
returns-then-is_quiet c = reply-of _ at_quiet (going-quiet-last _ _ _ _ _ c.loop-steps.invariant c.loop-steps-test.false (sym (c.is_quiet.ensures ∙ ap (quiet c.args.image.now) c.lent.ensures.arrays) ∙ c.if-is_quiet.true)) c.ended-then-is_quiet.ensures refl

pub shape_of-list : goal.shape_of-list
shape_of-list c = c.loop-steps.invariant.long

pub returns : goal.returns
unfolding end_answer phase_after
returns c = reply-of _ spent (going-spent-last _ _ _ _ _ c.loop-steps.invariant c.loop-steps-test.false (sym (c.is_quiet.ensures ∙ ap (quiet c.args.image.now) c.lent.ensures.arrays) ∙ c.if-is_quiet.false)) c.ended-2.ensures refl
