-- The parts of a step together: the walk in node order, settled, is the definition's next state.
use native.Mathlib.Omega.{arith}
use mathlib.Core.Path.{ap, ◌∙◌}
use lib.ListN.{length}
use Rattle.plexil.specs.Micro.{quiet}
use Rattle.plexil.proofs.Admitted.{few-nodes}
use Rattle.micro.proofs.StepLaws.{lent_is, words-told, next-state, ends-quiet, no-room, ends-done}
use Rattle.micro.proofs.steps.step.Goals as goal

pub returns-then-not-walk : goal.returns-then-not-walk
unfolding quiet
returns-then-not-walk c = let w = lent_is _ _ c.lent-before.ensures.arrays _ _ c.walk.ensures in ends-quiet _ c.args.s.now c.args.part.now w.0 c.if-not-walk.true

pub count_words-words-requires : goal.count_words-words-requires
count_words-words-requires c = omega (arith, few-nodes _ c.requires.0, c.node_count-n.ensures)

pub returns-then-words-part : goal.returns-then-words-part
unfolding quiet
returns-then-words-part c = let w = lent_is _ _ c.lent-before.ensures.arrays _ _ c.walk.ensures in
    no-room _ c.args.s.now c.args.part.now w.0 c.if-not-walk.false (c.count_words-words.ensures ∙ ap length (words-told _ c.args.s.now _ _ c.node_count-n.ensures w.2)) c.if-words-part.true

pub put_words-requires : goal.put_words-requires
put_words-requires c = (omega (arith, few-nodes _ c.requires.0, c.node_count-n.ensures), omega (arith, c.count_words-words.ensures, c.if-words-part.false))

pub returns : goal.returns
unfolding quiet
returns c = let w = lent_is _ _ c.lent-before.ensures.arrays _ _ c.walk.ensures in
    ends-done _ c.args.s.now c.args.part.now w.0 c.if-not-walk.false (c.count_words-words.ensures ∙ ap length (words-told _ c.args.s.now _ _ c.node_count-n.ensures w.2)) c.if-words-part.false
    (next-state _ c.args.s.now c.requires.0 c.lent-before.ensures.sized _ _ c.nothing-carry.ensures w.1 c.settle.ensures) c.put_words.ensures (words-told _ c.args.s.now _ _ c.node_count-n.ensures w.2)
