-- After each round what is left of the run goes on from here.
use Rattle.turns.proofs.RunLaws.{Going}
use Rattle.turns.proofs.runs.run_steps.Given as goal

abbrev pub invariant-loop-steps : goal.invariant-loop-steps
invariant-loop-steps l = Going l.image l.initial.state l.budget l.initial.list l.start l.steps l.state l.list l.next
