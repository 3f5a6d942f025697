-- As the pass over the children and the rules tell.
use native.Mathlib.Omega.{arith}
use mathlib.Core.Path.{ap, ◌∙◌}
use mathlib.Core.Bool.{Bool, true, false, not}
use mathlib.Core.Path.{◌≡◌, refl}
use Rattle.plexil.specs.declared.Move.{Move}
use Rattle.plexil.specs.Micro.{stays}
use Rattle.plexil.proofs.Admitted.{few-nodes}
use Rattle.micro.proofs.rest.stays.Goals as goal

not-not : (b : Bool) → not (not b) ≡ b
not-not true = refl
not-not false = refl

pub bounds-tests-k : goal.bounds-tests-k
bounds-tests-k c = omega (arith, few-nodes _ c.requires.admitted, c.requires.i_bound)

pub bounds-tests-k-2 : goal.bounds-tests-k-2
bounds-tests-k-2 c = omega (arith, few-nodes _ c.requires.admitted, c.requires.i_bound)

pub move_of-requires : goal.move_of-requires
move_of-requires c = record {
  finished_value = c.requires.answered.finished _ (omega (arith, few-nodes _ c.requires.admitted, c.requires.i_bound));
  resting_value = c.requires.answered.resting _ (omega (arith, few-nodes _ c.requires.admitted, c.requires.i_bound));
}

pub returns : goal.returns
returns c = ap not (c.applies.ensures ∙ ap (λ (m : Move). not (stays m)) c.move_of.ensures) ∙ not-not _
