-- The lowest record that breaks rule 10.
use Rattle.plexil.specs.declared.Rule.TheVariants as rule
use Rattle.admit.specs.Depth.{Filled}
use Rattle.plexil.specs.Check.{records, breaks}
use Rattle.plexil.proofs.LoopLaws.{Upto}
use Rattle.admit.proofs.depth.broken_deep.Given as goal

abbrev pub invariant-loop-i : goal.invariant-loop-i
invariant-loop-i l = Upto (breaks rule.Deep l.image) (records rule.Deep l.image) l.i × Filled l.image l.i l.depths
