-- Below e the table is that of the new state, from e on that of the old one.
use mathlib.Core.Path.{◌≡◌}
use lib.ListN.{length}
use Rattle.plexil.specs.declared.State.{State}
use Rattle.plexil.specs.Places.{seen}
use Rattle.plexil.specs.Lent.{seen_lent}
use Rattle.plexil.specs.Promises.{IsKept}
use Rattle.answers.specs.Table.{IsTable}
use Rattle.answers.specs.Changes.{Covers, Unchanged, Outside, Upto}
use Rattle.answers.proofs.renewal.refresh.Given as goal

abbrev pub invariant-loop-e : goal.invariant-loop-e
invariant-loop-e l = (length l.tags ≡ 2048) × (length l.bits ≡ 2048) × (length l.changed ≡ 2048)
    × ((s t : State) → IsTable l.image s l.initial.tags l.initial.bits → IsKept l.image t → seen t ≡ seen_lent l.lent → Covers (seen s) (seen t) l.altered → Outside l.image (seen s) (seen t) l.lo l.hi
    → Upto l.image (seen s) (seen t) l.e l.tags l.bits × Unchanged l.image (seen s) (seen t) l.changed l.e)
