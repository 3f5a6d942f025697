-- After e turns the first e entries are answered, so that the operands of entry e are.
use mathlib.Core.Path.{◌≡◌}
use lib.ListN.{length}
use Rattle.plexil.specs.declared.State.{State}
use Rattle.plexil.specs.Places.{seen}
use Rattle.plexil.specs.Lent.{seen_lent}
use Rattle.plexil.specs.Promises.{IsKept}
use Rattle.plexil.specs.Image.{expr_count}
use Rattle.answers.specs.Table.{Below}
use Rattle.answers.proofs.table.fill.Given as goal

abbrev pub invariant-loop-e : goal.invariant-loop-e
invariant-loop-e l = (l.e-end ≡ expr_count l.image) × (length l.tags ≡ 2048) × (length l.bits ≡ 2048)
    × ((s : State) → seen s ≡ seen_lent l.lent → IsKept l.image s → Below l.image (seen s) l.e l.tags l.bits)
