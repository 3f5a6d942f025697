-- `names::Tables::path_next` meets its contract: the next part is looked for among the children.
use Rattle.notation.specs.Hearing.{draft_of}
use Rattle.recognise.specs.Hears.{piece}
use Rattle.names.specs.Judging.{part_of, followed_of}
use Rattle.names.proofs.GoingUp.{small-end}
use Rattle.names.proofs.Paths.{next-lost, next-on}
use Rattle.names.proofs.table.Tables.path_next.Goals as goal

pub returns-in-Err : goal.returns-in-Err
returns-in-Err c = (λ l a r. next-lost _ (draft_of l) _ _ _ _ c.in-Err.is, c.requires.2)

pub sought-f-requires : goal.sought-f-requires
sought-f-requires c = rw c.in-Ok.is at c.requires.2.small

pub returns-in-Ok : goal.returns-in-Ok
unfolding piece followed_of part_of
returns-in-Ok c = rw c.followed.ensures (
  λ l a r. next-on _ (draft_of l) _ _ _ _ c.sought-f.result c.in-Ok.is (c.sought-f.ensures.0 l a r),
  record { ordered = c.requires.2.ordered; within = c.requires.2.within; small = small-end _ _ c.sought-f.ensures.1 },
)
