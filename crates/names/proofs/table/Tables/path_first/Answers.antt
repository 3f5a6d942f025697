-- `names::Tables::path_first` meets its contract: a name alone is looked for upwards.
use Rattle.notation.specs.Hearing.{draft_of}
use Rattle.recognise.specs.Hears.{piece}
use Rattle.names.specs.Judging.{part_of, followed_of}
use Rattle.names.proofs.GoingUp.{small-end}
use Rattle.names.proofs.Paths.{first_one, first-keep}
use Rattle.names.proofs.table.Tables.path_first.Goals as goal

pub returns-in-Name : goal.returns-in-Name
unfolding piece followed_of part_of
returns-in-Name c = rw c.followed.ensures (
  λ l a r. first_one _ (draft_of l) _ _ c.sought-f.result c.in-Name.is (c.sought-f.ensures.0 l a r),
  record { ordered = c.requires.1.ordered; within = c.requires.1.within; small = small-end _ _ c.sought-f.ensures.1 },
)

pub returns-in_default : goal.returns-in_default
returns-in_default c = (λ l a r. first-keep _ (draft_of l) _ _ c.in_default.not-Name, c.requires.1)
