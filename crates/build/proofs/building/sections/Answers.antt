-- `build::building::sections` meets its contract.
use native.Mathlib.Omega.{arith}
use lib.ListN.{get_or-replicate}
use mathlib.Core.Path.{refl}
use Rattle.build.proofs.BuildLaws.{made_all}
use Rattle.build.proofs.building.sections.Goals as goal

pub returns : goal.returns
returns c l a f ready e g b v p room head = made_all _ _ _ _ _ _ _ _ _ _ _ _ _ _ _ _ l c.fill_kinds.ensures c.declarations-at.ensures c.node.ensures refl refl (λ i h. get_or-replicate 704 i 0 0 (omega arith)) a f ready e g b v p room head
