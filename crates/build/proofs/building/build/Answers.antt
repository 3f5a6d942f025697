-- `build::building::build` meets its contract.
use mathlib.Core.Path.{ap, refl}
use native.Mathlib.Omega.{arith}
use Rattle.recognise.specs.Recognised.{accepted_as}
use Rattle.build.proofs.BuildLaws.{limited, built-all}
use Rattle.build.proofs.building.build.Goals as goal

pub returns-then-nodes-gt256 : goal.returns-then-nodes-gt256
unfolding accepted_as
returns-then-nodes-gt256 c l a e filled w room = let f = limited _ w in absurd (omega (arith, ap (λ r. r.nodes) e, f.nodes))

pub returns-then-entries-gt2048 : goal.returns-then-entries-gt2048
unfolding accepted_as
returns-then-entries-gt2048 c l a e filled w room = let f = limited _ w in absurd (omega (arith, ap (λ r. r.entries) e, f.entries))

pub returns-then-variables-gt128 : goal.returns-then-variables-gt128
unfolding accepted_as
returns-then-variables-gt128 c l a e filled w room = let f = limited _ w in absurd (omega (arith, ap (λ r. r.variables) e, f.variables))

pub returns-then-lookups-gt64 : goal.returns-then-lookups-gt64
unfolding accepted_as
returns-then-lookups-gt64 c l a e filled w room = let f = limited _ w in absurd (omega (arith, ap (λ r. r.lookups) e, f.lookups))

pub returns : goal.returns
returns c = built-all _ _ _ _ _ _ _ _ _ _ _ _ _ c.counted-told.ensures refl refl refl c.put_header.ensures c.sections.ensures
