use mathlib.Core.Path.{◌∙◌, sym}
use native.Mathlib.Omega.{arith}
use Rattle.build.proofs.Numbers.{no_kind, kept-kind}
use Rattle.build.proofs.EntryLaws.{kind-stands}
use Rattle.build.proofs.entries.kind_kept.Goals as goal

pub returns-then-op-lt12 : goal.returns-then-op-lt12
returns-then-op-lt12 c s es n o room low t h few e = sym (no_kind o _ (omega (arith, e)))

pub returns-else-base-gt6164 : goal.returns-else-base-gt6164
returns-else-base-gt6164 c s es n o room low t h few e = kind-stands s _ es _ n _ (omega arith) t h ∙ sym (kept-kind o _ (omega (arith, e)))
