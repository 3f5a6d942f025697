use mathlib.Core.Path.{sym, ◌∙◌, ap}
use native.Mathlib.Omega.{arith}
use Rattle.plexil.specs.Lists.{put}
use Rattle.build.proofs.EntryLaws.{stands-more}
use Rattle.build.proofs.entries.emit.Goals as goal

pub returns : goal.returns
returns c s es e room low few t q = stands-more s _ es room low _ _ _ e t few (λ f. c.put_entry.ensures f ∙ ap (put _ _) (sym q))

pub returns-then-base-gt6164 : goal.returns-then-base-gt6164
returns-then-base-gt6164 c s es e room low few t q = absurd (omega arith)

pub returns-then-n-ge2048 : goal.returns-then-n-ge2048
returns-then-n-ge2048 c s es e room low few t q = absurd (omega (arith, t.counted))
