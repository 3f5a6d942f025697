use native.Mathlib.Omega.{arith}
use Rattle.build.proofs.RecordLaws.{lookup-recorded}
use Rattle.build.proofs.declarations.lookup.Goals as goal

pub returns-then-base-le40980 : goal.returns-then-base-le40980
returns-then-base-le40980 c under old cs ls l t e h low room k = lookup-recorded _ under old _ _ cs ls t l _ _ _ e (omega arith) low room k c.put_lookup.ensures

pub returns-else-base-le40980 : goal.returns-else-base-le40980
returns-else-base-le40980 c under old cs ls l t e h low room k = absurd (omega arith)

pub returns-else-i-lt64 : goal.returns-else-i-lt64
returns-else-i-lt64 c under old cs ls l t e h low room k = absurd (omega arith)
