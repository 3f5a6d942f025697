-- `sealed` meets its contract: by its test.
use mathlib.Core.Path.{refl}
use borrow.Author.Tests.{lt-ltb, le-ltb}
use Rattle.recognise.specs.Tape.{sealed}
use Rattle.recognise.proofs.tape.sealed.Goals as goal

-- src/tape.rt:66:1
pub returns-then-i-gt19640 : goal.returns-then-i-gt19640
unfolding sealed
returns-then-i-gt19640 c = rw (lt-ltb _ _ c.if-i-gt19640.true) refl

-- src/tape.rt:66:1
pub returns-else-i-gt19640 : goal.returns-else-i-gt19640
unfolding sealed
returns-else-i-gt19640 c = rw (le-ltb _ _ c.if-i-gt19640.false) refl
