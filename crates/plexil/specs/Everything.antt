-- Opens every definition of the paper, for the theorems that work them out.
use Rattle.plexil.specs.Lists as Lists
use Rattle.plexil.specs.Bytes as Bytes
use Rattle.plexil.specs.Values as Values
use Rattle.plexil.specs.Image as Image
use Rattle.plexil.specs.Places as Places
use Rattle.plexil.specs.Expressions as Expressions
use Rattle.plexil.specs.Records as Records
use Rattle.plexil.specs.Scope as Scope
use Rattle.plexil.specs.Check as Check
use Rattle.plexil.specs.Atomic as Atomic
use Rattle.plexil.specs.Micro as Micro
use Rattle.plexil.specs.Quiescence as Quiescence
use Rattle.plexil.specs.Form as Form
use Rattle.plexil.specs.Macro as Macro
use Rattle.plexil.specs.Replies as Replies
use Rattle.plexil.specs.Assemble as Assemble
use Rattle.plexil.specs.Play as Play

unfoldable pub opened : Unit {0}
unfolding Lists.opened Bytes.opened Values.opened Image.opened Places.opened Expressions.opened Records.opened Scope.opened Check.opened Atomic.opened Micro.opened Quiescence.opened Form.opened Macro.opened Replies.opened Assemble.opened Play.opened
opened = tt
