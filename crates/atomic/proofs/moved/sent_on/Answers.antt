-- By the node's type, the status it goes to, and its mark.
use mathlib.Core.Path.{refl}
use Rattle.plexil.specs.Lists.{when◌then◌else◌, every}
use Rattle.plexil.specs.Records.{is_command}
use mathlib.Core.Path.{◌≡◌}
use mathlib.Core.Bool.{false}
use Rattle.plexil.specs.Places.{same, status_code}
use Rattle.plexil.specs.Micro.{sent_by}
use Rattle.plexil.proofs.TestLaws.{eq_yes, eq_no}
use Rattle.plexil.proofs.Statuses.{apart, itself}
use Rattle.plexil.specs.declared.Status.TheVariants.{Executing, Failing}
use Rattle.atomic.proofs.RuleLaws.{marked, unmarked}
use Rattle.atomic.proofs.moved.sent_on.Goals as goal

failing-not-executing : same Failing Executing ≡ false
unfolding same status_code
failing-not-executing = refl

pub returns-then-node_type-ne1 : goal.returns-then-node_type-ne1
unfolding sent_by every when◌then◌else◌ is_command
returns-then-node_type-ne1 c = λ s e h. rw (eq_no c.node_type.ensures refl c.if-node_type-ne1.true)

pub returns-in-Executing : goal.returns-in-Executing
unfolding sent_by every when◌then◌else◌ is_command
returns-in-Executing c = λ s e h. rw (eq_yes c.node_type.ensures refl c.if-node_type-ne1.false, c.in-Executing.is, itself Executing)

pub returns-then-get_or-eq0 : goal.returns-then-get_or-eq0
unfolding sent_by every when◌then◌else◌ is_command
returns-then-get_or-eq0 c = λ s e h. rw (eq_yes c.node_type.ensures refl c.if-node_type-ne1.false, c.in-Failing.is, failing-not-executing, itself Failing, unmarked s _ h c.get_or.ensures c.if-get_or-eq0.true)

pub returns-else-get_or-eq0 : goal.returns-else-get_or-eq0
unfolding sent_by every when◌then◌else◌ is_command
returns-else-get_or-eq0 c = λ s e h. rw (eq_yes c.node_type.ensures refl c.if-node_type-ne1.false, c.in-Failing.is, failing-not-executing, itself Failing, marked s _ h c.get_or.ensures c.if-get_or-eq0.false)

pub returns-in_default : goal.returns-in_default
unfolding sent_by every when◌then◌else◌ is_command
returns-in_default c = λ s e h. rw (eq_yes c.node_type.ensures refl c.if-node_type-ne1.false, apart _ _ c.in_default.not-Executing, apart _ _ c.in_default.not-Failing)
