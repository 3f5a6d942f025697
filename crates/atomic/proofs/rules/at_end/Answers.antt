-- By the node's type, and a command by its mark.
use native.Mathlib.Omega.{arith}
use Rattle.plexil.specs.Lent.{state_lent}
use mathlib.Core.Path.{refl}
use Rattle.plexil.specs.Lists.{when◌then◌else◌}
use Rattle.plexil.specs.Records.{is_list, is_command}
use Rattle.plexil.specs.Atomic.{at_end}
use Rattle.plexil.proofs.TestLaws.{eq_yes, eq_no}
use Rattle.atomic.proofs.RuleLaws.{marked, unmarked}
use Rattle.atomic.proofs.rules.at_end.Goals as goal

pub returns-in-0 : goal.returns-in-0
unfolding at_end is_list when◌then◌else◌
returns-in-0 c = rw (eq_yes c.node_type.ensures refl c.in-0.is)

pub returns-then-get_or-eq0 : goal.returns-then-get_or-eq0
unfolding at_end is_list is_command when◌then◌else◌
returns-then-get_or-eq0 c = rw (eq_yes c.node_type.ensures refl c.in-1.is, eq_no {y = 0} c.node_type.ensures refl (λ e. omega arith), unmarked (state_lent c.args.before.now) _ refl c.get_or.ensures c.if-get_or-eq0.true)

pub returns-else-get_or-eq0 : goal.returns-else-get_or-eq0
unfolding at_end is_list is_command when◌then◌else◌
returns-else-get_or-eq0 c = rw (eq_yes c.node_type.ensures refl c.in-1.is, eq_no {y = 0} c.node_type.ensures refl (λ e. omega arith), marked (state_lent c.args.before.now) _ refl c.get_or.ensures c.if-get_or-eq0.false)

pub returns-in_default : goal.returns-in_default
unfolding at_end is_list is_command when◌then◌else◌
returns-in_default c = rw (eq_no {y = 0} c.node_type.ensures refl (λ e. omega arith), eq_no {y = 1} c.node_type.ensures refl (λ e. omega arith))
