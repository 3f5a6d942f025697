-- By the node's type, and a command by its mark.
use native.Mathlib.Omega.{arith}
use Rattle.plexil.specs.Lent.{state_lent}
use mathlib.Core.Path.{refl, sym, ap, ◌∙◌}
use mathlib.Core.Bool.{not}
use lib.Dec.{eqb}
use Prim.Native.Nat.{ℕ}
use Rattle.plexil.specs.Lists.{when◌then◌else◌}
use Rattle.plexil.specs.Records.{is_list, is_command}
use Rattle.plexil.specs.Atomic.{settled}
use Rattle.plexil.proofs.ListLaws.{every-cons, every-stop, every_one}
use Rattle.plexil.proofs.TestLaws.{eq_yes, eq_no}
use Rattle.atomic.proofs.RuleLaws.{mark-is}
use Rattle.atomic.proofs.rules.is_settled.Goals as goal

pub returns-in-0 : goal.returns-in-0
unfolding settled is_list when◌then◌else◌
returns-in-0 c = rw (eq_yes c.node_type.ensures refl c.in-0.is) c.requires

pub returns-in-1 : goal.returns-in-1
unfolding settled is_list is_command when◌then◌else◌
returns-in-1 c = rw (eq_no {y = 0} c.node_type.ensures refl (λ e. omega arith)) (ap (λ (m : ℕ). not (eqb m 0)) (mark-is (state_lent c.args.before.now) _ refl c.get_or.ensures) ∙ sym (every-cons _ _ (eq_yes c.node_type.ensures refl c.in-1.is) ∙ every_one _))

pub returns-in_default : goal.returns-in_default
unfolding settled is_list is_command when◌then◌else◌
returns-in_default c = rw (eq_no {y = 0} c.node_type.ensures refl (λ e. omega arith)) (sym (every-stop _ _ (eq_no {y = 1} c.node_type.ensures refl (λ e. omega arith))))
