-- An assignment's value is an entry.
use mathlib.Core.Path.{sym, ◌∙◌}
use Rattle.admit.proofs.OwnerLaws.{value-within}
use Rattle.admit.proofs.reach.Reach.assignment_in_scope.Goals as goal

pub may_read-requires-clause-e_bound : goal.may_read-requires-clause-e_bound
may_read-requires-clause-e_bound c = value-within _ c.args.self.now.ordered _ _ c.requires (sym c.node_type.ensures ∙ c.if-node_type-ne2.false) c.value_field-e.ensures
