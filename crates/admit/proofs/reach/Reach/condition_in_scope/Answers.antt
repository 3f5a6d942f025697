-- A condition that is given is an entry.
use Rattle.admit.proofs.OwnerLaws.{given-within}
use Rattle.admit.proofs.reach.Reach.condition_in_scope.Goals as goal

pub may_read-requires-clause-e_bound : goal.may_read-requires-clause-e_bound
may_read-requires-clause-e_bound c = given-within _ c.args.self.now.ordered _ _ _ c.requires c.condition_field-e.ensures c.if-e.false
