-- The lower one's node, if it is below the other's.
use mathlib.Core.Path.{refl, sym, ◌∙◌}
use Rattle.admit.proofs.OwnerLaws.{allows-nothing, allows-nobody, both_first, both-second, both_false, both-false', lower-first, lower-second, on-two-branches}
use Rattle.admit.proofs.owners.both.Goals as goal

pub returns-then-a-eq0-clause-by_index : goal.returns-then-a-eq0-clause-by_index
returns-then-a-eq0-clause-by_index c = λ i l. both_first _ _ (allows-nothing _ _ i c.if-a-eq0.true)

pub returns-then-b-eq0-clause-by_index : goal.returns-then-b-eq0-clause-by_index
returns-then-b-eq0-clause-by_index c = λ i l. both-second _ _ (allows-nothing _ _ i c.if-b-eq0.true)

pub returns-then-a-eq257-clause-by_index : goal.returns-then-a-eq257-clause-by_index
returns-then-a-eq257-clause-by_index c = λ i l. allows-nobody _ _ i refl ∙ both_false _ _ (allows-nobody _ _ i c.if-a-eq257.true)

pub returns-then-b-eq257-clause-by_index : goal.returns-then-b-eq257-clause-by_index
returns-then-b-eq257-clause-by_index c = λ i l. allows-nobody _ _ i refl ∙ both-false' _ _ (allows-nobody _ _ i c.if-b-eq257.true)

pub returns-then-allowed-clause-by_index : goal.returns-then-allowed-clause-by_index
returns-then-allowed-clause-by_index c = lower-first _ c.requires.ordered _ _ c.if-a-eq0.false c.if-b-eq0.false c.if-a-eq257.false c.if-b-eq257.false (sym c.allowed.ensures ∙ c.if-allowed.true)

pub returns-then-allowed-2-clause-by_index : goal.returns-then-allowed-2-clause-by_index
returns-then-allowed-2-clause-by_index c = lower-second _ c.requires.ordered _ _ c.if-a-eq0.false c.if-b-eq0.false c.if-a-eq257.false c.if-b-eq257.false (sym c.allowed-2.ensures ∙ c.if-allowed-2.true)

pub returns-clause-by_index : goal.returns-clause-by_index
returns-clause-by_index c = on-two-branches _ c.requires.ordered _ _ c.if-a-eq0.false c.if-b-eq0.false c.if-a-eq257.false c.if-b-eq257.false (sym c.allowed.ensures ∙ c.if-allowed.false) (sym c.allowed-2.ensures ∙ c.if-allowed-2.false)
