-- `names::Tables::node_at` meets its contract: the node's name is compared where it stands in the text.
use Rattle.names.proofs.GoingUp.{small_at, some-is}
use Rattle.grammar.specs.Leads.{same}
use mathlib.Core.Path.{ap, sym, ◌∙◌}
use Rattle.names.specs.Answers.{found_of}
use Rattle.names.proofs.Resolved.{at_here, at-child}
use Rattle.recognise.specs.Hears.{piece}
use Rattle.names.proofs.table.Tables.node_at.Goals as goal

pub returns-then-same : goal.returns-then-same
unfolding piece
returns-then-same c = (λ l a r. some-is _ ∙ ap found_of (sym (at_here _ l a _ _ (ap (λ y. same y c.args.x.now) (sym (c.node-e.ensures.0 l a r).name) ∙ sym c.same.ensures ∙ c.if-same.true))), small_at _ (some-is _) c.requires)

pub returns : goal.returns
unfolding piece
returns c = (λ l a r. c.child_of.ensures.0 l a r ∙ ap found_of (sym (at-child _ l a _ _ (ap (λ y. same y c.args.x.now) (sym (c.node-e.ensures.0 l a r).name) ∙ sym c.same.ensures ∙ c.if-same.false))), c.child_of.ensures.1)
