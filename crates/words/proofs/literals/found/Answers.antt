-- The word is sought in the rest of the group.
use Rattle.std.proofs.Common.{ap, ◌∙◌}
use Rattle.grammar.specs.Leads.{same}
use Rattle.words.proofs.Groups.{sought-start, found_here, found-next, found_none, class-after, later-words}
use Rattle.words.proofs.literals.found.Goals as goal

pub loop-rest-init : goal.loop-rest-init
loop-rest-init c = sought-start _ _

pub returns-then-same : goal.returns-then-same
returns-then-same c = class-after c.loop-rest.rest.now c.split_at.result.1.now _ c.split_at.ensures.back ∙ found_here _ _ _ c.loop-rest.invariant c.loop-rest-test.true (c.same.ensures ∙ ap (λ l. same l c.args.t.now) c.split_at.ensures.front) c.if-same.true

pub loop-rest-preserved : goal.loop-rest-preserved
loop-rest-preserved c = found-next _ _ _ c.loop-rest.invariant c.loop-rest-test.true (c.same.ensures ∙ ap (λ l. same l c.args.t.now) c.split_at.ensures.front) c.if-same.false _ (later-words c.loop-rest.rest.now c.split_at.result.1.now _ c.split_at.ensures.back)

pub returns : goal.returns
returns c = found_none _ _ _ c.loop-rest.invariant c.loop-rest-test.false
