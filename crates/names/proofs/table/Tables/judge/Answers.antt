-- `names::Tables::judge` meets its contract: each role by its mentions.
use Rattle.std.proofs.Common.{rules}
use Rattle.names.proofs.GoingUp.{none-is}
use mathlib.Core.Path.{ap, sym, ◌∙◌, subst}
use mathlib.Core.List.{[]}
use native.Mathlib.Omega.{arith}
use Rattle.notation.specs.Hearing.{draft_of}
use Rattle.notation.specs.Names.{bad_mention}
use Rattle.recognise.specs.Hears.{piece}
use Rattle.names.specs.Tale.{parts}
use Rattle.names.specs.Answers.{found_of}
use Rattle.names.specs.Judging as Judging
use Rattle.names.specs.Judging.{unless_of, PathIs, settled_by}
use Rattle.names.proofs.Judgements as J
use Rattle.names.proofs.Judgements.{answer-found}
use Rattle.names.proofs.table.Tables.judge.Goals as goal

pub returns-in-0-to-3 : goal.returns-in-0-to-3
unfolding piece Judging.Judged
returns-in-0-to-3 c = λ l a r b x h i z. c.unless-in-0-to-3.ensures ∙ ap (λ t. found_of (unless_of t c.args.w.from)) (c.is_first.ensures l a r) ∙ ap found_of (sym (J.judged-first _ l a _ b x h _ (search rules) (i (search rules))))

pub returns-in-7 : goal.returns-in-7
unfolding piece Judging.Judged
returns-in-7 c = λ l a r b x h i z. c.unless.ensures ∙ ap (λ t. found_of (unless_of t c.args.w.from)) (c.is_some.ensures ∙ answer-found _ _ (c.command_of.ensures l a r)) ∙ ap found_of (sym (J.judged-call _ l a _ b x h c.in-7.is))

pub returns-in-8 : goal.returns-in-8
unfolding piece Judging.Judged
returns-in-8 c = λ l a r b x h i z. c.unless-in-8.ensures ∙ ap (λ t. found_of (unless_of t c.args.w.from)) (c.is_some-in-8.ensures ∙ answer-found _ _ (rw c.here-n.ensures at (c.variable_of.ensures l a r))) ∙ ap found_of (sym (J.judged-assign _ l a _ b x h c.in-8.is))

pub returns-in-9 : goal.returns-in-9
unfolding piece Judging.Judged
returns-in-9 c = λ l a r b x h i z. c.unless-in-9.ensures ∙ ap (λ t. found_of (unless_of t c.args.w.from)) (c.is_some-in-9.ensures ∙ answer-found _ _ (c.lookup_of.ensures l a r)) ∙ ap found_of (sym (J.judged-read _ l a _ b x h c.in-9.is))

pub returns-in-12 : goal.returns-in-12
unfolding Judging.Judged
returns-in-12 c = λ l a r b x h i z.
    c.ask.ensures l a r b.held (subst (λ k. PathIs c.args.self.text.now (draft_of l) k b.held c.args.p) (sym (c.here-n.ensures ∙ J.here-is _ l a _ b x h (omega (arith, c.in-12.is)))) z)
    ∙ ap (λ k. found_of (bad_mention (draft_of l) (parts k [] b.held))) c.here-n.ensures ∙ ap (λ k. found_of (bad_mention (draft_of l) k)) (sym (J.judged-ask _ l a _ b x h c.in-12.is))

pub returns-in-13 : goal.returns-in-13
unfolding Judging.Judged
returns-in-13 c = λ l a r b x h i z.
    c.settle.ensures l a r b.held (subst (λ k. PathIs c.args.self.text.now (draft_of l) k b.held c.args.p) (sym (c.here-n.ensures ∙ J.here-is _ l a _ b x h (omega (arith, c.in-13.is)))) z)
    ∙ ap (λ k. found_of (bad_mention (draft_of l) (settled_by k b.held))) c.here-n.ensures ∙ ap (λ k. found_of (bad_mention (draft_of l) k)) (sym (J.judged-settle _ l a _ b x h c.in-13.is))

pub returns-in_default : goal.returns-in_default
unfolding Judging.Judged
returns-in_default c = λ l a r b x h i z. none-is ∙ ap found_of (sym (J.judged-none _ l a _ b x h (search rules) (search rules) (search rules) (search rules) (search rules) (search rules)))
