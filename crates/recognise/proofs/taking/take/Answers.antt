-- The token as the definition reads it, and its step.
use Rattle.recognise.proofs.Pieces.{slice-part}
use Rattle.notation.specs.Classes.{class_of}
use mathlib.Core.Path.{◌∙◌, sym, ap}
use Rattle.std.specs.Prelude.{Ok}
use Rattle.std.proofs.lemmas.Result.{err_from_is_err_and}
use Rattle.recognise.proofs.Takings.{taken-done, taken-broken, taken-token, token-within, as-came, as-refused}
use Rattle.recognise.specs.Steps.{step_of}
use Rattle.recognise.specs.Replies.{came}
use Rattle.recognise.proofs.taking.take.Goals as goal

pub returns-in_err-token : goal.returns-in_err-token
returns-in_err-token c = let p = err_from_is_err_and c.from_residual.result c.from_residual.ensures.1 in
    rw (p.1, p.2) (taken-broken _ _ _ _ (sym c.token_at.ensures ∙ c.in_err-token.was))

pub returns-in_default : goal.returns-in_default
returns-in_default c = taken-done _ _ _ (sym c.token_at.ensures ∙ c.in_ok-token.was ∙ ap Ok c.in_default.is)

pub slice_bounds-class_of-count : goal.slice_bounds-class_of-count
slice_bounds-class_of-count c = (token-within _ _ _ (sym c.token_at.ensures ∙ c.in_ok-token.was ∙ ap Ok c.in-Some.is)).0

pub slice_bounds-class_of-start : goal.slice_bounds-class_of-start
slice_bounds-class_of-start c = (token-within _ _ _ (sym c.token_at.ensures ∙ c.in_ok-token.was ∙ ap Ok c.in-Some.is)).0

pub slice_bounds-class_of-end : goal.slice_bounds-class_of-end
slice_bounds-class_of-end c = (token-within _ _ _ (sym c.token_at.ensures ∙ c.in_ok-token.was ∙ ap Ok c.in-Some.is)).1

pub returns-in_default-step : goal.returns-in_default-step
returns-in_default-step c = let t = sym c.token_at.ensures ∙ c.in_ok-token.was ∙ ap Ok c.in-Some.is in
    let k = c.class_of-class.ensures ∙ ap class_of (sym (slice-part c.in-Some.token.from c.in-Some.token.to c.args.text.now)) in
    as-refused _ _ _ (sym c.in_default-step.is ∙ c.step.ensures ∙ ap (λ j. came (step_of c.args.a j)) k) ∙ taken-token _ _ _ _ t

pub returns : goal.returns
returns c = let t = sym c.token_at.ensures ∙ c.in_ok-token.was ∙ ap Ok c.in-Some.is in
    let k = c.class_of-class.ensures ∙ ap class_of (sym (slice-part c.in-Some.token.from c.in-Some.token.to c.args.text.now)) in
    as-came _ _ _ _ (sym c.in-Some-step.is ∙ c.step.ensures ∙ ap (λ j. came (step_of c.args.a j)) k) ∙ taken-token _ _ _ _ t
