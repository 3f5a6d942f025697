-- Past blanks and comments, what comes next at `from` is what comes next at `at`.
use borrow.Author.Tests.{eq-eqb, ne_eqb}
use native.Mathlib.Omega.{arith}
use Prim.Native.Nat.{◌<◌}
use mathlib.Core.Path.{sym, ◌∙◌, ap}
use lib.ListN.{length}
use Rattle.grammar.specs.Scan.{token}
use Rattle.scan.specs.Reply.{token_of, passed_to, place_of}
use Rattle.std.proofs.lemmas.Result.{err_from_is_err_and}
use Rattle.scan.proofs.NextLaws.{done-past, slash-on, token-here}
use Rattle.scan.proofs.tokens.token_at.Goals as goal

pub returns-then-text-from-ne47 : goal.returns-then-text-from-ne47
unfolding token_of
returns-then-text-from-ne47 c = let u = c.args.text.now in
    let i = c.loop-from.«from» in
    let h : i < length u = omega arith in
    let e = token-here u i h (c.loop-from.invariant.1 h) (ne_eqb _ 47 (λ e. omega arith)) in
    ap (λ t. token_of (token i t)) c.token_end-to.ensures ∙ ap token_of (sym e ∙ c.loop-from.invariant.0)

pub returns-in_err-skip_comment : goal.returns-in_err-skip_comment
unfolding token_of passed_to
returns-in_err-skip_comment c = let u = c.args.text.now in
    let i = c.loop-from.«from» in
    let h : i < length u = omega arith in
    let e = slash-on u i h (c.loop-from.invariant.1 h) (eq-eqb _ 47 (omega arith)) in
    let p = err_from_is_err_and c.from_residual.result c.from_residual.ensures.1 in
    rw (p.1, p.2) (ap token_of (sym (rw c.in_err-skip_comment.was at c.skip_comment.ensures.same) ∙ sym e ∙ c.loop-from.invariant.0))

pub loop-from-smaller : goal.loop-from-smaller
unfolding place_of
loop-from-smaller c = let r = rw c.in_ok-skip_comment.was at c.skip_comment.ensures in omega (arith, c.skip_blanks-from-in-loop-from.ensures.low, r.low)

pub loop-from-preserved : goal.loop-from-preserved
unfolding passed_to
loop-from-preserved c = let u = c.args.text.now in
    let i = c.loop-from.«from» in
    let h : i < length u = omega arith in
    let e = slash-on u i h (c.loop-from.invariant.1 h) (eq-eqb _ 47 (omega arith)) in
    let s = rw c.in_ok-skip_comment.was at c.skip_comment.ensures in
    let r = c.skip_blanks-from-in-loop-from.ensures in
    (r.same ∙ sym (e ∙ s.same) ∙ c.loop-from.invariant.0, r.stops)

pub returns : goal.returns
unfolding token_of
returns c = let u = c.args.text.now in
    ap token_of (sym (done-past u c.loop-from.«from» (omega arith)) ∙ c.loop-from.invariant.0)
