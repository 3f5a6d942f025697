-- By the byte after '/', a comment of either kind, or a text that is broken there.
use borrow.Author.Tests.{eq-eqb, ne_eqb}
use native.Mathlib.Omega.{arith}
use mathlib.Core.Path.{sym, ◌∙◌}
use Rattle.grammar.specs.Spelling.{slash, shut}
use Rattle.scan.specs.Reply.{passed_to, place_of}
use Rattle.scan.proofs.NextLaws.{next_past, remark-opens, aside-opens, slash-lost}
use Rattle.scan.proofs.comments.skip_comment.Goals as goal

pub returns-in-42 : goal.returns-in-42
returns-in-42 c = let a = c.args in
    let k = (c.in-Some.ensures).lookup in
    let r = c.skip_remark.ensures in
    record {
      low = omega (arith, r.low);
      high = r.high;
      same = remark-opens a.text.now a.at (k.3.0) (eq-eqb _ 42 (sym (k.3.1 0) ∙ c.in-42.is)) ∙ r.same;
    }

pub returns-in-47 : goal.returns-in-47
unfolding passed_to place_of
returns-in-47 c = let a = c.args in
    let k = (c.in-Some.ensures).lookup in
    let r = c.skip_line.ensures in
    let b = sym (k.3.1 0) ∙ c.in-47.is in
    record {
      low = omega (arith, r.low);
      high = r.high;
      same = aside-opens a.text.now a.at (k.3.0) (ne_eqb _ 42 (λ e. omega (arith, e, b))) (eq-eqb _ 47 b) ∙ r.same;
    }

pub returns-in_default-b : goal.returns-in_default-b
unfolding passed_to place_of
returns-in_default-b c = let a = c.args in
    let k = (c.in-Some.ensures).lookup in
    let b = k.3.1 0 in
    record {
      low = omega arith;
      high = omega arith;
      same = slash-lost a.text.now a.at (k.3.0) (ne_eqb _ 42 (λ e. omega (arith, b, e))) (ne_eqb _ 47 (λ e. omega (arith, b, e)));
    }

pub returns-in_default : goal.returns-in_default
unfolding passed_to place_of shut
returns-in_default c = let a = c.args in
    record { low = omega arith; high = omega arith; same = next_past a.text.now a.at slash (c.in_default.ensures).lookup.3 }
