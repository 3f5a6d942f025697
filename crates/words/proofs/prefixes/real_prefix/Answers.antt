-- By what follows the digits that stand first.
use Rattle.std.proofs.Common.{arith, add-one, sym, ◌∙◌}
use Rattle.words.proofs.DecimalLaws.{none-first, after-first}
use Rattle.words.proofs.prefixes.real_prefix.Goals as goal

pub returns-then-whole-eq0 : goal.returns-then-whole-eq0
returns-then-whole-eq0 c = (none-first _ _ c.digits_end-whole.ensures c.if-whole-eq0.true).1

pub returns-then-whole-t : goal.returns-then-whole-t
returns-then-whole-t c = sym ((after-first _ _ c.digits_end-whole.ensures c.if-whole-eq0.false).nothing c.if-whole-t.true).1

pub bounds-t-whole : goal.bounds-t-whole
bounds-t-whole c = omega (arith, (after-first _ _ c.digits_end-whole.ensures c.if-whole-eq0.false).fits)

pub returns-then-t-whole-ne46 : goal.returns-then-t-whole-ne46
returns-then-t-whole-ne46 c = let a = after-first _ _ c.digits_end-whole.ensures c.if-whole-eq0.false in
    sym (a.other (omega (arith, a.fits)) c.if-t-whole-ne46.true).1

pub overflow_sub-whole : goal.overflow_sub-whole
overflow_sub-whole c = omega (arith, (after-first _ _ c.digits_end-whole.ensures c.if-whole-eq0.false).few)

pub returns : goal.returns
returns c = let a = after-first _ _ c.digits_end-whole.ensures c.if-whole-eq0.false in
    c.digits_end.ensures ∙ sym (a.point _ _ (omega (arith, a.few)) (add-one _) (omega (arith, a.fits)) c.if-t-whole-ne46.false).1
